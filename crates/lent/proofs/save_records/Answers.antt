-- One more record stands after those before it.
use Rattle.std.proofs.Common.{refl, sym, length, ◌<◌, arith}
use lib.Seq.{take_all}
use Rattle.image.specs.Image.{saved_of}
use Rattle.image.proofs.Files.{saved_length, saved_more}
use Rattle.image.proofs.Lists.{laid_nothing}
use Rattle.lent.proofs.save_records.Goals as goal

pub loop-i-init : goal.loop-i-init
unfolding saved_of
loop-i-init c = record { long = refl; laid = sym (laid_nothing _ 0) }

pub loop-i-preserved : goal.loop-i-preserved
loop-i-preserved c =
    let v = c.loop-i.invariant in
    let l : c.loop-i.i < length c.args.table.now = omega arith in
    let w = c.save_record.ensures.whole (omega (arith, c.requires)) in
    record { long = saved_length _ _ _ l w v.long; laid = rw (c.save_record.ensures.placed, v.laid) (saved_more _ _ _ l w v.long _ c.requires) }

pub returns : goal.returns
returns c = rw (take_all c.loop-i.i c.args.table.now (omega arith)) at c.loop-i.invariant.laid
