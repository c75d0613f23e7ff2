use Rattle.std.proofs.Common.{◌∙◌, sym, ap, arith}
use Rattle.faults.specs.Faults.{number_in}
use Rattle.image.proofs.Records.{file_is}
use Rattle.image.proofs.Files.{placed_more, loaded_more}
use Rattle.image.proofs.loading.load.Goals as goal

pub bounds-devices-k : goal.bounds-devices-k
bounds-devices-k c =
    let few = (file_is _ (ap number_in (sym c.bus_fault.ensures ∙ c.in_ok-bus_fault.was))).0 in
    let w = c.in-Some.ensures.steps in
    let v = c.loop-k.invariant in
    let place = placed_more _ _ _ _ _ v.1 w.0.1.0 (w.0.1.1 ∙ v.0) in
    let k = w.1 in omega (arith, few, place, k)

pub loop-k-preserved : goal.loop-k-preserved
loop-k-preserved c =
    let w = c.in-Some.ensures.steps in
    let v = c.loop-k.invariant in
    let n = w.0.1.1 ∙ v.0 in
    (w.0.0 ∙ v.0, rw w.2 (placed_more _ _ _ _ _ v.1 w.0.1.0 n), rw (w.1, w.2, c.read_record.ensures) (loaded_more _ _ _ _ _ _ v.2 w.0.1.0 n))
