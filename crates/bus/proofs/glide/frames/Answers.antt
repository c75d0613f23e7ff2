-- Each turn is one more of the frames.
use Rattle.std.proofs.Common.{refl, arith, length-set}
use Rattle.bus.specs.Held.{none, more}
use Rattle.bus.proofs.Frames.{room_whole, room_one, room_more}
use Rattle.bus.proofs.glide.frames.Goals as goal

pub loop-byte-init : goal.loop-byte-init
loop-byte-init c = record { long = refl; room = c.requires; gone = none }

pub bounds-tape-progress : goal.bounds-tape-progress
bounds-tape-progress c = let w = room_whole _ _ _ c.loop-byte.invariant.room c.if-progress-tape.true in omega arith

pub bounds-answers-progress : goal.bounds-answers-progress
bounds-answers-progress c = room_one _ _ _ c.loop-byte.invariant.room c.if-progress-tape.true

pub loop-byte-preserved : goal.loop-byte-preserved
loop-byte-preserved c =
    let inv = c.loop-byte.invariant in
    let h = c.if-progress-tape.true in
    let bit = c.if-bit-ge-NULL.false in
    record {
      long = simp length-set inv.long;
      room = simp length-set (room_more _ _ _ inv.room h bit);
      gone = rw (c.more.ensures, c.pulled.ensures, c.bit_at.ensures) (more inv.gone c.loop-byte-test.true (room_whole _ _ _ inv.room h) bit);
    }
