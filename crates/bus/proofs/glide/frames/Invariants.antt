-- Frames from the start on, and room for the answers to the rest.
use Rattle.std.proofs.Common.{◌-◌, ◌≡◌, length}
use Rattle.bus.specs.Held.{Room, Frames}
use Rattle.bus.proofs.glide.frames.Given as goal

abbrev pub invariant-loop-byte : goal.invariant-loop-byte
invariant-loop-byte l = record {
  long : length l.answers ≡ length l.initial.answers;
  room : Room l.tape l.progress (length l.answers);
  gone : Frames l.tape l.shown l.fn.start l.fn.under l.initial.answers l.progress l.byte l.answers;
}

abbrev pub decreases-loop-byte : goal.decreases-loop-byte
decreases-loop-byte l = 8 - l.byte.count
