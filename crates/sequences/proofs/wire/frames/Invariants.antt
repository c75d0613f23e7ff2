-- After k turns the device is that after k frames.
use Rattle.std.proofs.Common.{◌≡◌}
use Rattle.sequences.specs.Wire.{sent_to}
use Rattle.sequences.proofs.wire.frames.Given as goal

abbrev pub invariant-loop-k : goal.invariant-loop-k
invariant-loop-k l = l.e ≡ sent_to l.k l.fn.d l.byte
