-- After k turns it has what k read frames give.
use Rattle.std.proofs.Common.{◌≡◌}
use Rattle.sequences.specs.Wire.{got_to}
use Rattle.sequences.proofs.wire.gets.Given as goal

abbrev pub invariant-loop-k : goal.invariant-loop-k
invariant-loop-k l = l.g ≡ got_to l._k l.fn.d
