-- The bytes before k are the event's.
use Rattle.std.proofs.Common.{◌≡◌, ◌<◌, get_or, ℕ, ◌+◌}
use Rattle.tape.proofs.mask_of.Given as goal

abbrev pub invariant-loop-k : goal.invariant-loop-k
invariant-loop-k l = (j : ℕ) → j < l.k → get_or l.byte-items j 0 ≡ get_or l.left (3 + j) 0
