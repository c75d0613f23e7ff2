use Rattle.bus.proofs.Copies.{Placed}
use Rattle.bus.proofs.play.places_of.Given as goal

abbrev pub invariant-loop-j : goal.invariant-loop-j
invariant-loop-j l = Placed l.heads l.j l.who
