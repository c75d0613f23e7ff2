-- At each event, what is left ends as the whole does.
use Rattle.std.proofs.Common.{length, ◌-◌, ◌≤◌}
use Rattle.tape.specs.Tape.{longest}
use Rattle.tape.proofs.ScanLaws.{Passed}
use Rattle.tape.proofs.scan_tape.Given as goal

abbrev pub invariant-loop-at : goal.invariant-loop-at
invariant-loop-at l = (l.at ≤ length l.tape) × (l.events ≤ l.at) × (length l.tape ≤ longest) × Passed l.tape l.at l.events

abbrev pub decreases-loop-at : goal.decreases-loop-at
decreases-loop-at l = length l.tape - l.at
