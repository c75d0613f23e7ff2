-- The survey goes as the pass over the list does, one turn a device.
use Rattle.std.proofs.Common.{◌≡◌, take}
use Rattle.table.specs.Survey.{unseen, seen_all}
use Rattle.table.proofs.judge.Given as goal

abbrev pub invariant-loop-device : goal.invariant-loop-device
invariant-loop-device l = l.survey ≡ seen_all unseen (take l.device-index l.table)
