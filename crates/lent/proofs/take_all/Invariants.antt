-- The devices before a turn have taken the event, and the level is the wire's with these on it.
use Rattle.std.proofs.Common.{◌≡◌}
use Rattle.wire.specs.Wire.{masters_level}
use Rattle.lent.proofs.Passes.{upto, level}
use Rattle.lent.proofs.take_all.Given as goal

abbrev pub invariant-loop-device : goal.invariant-loop-device
invariant-loop-device l =
    record { devices : l.table ≡ upto l.ev l.device-index l.initial.table; level : l.level ≡ level l.ev l.device-index l.initial.table (masters_level l.ev) }
