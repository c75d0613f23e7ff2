-- The records of the devices before turn i lie over the room.
use Rattle.std.proofs.Common.{◌≡◌, ◌*◌, length, take}
use Rattle.image.specs.Layout.{record_size}
use Rattle.image.specs.Image.{laid, saved_of}
use Rattle.lent.proofs.save_records.Given as goal

abbrev pub invariant-loop-i : goal.invariant-loop-i
invariant-loop-i l =
    record { long : length (saved_of (take l.i l.table)) ≡ l.i * record_size; laid : l.room ≡ laid l.initial.room 0 (saved_of (take l.i l.table)) }
