-- Which of the devices that are kept are lent, and what a step over them leaves.
use Rattle.std.specs.Prelude.{ℕ, ◌%◌, List, ◌++◌, take, drop}
use Rattle.chip.specs.declared.Device.{Device}
use Rattle.lent.specs.Step.{stepped_of}
use Rattle.plays.specs.declared.lending.Wired.{Wired}

abbrev pub lent_of : Wired → List Device
lent_of w = take (w.count % 10) w.devices

-- those that are not lent stay as they were
abbrev pub played_of : Wired → ℕ → ℕ → Wired
played_of w kind mask = record { devices = stepped_of (lent_of w) kind mask ++ drop (w.count % 10) w.devices; count = w.count }
