-- The devices on one wire: what an event does to all of them, and what it answers.
use Rattle.std.specs.Prelude.{ℕ, ◌+◌, ◌%◌, Bool, true, false, List, [], ◌∷◌, eqb, Option, Some, None}
use Rattle.bits.specs.Words.{pick}
use Rattle.chip.specs.declared.Device.{Device}
use Rattle.chip.specs.declared.Stage.{Stage}
use Rattle.chip.specs.declared.Cycle.{Cycle}
use Rattle.chip.specs.declared.Event.{Event}
use Rattle.chip.specs.declared.Event.TheVariants.{Bit, Null, Wait, Reset, Cut}
use Rattle.chip.specs.Cycle.{running}
use Rattle.chip.specs.Take.{take_of}

-- a device programs
abbrev pub is_cycle : Option Cycle → Bool
is_cycle None = false
is_cycle (Some r) = true

abbrev pub busy : Stage → Bool
busy s = is_cycle (running s)

unfoldable pub any_busy : List Device → Bool
any_busy [] = false
any_busy (d ∷ ds) = pick (busy d.stage) true (any_busy ds)

-- "While a device programs, kinds 0, 1 and 4 are not carried out"
abbrev pub barred : Event → Bool → Bool
barred (Bit b) any = any
barred Null any = false
barred Wait any = false
barred Reset any = any
barred (Cut m) any = false

-- each device takes the event
unfoldable pub table_of : List Device → Event → List Device
table_of [] ev = []
table_of (d ∷ ds) ev = (take_of d ev).device ∷ table_of ds ev

-- "nothing changes, and the run goes on"
unfoldable pub next_of : List Device → Event → List Device
next_of ds ev = pick (barred ev (any_busy ds)) ds (table_of ds ev)

-- "The wire is 0 if the master's bit is 0 or any device drives 0."
abbrev pub masters_level : Event → ℕ
masters_level (Bit b) = b % 2
masters_level Null = 1
masters_level Wait = 1
masters_level Reset = 1
masters_level (Cut m) = 1

abbrev pub pulled : ℕ → ℕ → ℕ
pulled level wire = pick (eqb level 0) 0 wire

unfoldable pub wire_of : List Device → Event → ℕ → ℕ
wire_of [] ev wire = wire
wire_of (d ∷ ds) ev wire = wire_of ds ev (pulled (take_of d ev).level wire)

-- the answer byte of an event that is carried out: "wire level 00h or 01h", "02h", "03h", "04h a device is there, 05h none", "as R"
abbrev pub replied : Event → ℕ → ℕ
replied (Bit b) wire = wire
replied Null wire = 0x02
replied Wait wire = 0x03
replied Reset wire = pick (eqb wire 0) 0x04 0x05
replied (Cut m) wire = pick (eqb wire 0) 0x04 0x05

-- of an event that is not: "the answer byte is 80h"
abbrev pub answer_from : Bool → Event → ℕ → ℕ
answer_from barred ev wire = pick barred 0x80 (replied ev wire)

unfoldable pub answer_of : List Device → Event → ℕ
answer_of ds ev = answer_from (barred ev (any_busy ds)) ev (wire_of ds ev (masters_level ev))

-- ---- a list of events: the devices after it, its answers, and how many of its events are not carried out
unfoldable pub last_of : List Device → List Event → List Device
last_of ds [] = ds
last_of ds (ev ∷ evs) = last_of (next_of ds ev) evs

unfoldable pub answers_of : List Device → List Event → List ℕ
answers_of ds [] = []
answers_of ds (ev ∷ evs) = answer_of ds ev ∷ answers_of (next_of ds ev) evs

-- "the number .. of 80h answers": what one event adds to it
abbrev pub counted_from : Bool → ℕ
counted_from barred = pick barred 1 0

unfoldable pub refused_of : List Device → List Event → ℕ
refused_of ds [] = 0
refused_of ds (ev ∷ evs) = counted_from (barred ev (any_busy ds)) + refused_of (next_of ds ev) evs
