-- Document 01's step over the devices that a caller lends as one table: its refusals, the table after it, its answer.
use Rattle.std.specs.Prelude.{ℕ, List, ltb, Result, Ok, Err}
use Rattle.bits.specs.Words.{pick}
use Rattle.faults.specs.declared.Refusal.{Refusal}
use Rattle.faults.specs.declared.Refusal.TheVariants.{EventKind, IllFormed}
use Rattle.faults.specs.Faults.{is_clean, if_clean, number_by}
use Rattle.chip.specs.declared.Device.{Device}
use Rattle.tape.specs.Tape.{kind_event}
use Rattle.wire.specs.Wire.{next_of, answer_of}
use Rattle.table.specs.WellFormed.{well_formed}

-- ---- "Step: 15, then 10.": "10: kind over 5", "15: table not well-formed"
abbrev pub last_kind : ℕ
last_kind = 5

unfoldable pub step_check : List Device → ℕ → Result (Unit {0}) Refusal
step_check ds kind = pick (well_formed ds) (pick (ltb last_kind kind) (Err EventKind) (Ok tt)) (Err IllFormed)

abbrev pub step_number : List Device → ℕ → ℕ
step_number ds kind = number_by (step_check ds kind)

-- ---- "For a step the caller lends the devices as one table": `ds`; "Each returns its number .. and all buffers unaltered."
unfoldable pub stepped_of : List Device → ℕ → ℕ → List Device
stepped_of ds kind mask = pick (is_clean (step_check ds kind)) (next_of ds (kind_event kind mask)) ds

unfoldable pub step_answer : List Device → ℕ → ℕ → Result ℕ Refusal
step_answer ds kind mask = if_clean (step_check ds kind) (answer_of ds (kind_event kind mask))

-- a refused step has no answer byte
abbrev pub answer_byte_of : Result ℕ Refusal → ℕ
answer_byte_of (Ok byte) = byte
answer_byte_of (Err refusal) = 0
