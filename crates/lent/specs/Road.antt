-- What a step and a save promise beside their contracts, and that a run is a load, a step for each event, and a save. Proved in proofs/Road.antt.
use Rattle.std.specs.Prelude.{ℕ, ◌≤◌, ◌<◌, ◌≡◌, true, List, [], ◌∷◌, map, length, Result, Ok}
use Rattle.faults.specs.declared.Refusal.{Refusal}
use Rattle.faults.specs.Faults.{number_in, number_by}
use Rattle.chip.specs.declared.Device.{Device}
use Rattle.chip.specs.declared.Event.{Event}
use Rattle.chip.specs.declared.Event.TheVariants.{Bit, Null, Wait, Reset, Cut}
use Rattle.tape.specs.Tape.{kind_event, events_of}
use Rattle.tape.specs.Written.{Good}
use Rattle.tape.specs.Promises.{Bytes}
use Rattle.wire.specs.Wire.{answer_of, last_of, answers_of}
use Rattle.image.specs.Layout.{most_records}
use Rattle.image.specs.Scan.{bus_fault}
use Rattle.image.specs.Image.{devices_of, saved_of}
use Rattle.table.specs.WellFormed.{well_formed}
use Rattle.lent.specs.Step.{answer_byte_of, last_kind, step_number, stepped_of, step_answer}
use Rattle.lent.specs.Save.{save_number, save_answer, saved_room}

-- ---- the table of the kinds, from an event back to its kind; "for kind 5 only, eight mask bytes"
abbrev pub kind_of : Event → ℕ
kind_of (Bit b) = b
kind_of Null = 2
kind_of Wait = 3
kind_of Reset = 4
kind_of (Cut mask) = 5

abbrev pub mask_of : Event → ℕ
mask_of (Bit b) = 0
mask_of Null = 0
mask_of Wait = 0
mask_of Reset = 0
mask_of (Cut mask) = mask

-- ---- a step for each event: the table after them, and their answers
unfoldable pub steps_of : List Device → List Event → List Device
steps_of ds [] = ds
steps_of ds (ev ∷ evs) = steps_of (stepped_of ds (kind_of ev) (mask_of ev)) evs

unfoldable pub step_answers : List Device → List Event → List (Result ℕ Refusal)
step_answers ds [] = []
step_answers ds (ev ∷ evs) = step_answer ds (kind_of ev) (mask_of ev) ∷ step_answers (stepped_of ds (kind_of ev) (mask_of ev)) evs

-- ---- a run of an event file over a bus file that loads, as steps over the loaded devices
pub record Steps (bus tape : List ℕ) : Type 0 where
  -- none is refused, and their answer bytes are the run's
  pub answers : step_answers (devices_of bus) (events_of tape) ≡ map Ok (answers_of (devices_of bus) (events_of tape))
  pub devices : steps_of (devices_of bus) (events_of tape) ≡ last_of (devices_of bus) (events_of tape)
  -- a save into a room of the bus file's length is done, and the room is the bus file after the run
  pub done : (room : List ℕ) → length room ≡ length bus → save_answer (steps_of (devices_of bus) (events_of tape)) (length room) ≡ Ok tt
  pub file : (room : List ℕ) → length room ≡ length bus → saved_room (steps_of (devices_of bus) (events_of tape)) room ≡ saved_of (last_of (devices_of bus) (events_of tape))

pub record Road : Type 0 where
  -- "one table of at most eight records"
  pub step_many : (ds : List Device) (kind : ℕ) → most_records < length ds → step_number ds kind ≡ 15
  pub save_many : (ds : List Device) (room : ℕ) → most_records < length ds → save_number ds room ≡ 15
  -- "Each returns its number .. and all buffers unaltered."
  pub step_refused : (ds : List Device) (kind mask : ℕ) → (step_number ds kind ≡ 0 → ⊥) → (number_by (step_answer ds kind mask) ≡ step_number ds kind) × (stepped_of ds kind mask ≡ ds)
  pub save_refused : (ds : List Device) (room : List ℕ) → (save_number ds (length room) ≡ 0 → ⊥) → (number_by (save_answer ds (length room)) ≡ save_number ds (length room)) × (saved_room ds room ≡ room)
  -- a done step answers as the wire does, and leaves a well-formed table
  pub step_done : (ds : List Device) (kind mask : ℕ) → step_number ds kind ≡ 0
      → (number_by (step_answer ds kind mask) ≡ 0) × (answer_byte_of (step_answer ds kind mask) ≡ answer_of ds (kind_event kind mask))
  pub step_kept : (ds : List Device) (kind mask : ℕ) → step_number ds kind ≡ 0 → well_formed (stepped_of ds kind mask) ≡ true
  -- an event that a file can hold is that of its kind and mask
  pub event_is : (ev : Event) → Good ev → (kind_of ev ≤ last_kind) × (kind_event (kind_of ev) (mask_of ev) ≡ ev)
  -- a run is a load, a step for each event, and a save
  pub run : (bus tape : List ℕ) → number_in (bus_fault bus) ≡ 0 → Bytes tape → Steps bus tape
