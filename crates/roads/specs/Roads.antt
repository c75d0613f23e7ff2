-- A run of an event file over a bus file, and a load, a step for each event over the loaded devices, and a save: what the one promises is what the other does.
use Rattle.std.specs.Prelude.{ℕ, ◌≡◌, List, map, length, Result, Ok}
use Rattle.std.proofs.lemmas.List.Edits.{sets}
use Rattle.faults.specs.declared.Refusal.{Refusal}
use Rattle.faults.specs.Faults.{number_in}
use Rattle.tape.specs.Tape.{events_of}
use Rattle.tape.specs.Promises.{Bytes}
use Rattle.wire.specs.Promises.{count80}
use Rattle.image.specs.Image.{devices_of}
use Rattle.chip.specs.declared.Device.{Device}
use Rattle.lent.specs.Step.{answer_byte_of}
use Rattle.lent.specs.Save.{save_answer, saved_room}
use Rattle.lent.specs.Road.{steps_of, step_answers}
use Rattle.bus.specs.Run.{event_count_of, refused_count_of, run_fault, ran_of, bus_after, answers_after}

-- the devices after a step for each event, the steps' answers, and their answer bytes
abbrev pub devices_after : List ℕ → List ℕ → List Device
devices_after bus tape = steps_of (devices_of bus) (events_of tape)

abbrev pub answers_to : List ℕ → List ℕ → List (Result ℕ Refusal)
answers_to bus tape = step_answers (devices_of bus) (events_of tape)

abbrev pub bytes_to : List ℕ → List ℕ → List ℕ
bytes_to bus tape = map answer_byte_of (answers_to bus tape)

pub record Same (bus tape answers : List ℕ) : Type 0 where
  -- no step is refused, nor is the save into the bus file's own bytes
  pub steps_done : answers_to bus tape ≡ map Ok (bytes_to bus tape)
  pub save_done : save_answer (devices_after bus tape) (length bus) ≡ Ok tt
  -- "A run writes one answer byte per event, leaves the rest of the room"
  pub answers_are : answers_after bus tape answers ≡ sets answers 0 (bytes_to bus tape)
  -- "saves the stored fields into the bus file"
  pub file_is : bus_after bus tape (length answers) ≡ saved_room (devices_after bus tape) bus
  -- "and returns the number of events and of 80h answers"
  pub events_are : event_count_of (ran_of bus tape (length answers)) ≡ length (bytes_to bus tape)
  pub refused_are : refused_count_of (ran_of bus tape (length answers)) ≡ count80 (bytes_to bus tape)

-- for every bus file, event file and room that a run does not refuse
pub record Roads : Type 0 where
  pub same : (bus tape answers : List ℕ) → Bytes tape → number_in (run_fault bus tape (length answers)) ≡ 0 → Same bus tape answers
