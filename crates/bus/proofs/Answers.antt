-- A run's refusals in their order, and what each leaves as it came.
use Prim.Native.Nat.{ℕ, ◌<◌, ◌≤◌}
use mathlib.Core.Path.{◌≡◌, refl}
use mathlib.Core.List.{List}
use borrow.Author.Tests.{lt-ltb, le-ltb}
use lib.ListN.{length, take}
use lib.Seq.{sets}
use Rattle.std.specs.Prelude.{Result, Ok, Err}
use Rattle.faults.specs.declared.Fault.{Fault}
use Rattle.faults.specs.declared.Refusal.TheVariants.{AnswerRoom}
use Rattle.faults.specs.Faults.{clean, number_in}
use Rattle.faults.proofs.FaultLaws.{err_of, ok_of}
use Rattle.wire.specs.Wire.{last_of, answers_of, refused_of}
use Rattle.tape.specs.Tape.{tape_fault, events_of, scan_of}
use Rattle.image.specs.declared.Loaded.{Loaded}
use Rattle.image.proofs.Promised.{promised}
use Rattle.image.specs.Scan.{bus_fault}
use Rattle.image.specs.Image.{devices_of, saved_of, loaded_of}
use Rattle.bus.specs.declared.Ran.{Ran}
use Rattle.bus.specs.Read.{bus_read}
use Rattle.bus.proofs.Reading.{run_read}
use Rattle.bus.specs.Run.{run_fault, ran_of, bus_after, answers_after}

-- ---- what a load and a scan tell
module _ (bus : List ℕ) (l : Loaded) (e : Ok l ≡ loaded_of bus) where
  pub load_clean : bus_fault bus ≡ clean
  unfolding loaded_of
  load_clean = (ok_of (bus_fault bus) _ l e).0

  pub load_sound : number_in (bus_fault bus) ≡ 0
  load_sound = rw load_clean refl

  pub load_table : take l.count l.devices ≡ devices_of bus
  load_table = simp (← e) at (promised.table bus load_sound)

  pub load_few : l.count ≤ 8
  unfolding loaded_of
  load_few = rw ((ok_of (bus_fault bus) _ l e).1, promised.count bus) (promised.few bus load_sound)

module _ (tape : List ℕ) (n : ℕ) (e : Ok n ≡ scan_of tape) where
  pub scan_clean : tape_fault tape ≡ clean
  unfolding scan_of
  scan_clean = (ok_of (tape_fault tape) _ n e).0

  pub scan_sound : number_in (tape_fault tape) ≡ 0
  scan_sound = rw scan_clean refl

  pub scan_count : n ≡ length (events_of tape)
  unfolding scan_of
  scan_count = (ok_of (tape_fault tape) _ n e).1

-- ---- the four ways in which a run ends
module _ (bus tape answers : List ℕ) where
  -- an answer, the bus file and the answers' room after it: what `run` promises
  pub record Ends (ran : Result Ran Fault) (bus' answers' : List ℕ) : Type 0 where
    pub value : ran ≡ ran_of bus tape (length answers)
    pub bus_after : bus' ≡ bus_after bus tape (length answers)
    pub answers_after : answers' ≡ answers_after bus tape answers
    pub reading : bus' ≡ bus_read bus tape (length answers)

  pub refused : (f : Fault) → run_fault bus tape (length answers) ≡ Err f → Ends (Err f) bus answers
  unfolding ran_of bus_after answers_after bus_read
  refused f e = record { value = rw e refl; bus_after = rw e refl; answers_after = rw e refl; reading = rw e refl }

  pub refused_bus : (f : Fault) → Err f ≡ loaded_of bus → Ends (Err f) bus answers
  unfolding loaded_of run_fault
  refused_bus f e = refused f (rw (err_of (bus_fault bus) _ f e) refl)

  module _ (l : Loaded) (loads : Ok l ≡ loaded_of bus) where
    pub refused_tape : (f : Fault) → Err f ≡ scan_of tape → Ends (Err f) bus answers
    unfolding scan_of run_fault
    refused_tape f e = refused f (rw (load_clean bus l loads, err_of (tape_fault tape) _ f e) refl)

    module _ (n : ℕ) (scans : Ok n ≡ scan_of tape) where
      pub refused_room : length answers < n → Ends (Err (record { refusal = AnswerRoom; at = 0 })) bus answers
      unfolding run_fault
      refused_room h =
          refused _ (rw (load_clean bus l loads, scan_clean tape n scans, ← scan_count tape n scans, lt-ltb (length answers) n h) refl)

      fault_none : n ≤ length answers → run_fault bus tape (length answers) ≡ clean
      unfolding run_fault
      fault_none h = rw (load_clean bus l loads, scan_clean tape n scans, ← scan_count tape n scans, le-ltb (length answers) n h) refl

      pub done : n ≤ length answers
          → Ends (Ok (record { events = n; refused = refused_of (devices_of bus) (events_of tape) }))
          (saved_of (last_of (devices_of bus) (events_of tape))) (sets answers 0 (answers_of (devices_of bus) (events_of tape)))
      unfolding ran_of bus_after answers_after
      done h =
          let r = run_read bus tape (length answers) in
          let z = fault_none h in
          record { value = rw (z, scan_count tape n scans) refl; bus_after = rw z refl; answers_after = rw z refl; reading = rw z at r }
