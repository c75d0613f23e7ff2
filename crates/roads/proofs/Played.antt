-- Both roads go by the wire's definitions: the run by its promise, the steps by crate lent's law.
use Prim.Native.Nat.{ℕ, suc}
use mathlib.Core.Path.{◌≡◌, refl, sym, ap, ◌∙◌}
use mathlib.Core.List.{List, [], ◌∷◌, map}
use lib.ListN.{length}
use lib.Seq.{sets}
use Rattle.chip.specs.declared.Device.{Device}
use Rattle.chip.specs.declared.Event.{Event}
use Rattle.faults.specs.Faults.{number_in}
use Rattle.faults.proofs.FaultLaws.{first, done_clean}
use Rattle.tape.specs.Tape.{events_of}
use Rattle.tape.specs.Promises.{Bytes}
use Rattle.wire.specs.Wire.{next_of, answers_of}
use Rattle.wire.specs.Promises.{count80}
use Rattle.image.specs.Scan.{bus_fault}
use Rattle.image.specs.Image.{devices_of}
use Rattle.std.specs.Prelude.{Ok}
use Rattle.lent.specs.Step.{answer_byte_of}
use Rattle.lent.specs.Road.{Steps}
use Rattle.lent.proofs.Road.{road}
use Rattle.bus.specs.Run.{run_fault, ran_of, bus_after, answers_after}
use Rattle.bus.proofs.Promised.{promised}
use Rattle.roads.specs.Roads.{bytes_to, Same, Roads}

bytes_back : (xs : List ℕ) → map answer_byte_of (map Ok xs) ≡ xs
bytes_back [] = refl
bytes_back (x ∷ xs) = ap (λ (l : List ℕ). x ∷ l) (bytes_back xs)

long : (ds : List Device) (evs : List Event) → length (answers_of ds evs) ≡ length evs
unfolding answers_of
long ds [] = refl
long ds (ev ∷ evs) = ap suc (long (next_of ds ev) evs)

module _ (bus tape answers : List ℕ) (b : Bytes tape) (e : number_in (run_fault bus tape (length answers)) ≡ 0) where
  bus_good : number_in (bus_fault bus) ≡ 0
  unfolding run_fault
  bus_good = (first (bus_fault bus) _ e).0

  steps : Steps bus tape
  steps = road.run bus tape bus_good b

  bytes_are : bytes_to bus tape ≡ answers_of (devices_of bus) (events_of tape)
  bytes_are = ap (map answer_byte_of) steps.answers ∙ bytes_back (answers_of (devices_of bus) (events_of tape))

  same : Same bus tape answers
  unfolding ran_of bus_after answers_after
  same = record {
    steps_done = steps.answers ∙ ap (map Ok) (sym bytes_are);
    save_done = steps.done bus refl;
    answers_are = rw (done_clean (run_fault bus tape (length answers)) e) (ap (sets answers 0) (sym bytes_are));
    file_is = rw (done_clean (run_fault bus tape (length answers)) e) (sym (steps.file bus refl));
    events_are = rw (done_clean (run_fault bus tape (length answers)) e) (sym (ap length bytes_are ∙ long (devices_of bus) (events_of tape)));
    refused_are = promised.count bus tape (length answers) e ∙ ap count80 (sym bytes_are);
  }

pub roads : Roads
roads = record { same = same }
