-- A step that is not refused: its answer and the table after it, where the event is carried out and where it is not.
use Prim.Native.Nat.{ℕ, ◌≤◌}
use mathlib.Core.Path.{◌≡◌, refl}
use mathlib.Core.Bool.{true, false}
use mathlib.Core.List.{List}
use borrow.Author.Tests.{le-ltb}
use Rattle.std.specs.Prelude.{Ok}
use Rattle.faults.proofs.FaultLaws.{done_by}
use Rattle.chip.specs.declared.Device.{Device}
use Rattle.chip.specs.declared.Event.{Event}
use Rattle.tape.specs.Tape.{kind_event}
use Rattle.wire.specs.Wire.{any_busy, barred, table_of, next_of, wire_of, masters_level, replied, answer_of}
use Rattle.table.specs.WellFormed.{well_formed}
use Rattle.lent.specs.Step.{last_kind, step_check, step_number, stepped_of, step_answer}

pub answered : (ds : List Device) (kind mask : ℕ) → step_number ds kind ≡ 0 → step_answer ds kind mask ≡ Ok (answer_of ds (kind_event kind mask))
unfolding step_answer
answered ds kind mask e = rw (done_by (step_check ds kind) e) refl

pub stepped : (ds : List Device) (kind mask : ℕ) → step_number ds kind ≡ 0 → stepped_of ds kind mask ≡ next_of ds (kind_event kind mask)
unfolding stepped_of
stepped ds kind mask e = rw (done_by (step_check ds kind) e) refl

pub kind_done : (ds : List Device) (kind : ℕ) → well_formed ds ≡ true → kind ≤ last_kind → step_number ds kind ≡ 0
unfolding step_check
kind_done ds kind w h = rw (w, le-ltb last_kind kind h) refl

module _ (ds : List Device) (kind mask : ℕ) (w : well_formed ds ≡ true) (h : kind ≤ last_kind) where
  abbrev ev : Event
  ev = kind_event kind mask

  pub left_alone : barred ev (any_busy ds) ≡ true → (Ok 0x80 ≡ step_answer ds kind mask) × (ds ≡ stepped_of ds kind mask)
  unfolding answer_of next_of
  left_alone b = rw (answered ds kind mask (kind_done ds kind w h), stepped ds kind mask (kind_done ds kind w h), b) (refl, refl)

  pub carried_out : barred ev (any_busy ds) ≡ false
      → (Ok (replied ev (wire_of ds ev (masters_level ev))) ≡ step_answer ds kind mask) × (table_of ds ev ≡ stepped_of ds kind mask)
  unfolding answer_of next_of
  carried_out b = rw (answered ds kind mask (kind_done ds kind w h), stepped ds kind mask (kind_done ds kind w h), b) (refl, refl)
