-- The numbers of the refusals: what each says of a table and a room.
--     many     more than eight devices are none.        save_done, save_fits     a save that is not refused
use Prim.Native.Nat.{ℕ, ◌*◌, ◌<◌, ◌≤◌}
use mathlib.Core.Path.{◌≡◌, refl, sym}
use mathlib.Core.Bool.{Bool, true, false}
use mathlib.Core.List.{List}
use lib.Dec.{ltb}
use lib.ListN.{length}
use borrow.Author.Tests.{lt-leb, ltb-false}
use Rattle.std.specs.Prelude.{Result, Ok, Err}
use Rattle.bits.specs.Words.{pick}
use Rattle.faults.specs.declared.Refusal.{Refusal}
use Rattle.faults.specs.declared.Refusal.TheVariants.{SaveRoom}
use Rattle.faults.specs.Faults.{number_by}
use Rattle.faults.proofs.FaultLaws.{never_done, done_by, held_by}
use Rattle.chip.specs.declared.Device.{Device}
use Rattle.image.specs.Layout.{most_records, record_size}
use Rattle.image.specs.Image.{laid, saved_of}
use Rattle.table.specs.WellFormed.{well_formed}
use Rattle.lent.specs.Save.{save_number, save_answer, saved_room}

pub many : (ds : List Device) → most_records < length ds → false ≡ well_formed ds
unfolding well_formed
many ds h = rw (lt-leb (length ds) most_records h) refl

module _ (ds : List Device) (room : List ℕ) (e : save_number ds (length room) ≡ 0) where
  pub save_done : (Ok tt ≡ save_answer ds (length room)) × (laid room 0 (saved_of ds) ≡ saved_room ds room)
  unfolding saved_room
  save_done = let z = done_by (save_answer ds (length room)) e in (sym z, rw z refl)

  pub save_fits : record_size * length ds ≤ length room
  unfolding save_answer
  save_fits = go (ltb (length room) (record_size * length ds)) refl (held_by (well_formed ds) _ _ e).1
    where
      go : (x : Bool) → ltb (length room) (record_size * length ds) ≡ x → number_by (pick {A = Result (Unit {0}) Refusal} x (Err SaveRoom) (Ok tt)) ≡ 0 → record_size * length ds ≤ length room
      go true q w = absurd (never_done SaveRoom w)
      go false q w = ltb-false (length room) (record_size * length ds) q
