-- Bit frames one after the other: their bytes and their answers have room, and what they leave as it was.
use Prim.Native.Nat.{ℕ, suc, ◌+◌, ◌<◌, ◌≤◌}
use native.Mathlib.Omega.{arith}
use mathlib.Core.Path.{◌≡◌, refl, ◌∙◌}
use mathlib.Core.List.{List}
use borrow.Author.Tests.{ne_eqb, lt-ltb}
use lib.ListN.{length, get_or, drop, length-drop, length-set}
use lib.Seq.{drop-drop, get_or-drop}
use Rattle.chip.specs.declared.Event.TheVariants.{Bit}
use Rattle.chip.specs.declared.Head.{Head}
use Rattle.chip.specs.declared.Stage.{Stage}
use Rattle.tape.specs.Tape.{kind_of, size_of, kind_event, event_of, events_of}
use Rattle.tape.specs.Promises.{NoFault, Begins}
use Rattle.tape.proofs.TapeLaws.{begins, size_some}
use Rattle.chip.specs.declared.Byte.{Byte}
use Rattle.bus.specs.declared.Progress.{Progress}
use Rattle.bus.specs.Held.{progress, Room, Frames, none, more, Glides, own, apart}

-- ---- a bit frame's event
module _ (tape : List ℕ) (at : ℕ) (bit : get_or tape (at + 2) 0 < 2) where
  kind_here : kind_of (drop at tape) ≡ get_or tape (at + 2) 0
  kind_here = get_or-drop at tape 2 0

  pub bit_size : size_of (kind_of (drop at tape)) ≡ 3
  bit_size = rw (kind_here, ne_eqb (get_or tape (at + 2) 0) 5 (λ e. omega arith)) refl

  pub bit_event : event_of (drop at tape) ≡ Bit (get_or tape (at + 2) 0)
  unfolding kind_event
  bit_event = rw (kind_here, lt-ltb (get_or tape (at + 2) 0) 2 bit) refl

-- ---- room for an event
module _ (tape : List ℕ) (p : Progress) (room : ℕ) (r : Room tape p room) (h : p.at < length tape) where
  here : Begins p.at (drop p.at tape)
  here = begins p.at (drop p.at tape) (simp length-drop (omega arith)) r.sound

  pub room_whole : p.at + 3 ≤ length tape
  room_whole =
      let w = here.whole in
      let s = size_some (kind_of (drop p.at tape)) in
      let l = length-drop p.at tape in
      omega arith

  pub room_one : p.answered < room
  room_one = omega (arith, here.one, r.left)

  pub room_more : get_or tape (p.at + 2) 0 < 2 → Room tape (progress (p.at + 3) (p.answered + 1)) room
  room_more bit =
      let e = bit_size tape p.at bit in
      let s : NoFault (p.at + 3) (drop 3 (drop p.at tape)) = rw e at here.rest in
      let o : length (events_of (drop p.at tape)) ≡ suc (length (events_of (drop 3 (drop p.at tape)))) = rw e at here.one in
      record { sound = rw (← drop-drop 3 p.at tape) s; left = rw (← drop-drop 3 p.at tape) (omega (arith, o, r.left)) }

-- ---- frames only go on, inside the file, and keep the room
pub record Went (tape : List ℕ) (p₀ : Progress) (answers₀ : List ℕ) (p : Progress) (answers : List ℕ) : Type 0 where
  pub place : p₀.at ≤ p.at
  pub number : p₀.answered ≤ p.answered
  pub long : length answers ≡ length answers₀
  pub inside : p₀.at ≤ length tape → p.at ≤ length tape

module _ {tape : List ℕ} {shown : ℕ} {p₀ : Progress} {b₀ : Byte} {answers₀ : List ℕ} where
  frames_went : {p : Progress} {b : Byte} {answers : List ℕ} → Frames tape shown p₀ b₀ answers₀ p b answers → Went tape p₀ answers₀ p answers
  frames_went none = record { place = omega arith; number = omega arith; long = refl; inside = λ h. h }
  frames_went (more {answers = a} f h w b) =
      let o = frames_went f in
      record { place = omega (arith, o.place); number = omega (arith, o.number); long = length-set a _ _ ∙ o.long; inside = λ h. w }

  pub frames_count : {p : Progress} {b : Byte} {answers : List ℕ} → Frames tape shown p₀ b₀ answers₀ p b answers → b₀.count ≤ b.count
  frames_count none = omega arith
  frames_count (more f h w b) = omega (arith, frames_count f)

pub glides_went : {count : ℕ} {bus tape : List ℕ} {talker : ℕ} {p : Progress} {others : Stage} {hs : List Head} {answers : List ℕ} {p' : Progress} {others' : Stage} {hs' : List Head} {answers' : List ℕ}
    → Glides count bus tape talker p others hs answers p' others' hs' answers' → Went tape p answers p' answers'
glides_went (own s f) = frames_went f
glides_went (apart s f) = frames_went f
