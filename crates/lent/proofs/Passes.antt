-- The list and the level of `take_all`, turn by turn.
--     upto ev i ds         the devices before turn i: the first i have taken the event.        length_upto, get_or_upto, upto_more, upto_all
--     level ev i ds w      the wire's level before turn i.        level_more, level_all
use Prim.Native.Nat.{ℕ, zero, suc, ◌+◌, ◌<◌}
use native.Mathlib.Numerals.{add-one}
use native.Mathlib.Nat.{not-suc-le-zero, le_of_suc-le-suc}
use mathlib.Core.Path.{◌≡◌, refl, ap}
use mathlib.Core.List.{List, [], ◌∷◌}
use lib.ListN.{length, get_or, set}
use Rattle.chip.specs.declared.Device.{Device}
use Rattle.chip.specs.declared.Event.{Event}
use Rattle.chip.specs.Take.{take_of}
use Rattle.wire.specs.Wire.{table_of, wire_of, pulled}

module _ (ev : Event) where
  unfoldable pub upto : ℕ → List Device → List Device
  upto zero ds = ds
  upto (suc i) [] = []
  upto (suc i) (d ∷ ds) = (take_of d ev).device ∷ upto i ds

  pub upto_none : (ds : List Device) → upto 0 ds ≡ ds
  unfolding upto
  upto_none ds = refl

  pub length_upto : (i : ℕ) (ds : List Device) → length (upto i ds) ≡ length ds
  unfolding upto
  length_upto zero ds = refl
  length_upto (suc i) [] = refl
  length_upto (suc i) (d ∷ ds) = ap suc (length_upto i ds)

  pub get_or_upto : (i : ℕ) (ds : List Device) (d : Device) → get_or (upto i ds) i d ≡ get_or ds i d
  unfolding upto
  get_or_upto zero ds d = refl
  get_or_upto (suc i) [] d = refl
  get_or_upto (suc i) (x ∷ xs) d = get_or_upto i xs d

  upto_suc : (i : ℕ) (ds : List Device) (d : Device) → i < length ds → set (upto i ds) i (take_of (get_or ds i d) ev).device ≡ upto (suc i) ds
  unfolding upto
  upto_suc i [] d l = absurd (not-suc-le-zero l)
  upto_suc zero (x ∷ xs) d l = refl
  upto_suc (suc i) (x ∷ xs) d l = ap (λ (ys : List Device). (take_of x ev).device ∷ ys) (upto_suc i xs d (le_of_suc-le-suc l))

  pub upto_more : (i : ℕ) (ds : List Device) (d : Device) → i < length ds → set (upto i ds) i (take_of (get_or ds i d) ev).device ≡ upto (i + 1) ds
  upto_more i ds d l = rw add-one (upto_suc i ds d l)

  pub upto_all : (ds : List Device) → upto (length ds) ds ≡ table_of ds ev
  unfolding upto table_of
  upto_all [] = refl
  upto_all (x ∷ xs) = ap (λ (ys : List Device). (take_of x ev).device ∷ ys) (upto_all xs)

  unfoldable pub level : ℕ → List Device → ℕ → ℕ
  level zero ds w = w
  level (suc i) [] w = w
  level (suc i) (d ∷ ds) w = level i ds (pulled (take_of d ev).level w)

  pub level_none : (ds : List Device) (w : ℕ) → level 0 ds w ≡ w
  unfolding level
  level_none ds w = refl

  level_suc : (i : ℕ) (ds : List Device) (w : ℕ) (d : Device) → i < length ds → pulled (take_of (get_or ds i d) ev).level (level i ds w) ≡ level (suc i) ds w
  unfolding level
  level_suc i [] w d l = absurd (not-suc-le-zero l)
  level_suc zero (x ∷ xs) w d l = refl
  level_suc (suc i) (x ∷ xs) w d l = level_suc i xs _ d (le_of_suc-le-suc l)

  pub level_more : (i : ℕ) (ds : List Device) (w : ℕ) (d : Device) → i < length ds → pulled (take_of (get_or ds i d) ev).level (level i ds w) ≡ level (i + 1) ds w
  level_more i ds w d l = rw add-one (level_suc i ds w d l)

  pub level_all : (ds : List Device) (w : ℕ) → level (length ds) ds w ≡ wire_of ds ev w
  unfolding level wire_of
  level_all [] w = refl
  level_all (x ∷ xs) w = level_all xs _
