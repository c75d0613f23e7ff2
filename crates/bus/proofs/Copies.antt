-- Arrays: what a call gives of each element, and the places of the slave addresses, one element further.
use Prim.Native.Nat.{ℕ, ◌<◌}
use native.Mathlib.Omega.{arith}
use mathlib.Core.Path.{◌≡◌, sym, ◌∙◌}
use mathlib.Core.List.{List, map}
use lib.ListN.{length, get_or, length-map, get_or-map}
use lib.Seq.{ext_get_or}
use denote.Param.Members.{Mut, Called}
use Rattle.std.specs.Array.{IsMapOf}
use Rattle.std.specs.Prelude.{Option, Some, None}
use Rattle.chip.specs.declared.Head.{Head}
use Rattle.bus.specs.Held.{blank_head, Differ}

-- the first j heads have their places
pub record Placed (heads : List Head) (j : ℕ) (who : List (Option ℕ)) : Type 0 where
  pub long : length who ≡ 8
  pub named : Differ heads → (k : ℕ) → k < j → get_or who (get_or heads k blank_head).slave None ≡ Some k

-- an array of what a call gave of each element is the list of what it gives
pub mapped : {F A B : Type 0} (g : Mut F (A × Unit {0}) B) (h : A → B) (d : A) → ((p : F) (x : A) (y : B) (q : F) → Called g p (x, tt) y q → y ≡ h x)
    → (f : F) (xs : List A) (ys : List B) (n : ℕ) → length xs ≡ n → IsMapOf g f xs ys n → ys ≡ map h xs
mapped g h d each f xs ys n l m =
    ext_get_or (h d) ys (map h xs) (m.long ∙ sym l ∙ sym (length-map xs h))
    (λ i k. let c = m.at i d (h d) (omega (arith, m.long)) in each _ _ _ _ c.2 ∙ sym (get_or-map h xs i d))
