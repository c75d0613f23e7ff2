-- The stretch of plain events: the file cut into pieces of three bytes, up to the first that is not plain.
use Prim.Native.Nat.{ℕ, zero, suc, ◌+◌, ◌*◌, ◌<◌, ◌≤◌}
use mathlib.Core.Path.{◌≡◌, refl, ap, ◌∙◌}
use mathlib.Core.Bool.{Bool, true, false}
use mathlib.Core.List.{List, [], ◌∷◌, ◌++◌}
use lib.Dec.{eqb, ltb}
use lib.ListN.{length, get_or, take, drop, length-drop}
use lib.Seq.{drop-drop, get_or-drop}
use native.Mathlib.Omega.{arith}
use borrow.Author.Tests.{eqb-true, ltb-true}
use Rattle.std.proofs.lemmas.Iterator.{YieldsList}
use Rattle.std.proofs.lemmas.Iterator.Splits.{YieldsList-from_shown_while}
use Rattle.std.proofs.lemmas.List.Sums.{prefix_len-le-length, prefix_len_passes}
use Rattle.std.specs.List.{prefix_len}
use Rattle.std.specs.Slice.Iter.{chunks_exact_rest, chunks_exact_size, chunks_exact_steps}
use Rattle.bits.specs.Words.{both}
use Rattle.faults.specs.Faults.{number_in}
use Rattle.tape.specs.Tape.{kind_of, size_of, event_fault, plain, Plain}
use Rattle.tape.proofs.ScanLaws.{plain_sound, plain_size}

-- ---- the pieces
abbrev pub threes : List ℕ → List (List ℕ)
threes [] = []
threes (a ∷ []) = []
threes (a ∷ b ∷ []) = []
threes (a ∷ b ∷ c ∷ l) = (a ∷ b ∷ c ∷ []) ∷ threes l

threes_none : (l : List ℕ) → length l < 3 → length (threes l) ≡ 0
threes_none [] h = refl
threes_none (a ∷ []) h = refl
threes_none (a ∷ b ∷ []) h = refl
threes_none (a ∷ b ∷ c ∷ l) h = absurd (omega arith)

threes_more : (x l : List ℕ) → length x ≡ 3 → threes (x ++ l) ≡ x ∷ threes l
threes_more [] l h = absurd (omega arith)
threes_more (a ∷ []) l h = absurd (omega arith)
threes_more (a ∷ b ∷ []) l h = absurd (omega arith)
threes_more (a ∷ b ∷ c ∷ []) l h = refl
threes_more (a ∷ b ∷ c ∷ d ∷ x) l h = absurd (omega arith)

threes_few : (l : List ℕ) → 3 * length (threes l) ≤ length l
threes_few [] = omega arith
threes_few (a ∷ []) = omega arith
threes_few (a ∷ b ∷ []) = omega arith
threes_few (a ∷ b ∷ c ∷ l) = omega (arith, threes_few l)

threes_at : (l : List ℕ) (i : ℕ) → i < length (threes l) → get_or (threes l) i [] ≡ take 3 (drop (3 * i) l)
threes_at [] i h = absurd (omega arith)
threes_at (a ∷ []) i h = absurd (omega arith)
threes_at (a ∷ b ∷ []) i h = absurd (omega arith)
threes_at (a ∷ b ∷ c ∷ l) zero h = refl
threes_at (a ∷ b ∷ c ∷ l) (suc i) h = let e : 3 * suc i ≡ suc (suc (suc (3 * i))) = omega arith in rw e (threes_at l i (omega arith))

pub threes_yielded : (s : _) → chunks_exact_size s ≡ 3 → YieldsList chunks_exact_steps (λ x. x.now) s (threes (chunks_exact_rest s))
threes_yielded s h =
    YieldsList-from_shown_while chunks_exact_steps (λ x. x.now) (λ s. threes (chunks_exact_rest s)) (λ s. chunks_exact_size s ≡ 3)
    (λ s t h e. threes_none (chunks_exact_rest s) (omega (arith, e.1.0, h)))
    (λ s x t h e. (e.0 ∙ h, ap threes e.1.0 ∙ threes_more x.now (chunks_exact_rest t) (e.1.1 ∙ h)))
    s h

-- ---- a plain event has no fault, and three bytes
plain_event : (p : ℕ) (l : List ℕ) → plain (take 3 l) ≡ true → (number_in (event_fault p l) ≡ 0) × (size_of (kind_of l) ≡ 3)
plain_event p [] e = absurd cc
plain_event p (a ∷ []) e = absurd cc
plain_event p (a ∷ b ∷ []) e = absurd cc
plain_event p (a ∷ b ∷ c ∷ l) e =
    let t = all (eqb a 0x45) (eqb b 0x56) (ltb c 5) e in
    let known = ltb-true c 5 t.2 in
    (plain_sound p (a ∷ b ∷ c ∷ l) (omega arith) (eqb-true a 0x45 t.0) (eqb-true b 0x56 t.1) known, plain_size c known)
  where
    all : (m n k : Bool) → both (both m n) k ≡ true → (m ≡ true) × (n ≡ true) × (k ≡ true)
    all true true true e = (refl, refl, refl)
    all true true false e = absurd cc
    all true false k e = absurd cc
    all false n k e = absurd cc

pub plain_run : (s : List ℕ) (at : ℕ) → at ≤ length s → Plain s at (prefix_len plain (threes (drop at s)))
plain_run s at h =
    let k = prefix_len plain (threes (drop at s)) in
    let few = prefix_len-le-length plain (threes (drop at s)) in
    let inside = threes_few (drop at s) in
    record { inside = omega (arith, few, inside, length-drop at s); sound = λ i q. (each i q).0; short = λ i q. rw get_or-drop at (each i q).1 }
  where
    each : (i : ℕ) → i < prefix_len plain (threes (drop at s)) → (number_in (event_fault (at + 3 * i) (drop (at + 3 * i) s)) ≡ 0) × (size_of (kind_of (drop (at + 3 * i) s)) ≡ 3)
    each i q =
        let few = prefix_len-le-length plain (threes (drop at s)) in
        let there = threes_at (drop at s) i (omega (arith, few)) in
        plain_event (at + 3 * i) (drop (at + 3 * i) s) (rw (← drop-drop, ← there) (prefix_len_passes plain (threes (drop at s)) i [] q))
