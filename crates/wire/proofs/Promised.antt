-- No answer of an event that is carried out is 80h: the wire is 0 or 1.
use Prim.Native.Nat.{ℕ, ◌≤◌}
use native.Mathlib.Omega.{arith}
use mathlib.Core.Path.{◌≡◌, refl}
use mathlib.Core.Bool.{Bool, true, false}
use mathlib.Core.List.{List, [], ◌∷◌}
use borrow.Author.Tests.{ne_eqb}
use lib.Dec.{eqb}
use Rattle.bits.specs.Words.{pick}
use Rattle.chip.specs.declared.Device.{Device}
use Rattle.chip.specs.declared.Event.{Event}
use Rattle.chip.specs.declared.Event.TheVariants.{Bit, Null, Wait, Reset, Cut}
use Rattle.chip.specs.Take.{take_of}
use Rattle.bits.proofs.Choices.{choice}
use Rattle.wire.specs.Wire.{any_busy, barred, next_of, masters_level, pulled, wire_of, replied, answer_of, answers_of, refused_of}
use Rattle.wire.specs.Promises.{count80, Promises}

wire_low : (ds : List Device) (ev : Event) (w : ℕ) → w ≤ 1 → wire_of ds ev w ≤ 1
unfolding wire_of
wire_low [] ev w h = h
wire_low (d ∷ ds) ev w h = wire_low ds ev (pulled (take_of d ev).level w) (choice (λ (x : ℕ). x ≤ 1) (eqb (take_of d ev).level 0) (omega arith) h)

masters_low : (ev : Event) → masters_level ev ≤ 1
masters_low (Bit b) = omega arith
masters_low Null = omega arith
masters_low Wait = omega arith
masters_low Reset = omega arith
masters_low (Cut m) = omega arith

replied_low : (ev : Event) (w : ℕ) → w ≤ 1 → replied ev w ≤ 5
replied_low (Bit b) w h = omega arith
replied_low Null w h = omega arith
replied_low Wait w h = omega arith
replied_low Reset w h = choice (λ (x : ℕ). x ≤ 5) (eqb w 0) (omega arith) (omega arith)
replied_low (Cut m) w h = choice (λ (x : ℕ). x ≤ 5) (eqb w 0) (omega arith) (omega arith)

says_80 : (ds : List Device) (ev : Event) → eqb (answer_of ds ev) 0x80 ≡ barred ev (any_busy ds)
unfolding answer_of
says_80 ds ev = go (barred ev (any_busy ds))
  where
    go : (t : Bool) → eqb (pick t 0x80 (replied ev (wire_of ds ev (masters_level ev)))) 0x80 ≡ t
    go true = refl
    go false =
        let h = replied_low ev (wire_of ds ev (masters_level ev)) (wire_low ds ev (masters_level ev) (masters_low ev)) in
        ne_eqb (replied ev (wire_of ds ev (masters_level ev))) 0x80 (λ e. omega arith)

count : (ds : List Device) (evs : List Event) → count80 (answers_of ds evs) ≡ refused_of ds evs
unfolding count80 answers_of refused_of
count ds [] = refl
count ds (ev ∷ evs) = rw (says_80 ds ev, count (next_of ds ev) evs) refl

pub promised : Promises
promised = record { says_80 = says_80; count = count }
