-- Any event leaves a device as specs/WellFormed.antt asks: a Null or Wait by the cycle that is due, the end of a cycle by the one-way bits' places.
use Rattle.std.specs.Prelude.{Option, Some, None}
use Prim.Native.Nat.{ℕ, ◌+◌, ◌/◌, ◌%◌, ◌^◌, ◌<◌, ◌≤◌}
use native.Mathlib.Omega.{arith}
use mathlib.Core.Path.{◌≡◌, refl, sym, subst}
use mathlib.Core.Bool.{true, false}
use borrow.Author.Tests.{eqb-false, lt-ltb}
use lib.Dec.{eqb, leb}
use Rattle.bits.specs.Bytes.{has_flag, with_flag, mask_byte}
use Rattle.bits.proofs.Table.{All, each}
use Rattle.chip.specs.declared.Device.{Device}
use Rattle.chip.specs.declared.Head.{Head}
use Rattle.chip.specs.declared.Command.{Command}
use Rattle.chip.specs.declared.Command.TheVariants.{Page, Lock, Check, Rom, Freeze}
use Rattle.chip.specs.declared.Stage.{Stage}
use Rattle.chip.specs.declared.Stage.TheVariants.{Standby, Address, Place, Data, Sending, Programming}
use Rattle.chip.specs.declared.Cycle.{Cycle}
use Rattle.chip.specs.declared.Event.{Event}
use Rattle.chip.specs.declared.Event.TheVariants.{Bit, Null, Wait, Reset, Cut}
use Rattle.chip.specs.Cycle.{running, due, null_of, nulled, one_way, rom_bit, flags_after, whole, finished, reset_of, cut_of, heard}
use Rattle.chip.specs.Take.{head_of, take_of}
use Rattle.bits.proofs.Choices.{choice}
use Rattle.chip.proofs.KeptLaws.{head_after}
use Rattle.image.specs.Layout.{highest_flags}
use Rattle.table.specs.WellFormed.{most_taken, address_held, place_held, data_held, good_device}
use Rattle.table.proofs.Both.{both_of, of_both, chosen}
use Rattle.table.proofs.Good.{valued, Good, GoodHead, good_of, of_good, in_range, plain}
use Rattle.table.proofs.KeptBits.{good_bit}

-- ---- the one-way bits: six places, and so never bit 6 or 7
abbrev Room : ℕ → Type 0
Room k = (f : ℕ) → f ≤ highest_flags → (f / 2 ^ k % 2 ≡ 1 → ⊥) → f + 2 ^ k ≤ highest_flags

six : All Room 6
six = ((((((tt, λ f h o. omega arith), λ f h o. omega arith), λ f h o. omega arith), λ f h o. omega arith), λ f h o. omega arith), λ f h o. omega arith)

flag_few : (f k : ℕ) → f ≤ highest_flags → k < 6 → with_flag f k ≤ highest_flags
unfolding with_flag has_flag
flag_few f k h l =
    let e : k % 8 ≡ k = omega arith in
    rw e (chosen (λ (q : ℕ). q ≤ highest_flags) (eqb (f / 2 ^ k % 2) 1) (λ t. h) (λ t. each Room 6 six k l f h (eqb-false (f / 2 ^ k % 2) 1 t)))

one_way_few : (f k m : ℕ) → f ≤ highest_flags → k < 6 → one_way f k m ≤ highest_flags
one_way_few f k m h l = choice (λ (q : ℕ). q ≤ highest_flags) (eqb (mask_byte m 0 % 2) 1) (flag_few f k h l) h

rom_few : (f : ℕ) (z : Option ℕ) (m : ℕ) → f ≤ highest_flags → rom_bit f z m ≤ highest_flags
rom_few f None m h = h
rom_few f (Some z) m h = one_way_few f (z % 4) m h (omega arith)

flags_few : (h : Head) (c : Command) (m : ℕ) → h.flags ≤ highest_flags → flags_after h c m ≤ highest_flags
flags_few h (Page r) m l = l
flags_few h Lock m l = one_way_few h.flags 5 m l (omega arith)
flags_few h Check m l = l
flags_few h Rom m l = rom_few h.flags h.selector m l
flags_few h Freeze m l = one_way_few h.flags 4 m l (omega arith)

-- ---- a Null
module _ (h : Head) where
  abbrev GoodIn : Stage → Type 0
  GoodIn s = Good h.pointer h.selector h.flags s

  starts : {s : Stage} → GoodIn s → GoodIn (Address 0 0)
  starts g = plain g _ refl refl refl refl

  -- a cycle that is due holds a data byte
  good_cycle : (c : Command) (t n x : ℕ) → GoodIn (Data c t n x) → eqb t 0 ≡ false → GoodIn (Programming c t)
  good_cycle c t n x g e =
      let v = valued h.pointer h.selector h.flags in
      let o = eqb-false t 0 e in
      let a = both_of (address_held v c) _ g.held in
      let b = both_of (place_held v c) _ a.1 in
      let k : data_held v c ≡ true = rw e at b.1 in
      record {
        flags = g.flags;
        pointer = g.pointer;
        zone = g.zone;
        asked = g.asked;
        counts = of_both _ _ (lt-ltb 0 t (omega (arith, o))) (both_of (leb t (most_taken c)) _ g.counts).0;
        held = of_both _ _ a.0 (of_both _ _ b.0 k);
      }

  good_null : (s : Stage) → h.stage ≡ s → GoodIn s → GoodHead (null_of h (running s) (due s))
  good_null Standby e g = starts g
  good_null (Address n x) e g = starts g
  good_null (Place c n x) e g = starts g
  good_null (Data c t n x) e g =
      choice (λ (d : Option Cycle). GoodHead (null_of h None d)) (eqb n 0)
      (chosen (λ (d : Option Cycle). GoodHead (null_of h None d)) (eqb t 0) (λ a. starts g) (good_cycle c t n x g)) (starts g)
  good_null (Sending s n) e g = starts g
  good_null (Programming c t) e g = rw e g

-- ---- the end of a cycle, by itself or by a Reset or Cut
good_finished : (h : Head) (r : Option Cycle) → GoodHead h → GoodHead (finished h r).head
good_finished h None g = g
good_finished h (Some r) g =
    record { flags = flags_few h r.command whole g.flags; pointer = in_range g; zone = g.zone; asked = refl; counts = refl; held = refl }

fresh : (f : ℕ) → f ≤ highest_flags → Good 0 None f Standby
fresh f h = record { flags = h; pointer = omega arith; zone = refl; asked = refl; counts = refl; held = refl }

good_reset : (h : Head) (r : Option Cycle) → GoodHead h → GoodHead (reset_of h r).head
good_reset h None g = fresh h.flags g.flags
good_reset h (Some r) g = g

good_cut : (h : Head) (r : Option Cycle) (m : ℕ) → GoodHead h → GoodHead (cut_of h r m).head
good_cut h None m g = fresh h.flags g.flags
good_cut h (Some r) m g = fresh (flags_after h r.command m) (flags_few h r.command m g.flags)

-- ---- any event
pub good_heard : (h : Head) (ev : Event) → GoodHead h → GoodHead (heard h ev).head
unfolding heard
good_heard h (Bit b) g = good_bit h h.stage b g
good_heard h Null g = good_null h h.stage refl g
good_heard h Wait g = good_finished (nulled h) (running (nulled h).stage) (good_null h h.stage refl g)
good_heard h Reset g = good_reset h (running h.stage) g
good_heard h (Cut m) g = good_cut h (running h.stage) m g

pub good_after : (d : Device) (ev : Event) → d.flags ≤ highest_flags → good_device d ≡ true → ((take_of d ev).device.flags ≤ highest_flags) × (good_device (take_of d ev).device ≡ true)
good_after d ev h e =
    let g = subst GoodHead (sym (head_after d ev)) (good_heard (head_of d) ev (good_of d h e)) in
    (g.flags, of_good (take_of d ev).device g)
