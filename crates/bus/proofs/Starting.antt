-- The devices of a file that loads, as a run first keeps them.
use Rattle.faults.specs.Faults.{number_in}
use Prim.Native.Nat.{ℕ, zero, suc, ◌+◌, ◌<◌, ◌≤◌}
use native.Mathlib.Omega.{arith}
use native.Mathlib.Nat.{not-suc-le-zero, le_of_suc-le-suc}
use mathlib.Core.Path.{◌≡◌, refl, sym, ap, ◌∙◌}
use mathlib.Core.Bool.{false}
use mathlib.Core.List.{List, [], ◌∷◌, map}
use lib.ListN.{length, get_or, take, replicate, length-replicate, get_or-replicate, length-map, get_or-map}
use lib.Seq.{get_or-take, length-take-le}
use Rattle.std.specs.Prelude.{Option, None}
use Rattle.chip.specs.declared.Device.{Device}
use Rattle.chip.specs.declared.Head.{Head}
use Rattle.chip.specs.declared.Stage.{Stage}
use Rattle.chip.specs.declared.Stage.TheVariants.{Standby}
use Rattle.chip.specs.Head.{at}
use Rattle.chip.specs.Take.{head_of}
use Rattle.wire.specs.Wire.{any_busy}
use Rattle.image.specs.Scan.{bus_fault}
use Rattle.image.specs.Image.{devices_of}
use Rattle.image.specs.Promises.{Stored, Rising, stored_of}
use Rattle.image.proofs.Promised.{promised}
use Rattle.bus.specs.Held.{number, blank_head, Differ, NamedIn}
use Rattle.bus.proofs.Held.{AllFit, blank, saved_flat}
use Rattle.bus.proofs.Landing.{rests}
use Rattle.bus.proofs.Passing.{standing_other}
use Rattle.bus.proofs.Wired.{Wired}

-- a device as a load leaves it, at slave address `least` or above
pub record Fresh (least : ℕ) (d : Device) : Type 0 where
  pub stored : Stored least d
  pub page : d.page ≡ replicate 8 0
  pub stage : d.stage ≡ Standby

pub data AllFresh : ℕ → List Device → Type 0 where
  none : {least : ℕ} → AllFresh least []
  more : {least : ℕ} {d : Device} {ds : List Device} → Fresh least d → AllFresh (d.slave + 1) ds → AllFresh least (d ∷ ds)

all_fresh : (least : ℕ) (ds : List Device) → Rising least ds → map stored_of ds ≡ ds → AllFresh least ds
all_fresh least [] Rising.none e = none
all_fresh least (d ∷ ds) (Rising.more s r) e =
    let h : stored_of d ≡ d = cc in
    let t : map stored_of ds ≡ ds = cc in
    more (record { stored = s; page = sym (ap (λ (x : Device). x.page) h); stage = sym (ap (λ (x : Device). x.stage) h) }) (all_fresh (d.slave + 1) ds r t)

pub loaded_fresh : (bus : List ℕ) → number_in (bus_fault bus) ≡ 0 → AllFresh 0 (devices_of bus)
loaded_fresh bus e = all_fresh 0 (devices_of bus) (promised.rising bus e) (promised.fresh bus)

-- ---- what all of them have
fresh_fit : (least : ℕ) (ds : List Device) → AllFresh least ds → AllFit ds
fresh_fit least [] none = AllFit.none
fresh_fit least (d ∷ ds) (more f a) = AllFit.more (record { sized = f.stored.sized; page = ap length f.page }) (fresh_fit (d.slave + 1) ds a)

fresh_idle : (least : ℕ) (ds : List Device) → AllFresh least ds → any_busy ds ≡ false
unfolding any_busy
fresh_idle least [] none = refl
fresh_idle least (d ∷ ds) (more f a) = rw f.stage (fresh_idle (d.slave + 1) ds a)

fresh_at : (least : ℕ) (ds : List Device) (k : ℕ) → k < length ds → AllFresh least ds → ((get_or ds k blank).stage ≡ Standby) × ((get_or ds k blank).slave < 8) × (least ≤ (get_or ds k blank).slave)
fresh_at least [] k h a = absurd (not-suc-le-zero h)
fresh_at least (d ∷ ds) zero h (more f a) = (f.stage, omega (arith, f.stored.slave), f.stored.above)
fresh_at least (d ∷ ds) (suc k) h (more f a) =
    let r = fresh_at (d.slave + 1) ds k (le_of_suc-le-suc h) a in (r.0, r.1, omega (arith, r.2, f.stored.above))

fresh_page : (least : ℕ) (ds : List Device) (k : ℕ) → k < length ds → AllFresh least ds → (get_or ds k blank).page ≡ replicate 8 0
fresh_page least [] k h a = absurd (not-suc-le-zero h)
fresh_page least (d ∷ ds) zero h (more f a) = f.page
fresh_page least (d ∷ ds) (suc k) h (more f a) = fresh_page (d.slave + 1) ds k (le_of_suc-le-suc h) a

fresh_rise : (least : ℕ) (ds : List Device) (i k : ℕ) → i < k → k < length ds → AllFresh least ds → (get_or ds i blank).slave < (get_or ds k blank).slave
fresh_rise least [] i k q h a = absurd (not-suc-le-zero h)
fresh_rise least (d ∷ ds) i zero q h a = absurd (not-suc-le-zero q)
fresh_rise least (d ∷ ds) zero (suc k) q h (more f a) = omega (arith, (fresh_at (d.slave + 1) ds k (le_of_suc-le-suc h) a).2)
fresh_rise least (d ∷ ds) (suc i) (suc k) q h (more f a) = fresh_rise (d.slave + 1) ds i k (le_of_suc-le-suc q) (le_of_suc-le-suc h) a

-- ---- the first moment of a run
module _ (bus : List ℕ) (clean : number_in (bus_fault bus) ≡ 0) (n : ℕ) (few : n ≤ 8) (devices : List Device) (long : length devices ≡ 8) (loaded : take n devices ≡ devices_of bus) where
  ds : List Device
  ds = devices_of bus

  count : length ds ≡ n
  unfolding ds
  count = ap length (sym loaded) ∙ length-take-le n devices (omega arith)

  all : AllFresh 0 ds
  unfolding ds
  all = loaded_fresh bus clean

  device_at_lem : (k : ℕ) → k < n → get_or ds k blank ≡ get_or devices k blank
  unfolding ds
  device_at_lem k h = ap (λ (l : List Device). get_or l k blank) (sym loaded) ∙ get_or-take n devices k blank h

  head_at : (k : ℕ) → k < n → get_or (map head_of devices) k blank_head ≡ head_of (get_or ds k blank)
  head_at k h = get_or-map head_of devices k blank ∙ ap head_of (sym (device_at_lem k h))

  -- the loaded ones alone
  abbrev firsts : List Head
  firsts = take n (map head_of devices)

  many : length firsts ≡ n
  many = length-take-le n (map head_of devices) (omega (arith, long, length-map devices head_of))

  first_at : (k : ℕ) → k < n → get_or firsts k blank_head ≡ head_of (get_or ds k blank)
  first_at k h = get_or-take n (map head_of devices) k blank_head h ∙ head_at k h

  differ : Differ firsts
  differ = record {
    low = λ k h. rw (first_at k (omega (arith, many))) (fresh_at 0 ds k (omega (arith, many, count)) all).1;
    apart = λ i k q h e.
        let r = fresh_rise 0 ds i k q (omega (arith, many, count)) all in
        let z : (get_or ds i blank).slave ≡ (get_or ds k blank).slave = rw (first_at i (omega (arith, many)), first_at k (omega (arith, many))) at e in
        omega arith;
  }

  pub started : (who : List (Option ℕ)) → NamedIn firsts who → Wired n (devices_of bus) who (number None) Standby false (map head_of devices) (replicate {A = List ℕ} 8 (replicate {A = ℕ} 8 0)) bus
  unfolding ds
  started who named = record {
    held = record {
      count = count;
      room = omega (arith, length-replicate {A = List ℕ} 8 (replicate {A = ℕ} 8 0));
      paged = λ k h. get_or-replicate {A = List ℕ} 8 k (replicate {A = ℕ} 8 0) [] (omega arith) ∙ sym (fresh_page 0 ds k (omega (arith, count)) all);
      bytes = sym (promised.same_bytes bus clean) ∙ saved_flat (devices_of bus);
      fit = fresh_fit 0 ds all;
    };
    heads = λ k h.
        let s = (fresh_at 0 ds k (omega (arith, count)) all).0 in
        sym (standing_other (number None) k Standby (get_or (map head_of devices) k blank_head) (λ e. omega arith)
        ∙ ap (λ (g : Head). at g Standby) (head_at k h) ∙ ap (λ (t : Stage). at (head_of (get_or ds k blank)) t) (sym s));
    apart = rests;
    beyond = λ h. absurd (omega arith);
    alone = λ h. absurd (omega arith);
    programs = sym (fresh_idle 0 ds all);
    named = λ k h. ap (λ (g : Head). get_or who g.slave None) (sym (first_at k h)) ∙ named.named differ k (omega (arith, many));
  }
