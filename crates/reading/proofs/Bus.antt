-- The devices on one wire: demand 3, for any events and any number of devices.
use Prim.Native.Nat.{ℕ, suc}
use mathlib.Core.Path.{◌≡◌, refl, sym, ap, subst, ◌∙◌}
use mathlib.Core.Bool.{Bool, true, false}
use mathlib.Core.List.{List, [], ◌∷◌, map}
use Rattle.std.specs.Prelude.{Option, Some, None}
use lib.Dec.{T}
use lib.ListN.{length}
use Rattle.bits.specs.Words.{pick}
use Rattle.chip.specs.declared.Device.{Device}
use Rattle.chip.specs.declared.Event.{Event}
use Rattle.chip.specs.declared.Event.TheVariants.{Bit, Null, Wait, Reset, Cut}
use Rattle.chip.specs.Take.{take_of}
use Rattle.wire.specs.Wire.{any_busy, barred, table_of, next_of, last_of}
use Rattle.reading.specs.Stretch.{grown, stretch_after, stretch_from, stretch_of}
use Rattle.reading.specs.Grammar.{Stored}
use Rattle.reading.specs.Cycles.{Begun, Reading, now, after_all, is_some, is_running, any_runs, begins, read_on, all_on, read_from, fresh, reading_of, cycles_of, stored_at_end}
use Rattle.reading.specs.Demand.{stored_of, programs, would_begin, Loaded, one_more, Demand3}
use Rattle.reading.proofs.OneDevice.{Sim, SimR, audible, sim_runs, sim_bit, sim_reset, read_null, read_wait, read_cut, read_stored, read_begins}

abbrev Sims : Option (List ℕ) → List Reading → List Device → Type 0
Sims st [] [] = Unit {0}
Sims st [] (d ∷ ds) = ⊥
Sims st (r ∷ rs) [] = ⊥
Sims st (r ∷ rs) (d ∷ ds) = SimR st r d × Sims st rs ds

-- ---- a cycle runs in the one where it runs in the other
any_same : (st : Option (List ℕ)) (rs : List Reading) (ds : List Device) → Sims st rs ds → any_busy ds ≡ any_runs rs
unfolding any_busy any_runs
any_same st [] [] q = refl
any_same st [] (d ∷ ds) q = absurd q
any_same st (r ∷ rs) [] q = absurd q
any_same st (r ∷ rs) (d ∷ ds) q =
    ap (λ (b : Bool). pick b true (any_busy ds)) (sim_runs r.running st (now r) d q.0) ∙ ap (λ (b : Bool). pick (is_running r) true b) (any_same st rs ds q.1)

or_l : (a b : Bool) → pick a true b ≡ false → a ≡ false
or_l true b e = e
or_l false b e = refl

or_r : (a b : Bool) → pick a true b ≡ false → b ≡ false
or_r true b e = cc
or_r false b e = e

-- ---- an event goes through the table; `calm`: no cycle runs
module _ (n : ℕ) (busy : Bool) (st e e' : Option (List ℕ)) (ev : Event) where
  each_one : ((r : Reading) (d : Device) → SimR e r d → SimR e' (read_on n busy st ev r) (take_of d ev).device)
      → (rs : List Reading) (ds : List Device) → Sims e rs ds → Sims e' (map (read_on n busy st ev) rs) (table_of ds ev)
  unfolding table_of
  each_one f [] [] q = tt
  each_one f [] (d ∷ ds) q = absurd q
  each_one f (r ∷ rs) [] q = absurd q
  each_one f (r ∷ rs) (d ∷ ds) q = (f r d q.0, each_one f rs ds q.1)

  each_calm : ((r : Reading) (d : Device) → is_running r ≡ false → SimR e r d → SimR e' (read_on n busy st ev r) (take_of d ev).device)
      → (rs : List Reading) (ds : List Device) → any_runs rs ≡ false → Sims e rs ds → Sims e' (map (read_on n busy st ev) rs) (table_of ds ev)
  unfolding table_of any_runs
  each_calm f [] [] c q = tt
  each_calm f [] (d ∷ ds) c q = absurd q
  each_calm f (r ∷ rs) [] c q = absurd q
  each_calm f (r ∷ rs) (d ∷ ds) c q = (f r d (or_l _ (any_runs rs) c) q.0, each_calm f rs ds (or_r (is_running r) _ c) q.1)

calm_bit : (run : Option Begun) (st : Option (List ℕ)) (s : Stored) (d : Device) (b : ℕ) → is_some run ≡ false → Sim run st s d → Sim run (grown st b) s (take_of d (Bit b)).device
calm_bit None st s d b e q = sim_bit st s d b q
calm_bit (Some x) st s d b e q = absurd (subst T e tt)

calm_reset : (run : Option Begun) (st : Option (List ℕ)) (s : Stored) (d : Device) → is_some run ≡ false → Sim run st s d → Sim run None s (take_of d Reset).device
calm_reset None st s d e q = sim_reset st s d q
calm_reset (Some x) st s d e q = absurd (subst T e tt)

-- bits and resets change no reading; a Cut leaves no cycle
on_bit : (n : ℕ) (busy : Bool) (st : Option (List ℕ)) (b : ℕ) (rs : List Reading) → map (read_on n busy st (Bit b)) rs ≡ rs
unfolding read_on
on_bit n busy st b [] = refl
on_bit n busy st b (r ∷ rs) = ap {B = List Reading} (λ l. r ∷ l) (on_bit n busy st b rs)

on_reset : (n : ℕ) (busy : Bool) (st : Option (List ℕ)) (rs : List Reading) → map (read_on n busy st Reset) rs ≡ rs
unfolding read_on
on_reset n busy st [] = refl
on_reset n busy st (r ∷ rs) = ap {B = List Reading} (λ l. r ∷ l) (on_reset n busy st rs)

on_cut : (n : ℕ) (busy : Bool) (st : Option (List ℕ)) (m : ℕ) (rs : List Reading) → any_runs (map (read_on n busy st (Cut m)) rs) ≡ false
unfolding read_on any_runs
on_cut n busy st m [] = refl
on_cut n busy st m (r ∷ rs) = on_cut n busy st m rs

audible_none : (b : Bool) → audible b (Some []) ≡ Some []
audible_none true = refl
audible_none false = refl

module _ (n : ℕ) (st : Option (List ℕ)) (rs : List Reading) (ds : List Device) where
  -- after event ev, with b for "a cycle runs"
  abbrev After : Event → Bool → Type 0
  After ev b = Sims (audible (any_runs (all_on n b st ev rs)) (stretch_after st ev)) (all_on n b st ev rs) (pick (barred ev b) ds (table_of ds ev))

  by_event : (ev : Event) (b : Bool) → any_runs rs ≡ b → Sims (audible b st) rs ds → After ev b
  unfolding read_on
  by_event (Bit x) true e q = rw e q
  by_event (Bit x) false e q =
      subst (λ (c : Bool). Sims (audible c (grown st x)) (all_on n false st (Bit x) rs) (table_of ds (Bit x))) (sym (ap any_runs (on_bit n false st x rs) ∙ e))
      (each_calm n false st st (grown st x) (Bit x) (λ r d c p. calm_bit r.running st (now r) d x c p) rs ds e q)
  by_event Null b e q =
      subst (λ (z : Option (List ℕ)). Sims z (all_on n b st Null rs) (table_of ds Null)) (sym (audible_none (any_runs (all_on n b st Null rs))))
      (each_one n b st (audible b st) (Some []) Null (λ r d p. read_null n b st r d p) rs ds q)
  by_event Wait b e q =
      subst (λ (z : Option (List ℕ)). Sims z (all_on n b st Wait rs) (table_of ds Wait)) (sym (audible_none (any_runs (all_on n b st Wait rs))))
      (each_one n b st (audible b st) (Some []) Wait (λ r d p. read_wait n b st r d p) rs ds q)
  by_event Reset true e q = rw e q
  by_event Reset false e q =
      subst (λ (c : Bool). Sims (audible c None) (all_on n false st Reset rs) (table_of ds Reset)) (sym (ap any_runs (on_reset n false st rs) ∙ e))
      (each_calm n false st st None Reset (λ r d c p. calm_reset r.running st (now r) d c p) rs ds e q)
  by_event (Cut m) b e q =
      subst (λ (c : Bool). Sims (audible c None) (all_on n b st (Cut m) rs) (table_of ds (Cut m))) (sym (on_cut n b st m rs))
      (each_one n b st (audible b st) None (Cut m) (λ r d p. read_cut n m (audible b st) r d p) rs ds q)

  step : (ev : Event) → Sims (audible (any_runs rs) st) rs ds
      → Sims (audible (any_runs (all_on n (any_runs rs) st ev rs)) (stretch_after st ev)) (all_on n (any_runs rs) st ev rs) (next_of ds ev)
  unfolding next_of
  step ev q =
      subst (λ (b : Bool). Sims (audible (any_runs (all_on n (any_runs rs) st ev rs)) (stretch_after st ev)) (all_on n (any_runs rs) st ev rs) (pick (barred ev b) ds (table_of ds ev)))
      (sym (any_same (audible (any_runs rs) st) rs ds q)) (by_event ev (any_runs rs) refl q)

-- ---- any events
run : (evs : List Event) (n : ℕ) (st : Option (List ℕ)) (rs : List Reading) (ds : List Device) → Sims (audible (any_runs rs) st) rs ds
    → Sims (audible (any_runs (read_from n st rs evs)) (stretch_from st evs)) (read_from n st rs evs) (last_of ds evs)
unfolding read_from stretch_from last_of
run [] n st rs ds q = q
run (ev ∷ evs) n st rs ds q = run evs (suc n) (stretch_after st ev) (all_on n (any_runs rs) st ev rs) (next_of ds ev) (step n st rs ds ev q)

-- ---- a loaded table
load_calm : (ss : List Stored) → any_runs (map fresh ss) ≡ false
unfolding any_runs
load_calm [] = refl
load_calm (s ∷ ss) = load_calm ss

load_sims : (ds : List Device) → Loaded ds → Sims None (map fresh (map stored_of ds)) ds
unfolding after_all
load_sims [] l = tt
load_sims (d ∷ ds) (one_more e p l) = (record { stage = e; stored = refl; page = p }, load_sims ds l)

-- ---- what the relation says at the end
end_stored : (st : Option (List ℕ)) (rs : List Reading) (ds : List Device) → Sims st rs ds → map stored_of ds ≡ stored_at_end rs
end_stored st [] [] q = refl
end_stored st [] (d ∷ ds) q = absurd q
end_stored st (r ∷ rs) [] q = absurd q
end_stored st (r ∷ rs) (d ∷ ds) q =
    ap {B = List Stored} (λ (s : Stored). s ∷ map stored_of ds) (read_stored st r d q.0) ∙ ap {B = List Stored} (λ l. after_all r.loaded (cycles_of r) ∷ l) (end_stored st rs ds q.1)

end_running : (st : Option (List ℕ)) (rs : List Reading) (ds : List Device) → Sims st rs ds → map programs ds ≡ map is_running rs
end_running st [] [] q = refl
end_running st [] (d ∷ ds) q = absurd q
end_running st (r ∷ rs) [] q = absurd q
end_running st (r ∷ rs) (d ∷ ds) q =
    ap {B = List Bool} (λ (b : Bool). b ∷ map programs ds) (sim_runs r.running st (now r) d q.0) ∙ ap {B = List Bool} (λ l. is_running r ∷ l) (end_running st rs ds q.1)

module _ (n : ℕ) (busy : Bool) (st : Option (List ℕ)) where
  end_begins : (rs : List Reading) (ds : List Device) → (busy ≡ false → any_runs rs ≡ false) → Sims (audible busy st) rs ds
      → map would_begin ds ≡ map (λ r. is_some (begins n busy st (now r))) rs
  unfolding any_runs
  end_begins [] [] c q = refl
  end_begins [] (d ∷ ds) c q = absurd q
  end_begins (r ∷ rs) [] c q = absurd q
  end_begins (r ∷ rs) (d ∷ ds) c q =
      ap {B = List Bool} (λ (b : Bool). b ∷ map would_begin ds) (read_begins n busy st r.running (now r) d (λ e. or_l _ (any_runs rs) (c e)) q.0)
      ∙ ap {B = List Bool} (λ l. is_some (begins n busy st (now r)) ∷ l) (end_begins rs ds (λ e. or_r (is_running r) _ (c e)) q.1)

pub demand3 : (ds : List Device) (evs : List Event) → Loaded ds → Demand3 ds evs
demand3 ds evs l =
    let start = map fresh (map stored_of ds) in
    let rs = reading_of (map stored_of ds) evs in
    let q = run evs 0 None start ds (subst (λ (b : Bool). Sims (audible b None) start ds) (sym (load_calm (map stored_of ds))) (load_sims ds l)) in
    record {
      stored = end_stored _ rs (last_of ds evs) q;
      programming = end_running _ rs (last_of ds evs) q;
      beginning = end_begins (length evs) (any_runs rs) (stretch_of evs) rs (last_of ds evs) (λ e. e) q;
    }
