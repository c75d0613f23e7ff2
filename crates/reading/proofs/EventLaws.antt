-- One event more: what it adds to the reading, and what begins at it; at most one slave address is spoken to.
use Prim.Native.Nat.{ℕ, suc, ◌+◌, ◌%◌}
use native.Mathlib.Nat.{add-zero}
use native.Mathlib.Omega.{arith}
use mathlib.Core.Path.{◌≡◌, refl, sym, ap, ◌∙◌}
use mathlib.Core.Bool.{Bool, true, false}
use mathlib.Core.List.{List, [], ◌∷◌, ◌++◌, map}
use Rattle.std.specs.Prelude.{Option, Some, None}
use borrow.Author.Tests.{eqb-true}
use lib.Dec.{eqb}
use lib.ListN.{length}
use Rattle.bits.specs.Words.{pick, both, is_not}
use Rattle.bits.specs.Bytes.{mask_byte, slave_of, read_of}
use Rattle.chip.specs.declared.Region.{Region}
use Rattle.chip.specs.declared.Region.TheVariants.{Main, Security}
use Rattle.chip.specs.declared.Device.{Device}
use Rattle.chip.specs.declared.Event.{Event}
use Rattle.chip.specs.declared.Event.TheVariants.{Null, Wait}
use Rattle.reading.specs.Stretch.{stretch_after, stretch_from, stretch_of, bytes_of}
use Rattle.reading.specs.Grammar.{Stored, Deed, page, locks, makes_rom, freezes, sentence_of, in_bytes, sentence}
use Rattle.reading.specs.Cycles.{Ending, by_wait, by_cut, runs, Cycle, with_bytes, flagged, effect, Begun, Reading, now, after_all, is_some, is_running, any_runs, begin_at, begins, or_else, nulled, closed, read_on, all_on, read_from, fresh, reading_of, cycles_of, stored_at_end}
use Rattle.reading.specs.Demand.{stored_of, Loaded}
use Rattle.reading.specs.Laws.{ended_by, NextStart}
use Rattle.reading.proofs.OneDevice.{after_closing, still_now}
use Rattle.reading.proofs.Bus.{demand3}

-- ---- the reading after a part of the events
shift : (n k : ℕ) → suc n + k ≡ n + suc k
shift n k = omega arith

zero_left : (n : ℕ) → 0 + n ≡ n
zero_left n = omega arith

read_append : (past evs : List Event) (n : ℕ) (st : Option (List ℕ)) (rs : List Reading)
    → read_from n st rs (past ++ evs) ≡ read_from (n + length past) (stretch_from st past) (read_from n st rs past) evs
unfolding read_from stretch_from
read_append [] evs n st rs = ap (λ (k : ℕ). read_from k st rs evs) (sym (add-zero n))
read_append (ev ∷ past) evs n st rs =
    let rs' = all_on n (any_runs rs) st ev rs in
    let st' = stretch_after st ev in
    read_append past evs (suc n) st' rs' ∙ ap (λ (k : ℕ). read_from k (stretch_from st' past) (read_from (suc n) st' rs' past) evs) (shift n (length past))

pub next_event : (ss : List Stored) (past : List Event) (ev : Event)
    → reading_of ss (past ++ (ev ∷ [])) ≡ all_on (length past) (any_runs (reading_of ss past)) (stretch_of past) ev (reading_of ss past)
unfolding read_from
next_event ss past ev =
    let rs = reading_of ss past in
    read_append past (ev ∷ []) 0 None (map fresh ss) ∙ ap (λ (n : ℕ). all_on n (any_runs rs) (stretch_of past) ev rs) (zero_left (length past))

-- ---- a Null and a Wait
module _ (n : ℕ) (busy : Bool) (st : Option (List ℕ)) where
  abbrev cycle_at : Reading → Option Begun
  cycle_at r = or_else r.running (begins n busy st (now r))

  null_runs : (rs : List Reading) → map is_running (map (read_on n busy st Null) rs) ≡ map (λ r. is_some (cycle_at r)) rs
  unfolding read_on
  null_runs [] = refl
  null_runs (r ∷ rs) = ap {B = List Bool} (λ l. is_some (cycle_at r) ∷ l) (null_runs rs)

  wait_one : (r : Reading) → after_all r.loaded (cycles_of (closed (by_wait n) (nulled n busy st r))) ≡ ended_by (by_wait n) (cycle_at r) (now r)
  wait_one r = still_now (closed (by_wait n) (nulled n busy st r)) ∙ after_closing r.loaded r.done (cycle_at r) (by_wait n)

  wait_stored : (rs : List Reading) → stored_at_end (map (read_on n busy st Wait) rs) ≡ map (λ r. ended_by (by_wait n) (cycle_at r) (now r)) rs
  unfolding read_on
  wait_stored [] = refl
  wait_stored (r ∷ rs) =
      ap {B = List Stored} (λ (s : Stored). s ∷ stored_at_end (map (read_on n busy st Wait) rs)) (wait_one r)
      ∙ ap {B = List Stored} (λ l. ended_by (by_wait n) (cycle_at r) (now r) ∷ l) (wait_stored rs)

pub next_start : (ds : List Device) (past : List Event) → Loaded ds → NextStart ds past
next_start ds past l =
    let ss = map stored_of ds in
    let rs = reading_of ss past in
    let n = length past in
    let st = stretch_of past in
    record {
      at_null = (demand3 ds (past ++ (Null ∷ [])) l).programming ∙ ap (map is_running) (next_event ss past Null) ∙ null_runs n (any_runs rs) st rs;
      at_wait = (demand3 ds (past ++ (Wait ∷ [])) l).stored ∙ ap stored_at_end (next_event ss past Wait) ∙ wait_stored n (any_runs rs) st rs;
    }

-- ---- a stretch is a sentence for one slave address only
abbrev slave_in : Option (List ℕ) → ℕ
slave_in None = 0
slave_in (Some []) = 0
slave_in (Some (x ∷ xs)) = slave_of x

unspoken : {A : Type 0} (w : A) → ◌≡◌ {A = Option A} None (Some w) → ⊥
unspoken w e = let z : ◌≡◌ {A = ℕ} 0 1 = cc in omega arith

picked : {A : Type 0} (t u : Bool) (o : Option A) (w : A) → pick (both t u) o None ≡ Some w → t ≡ true
picked true u o w e = refl
picked false u o w e = absurd (unspoken w e)

in_slave : (s : Stored) (o : Option (List ℕ)) (w : Deed) → in_bytes s o ≡ Some w → slave_in o ≡ s.slave
unfolding sentence_of
in_slave s None w e = absurd (unspoken w e)
in_slave s (Some []) w e = absurd (unspoken w e)
in_slave s (Some (x ∷ xs)) w e = eqb-true (slave_of x) s.slave (picked (eqb (slave_of x) s.slave) (is_not (read_of x)) _ w e)

pub one_slave : (s s' : Stored) (bits : List ℕ) (d d' : Deed) → sentence s bits ≡ Some d → sentence s' bits ≡ Some d' → s.slave ≡ s'.slave
unfolding sentence
one_slave s s' bits d d' e e' = sym (in_slave s (bytes_of bits) d e) ∙ in_slave s' (bytes_of bits) d' e'

-- no cycle changes a slave address
slave_flag : (s : Stored) (place : ℕ) (t : Bool) → (pick t (flagged s place) s).slave ≡ s.slave
slave_flag s place true = refl
slave_flag s place false = refl

slave_bytes : (s : Stored) (r : Region) (l : List ℕ) → (with_bytes s r l).slave ≡ s.slave
slave_bytes s Main l = refl
slave_bytes s Security l = refl

slave_effect : (s : Stored) (d : Deed) (e : Ending) → (effect s d e).slave ≡ s.slave
slave_effect s (page w) (by_wait n) = slave_bytes s w.region _
slave_effect s (page w) (by_cut n m) = slave_bytes s w.region _
slave_effect s locks (by_wait n) = refl
slave_effect s locks (by_cut n m) = slave_flag s 5 (eqb (mask_byte m 0 % 2) 1)
slave_effect s (makes_rom z) (by_wait n) = refl
slave_effect s (makes_rom z) (by_cut n m) = slave_flag s z (eqb (mask_byte m 0 % 2) 1)
slave_effect s freezes (by_wait n) = refl
slave_effect s freezes (by_cut n m) = slave_flag s 4 (eqb (mask_byte m 0 % 2) 1)
slave_effect s d runs = refl

slave_kept : (s : Stored) (cs : List Cycle) → (after_all s cs).slave ≡ s.slave
unfolding after_all
slave_kept s [] = refl
slave_kept s (c ∷ cs) = slave_kept (effect s c.deed c.ended) cs ∙ slave_effect s c.deed c.ended

begun_deed : (n : ℕ) (o : Option Deed) (b : Begun) → begin_at n o ≡ Some b → o ≡ Some b.deed
begun_deed n None b e = absurd (unspoken b e)
begun_deed n (Some d) b e = cc

pub one_begins : (n : ℕ) (busy : Bool) (stretch : Option (List ℕ)) (r r' : Reading) (b b' : Begun)
    → begins n busy stretch (now r) ≡ Some b → begins n busy stretch (now r') ≡ Some b' → r.loaded.slave ≡ r'.loaded.slave
one_begins n true stretch r r' b b' e e' = absurd (unspoken b e)
one_begins n false None r r' b b' e e' = absurd (unspoken b e)
one_begins n false (Some bits) r r' b b' e e' =
    sym (slave_kept r.loaded r.done)
    ∙ one_slave (now r) (now r') bits b.deed b'.deed (begun_deed n _ b e) (begun_deed n _ b' e')
    ∙ slave_kept r'.loaded r'.done
