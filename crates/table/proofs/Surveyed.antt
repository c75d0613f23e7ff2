-- One pass over the heads of a table judges it as specs/WellFormed.antt does.
--     talks_none, talks_one, talks_cycle, talks_more       each case of `talks_of`
--     seen_more, all_seen      what the pass has seen before turn i + 1, and after the last
--     busy_is, well_is, verdict_is     what it says of a whole table
use Rattle.std.specs.Prelude.{Option, Some, None}
use Prim.Native.Nat.{ℕ, zero, suc, ◌+◌, ◌%◌, ◌<◌, ◌≤◌}
use native.Mathlib.Omega.{arith}
use native.Mathlib.Nat.{zero-add, not-suc-le-zero, le_of_suc-le-suc}
use native.Mathlib.Numerals.{add-one}
use mathlib.Core.Path.{◌≡◌, refl, sym, ap, ◌∙◌}
use mathlib.Core.Bool.{Bool, true, false}
use mathlib.Core.List.{List, [], ◌∷◌}
use borrow.Author.Tests.{ltb-true, ltb-false, lt-leb, le-leb, eq-eqb, ne_eqb}
use lib.Dec.{eqb, ltb}
use lib.ListN.{length, get_or, take}
use Rattle.bits.specs.Words.{pick, both}
use Rattle.chip.specs.declared.Device.{Device}
use Rattle.chip.specs.declared.Head.{Head}
use Rattle.chip.specs.declared.Stage.{Stage}
use Rattle.chip.specs.declared.Stage.TheVariants.{Standby, Address, Place, Data, Sending, Programming}
use Rattle.chip.specs.Take.{head_of}
use Rattle.wire.specs.Wire.{busy, any_busy}
use Rattle.image.specs.Layout.{most_records}
use Rattle.chip.specs.declared.Byte.{Byte}
use Rattle.table.specs.declared.Survey.{Survey}
use Rattle.table.specs.declared.Verdict.{Verdict}
use Rattle.table.specs.WellFormed.{good_load, good_loads, good_pointer, good_selector, good_counts, good_held, good_device, good_devices, is_past, is_hearing, is_started, is_programming, total, agree_from, all_same_as, same_bits, one_talks, well_formed}
use Rattle.table.specs.Survey.{bare, tally, same_with, first_of, unseen, seen, seen_all, talks_of, well_of}
use Rattle.table.specs.Verdict.{verdict_of}
use Rattle.table.proofs.Counts.{weights}
use Rattle.table.proofs.Good.{held_is}
use Rattle.table.proofs.Well.{slave_few}

-- ---- who talks, by what was counted
module _ (s : Survey) (count : ℕ) where
  pub talks_none : s.past ≡ 0 → s.same ≡ talks_of s count
  unfolding talks_of
  talks_none e = rw (eq-eqb s.past 0 e) refl

  pub talks_one : (s.past ≡ 0 → ⊥) → s.past ≡ 1 → s.programming ≡ 0 → eqb s.hearing 0 ≡ talks_of s count
  unfolding talks_of
  talks_one f e p = rw (ne_eqb s.past 0 f, eq-eqb s.past 1 e, eq-eqb s.programming 0 p) refl

  pub talks_cycle : (s.past ≡ 0 → ⊥) → s.past ≡ 1 → (s.programming ≡ 0 → ⊥) → eqb (s.started + 1) count ≡ talks_of s count
  unfolding talks_of
  talks_cycle f e p = rw (ne_eqb s.past 0 f, eq-eqb s.past 1 e, ne_eqb s.programming 0 p) refl

  pub talks_more : (s.past ≡ 0 → ⊥) → (s.past ≡ 1 → ⊥) → false ≡ talks_of s count
  unfolding talks_of
  talks_more f e = rw (ne_eqb s.past 0 f, ne_eqb s.past 1 e) refl

-- ---- the pass, turn by turn
seen_suc : (i : ℕ) (s : Survey) (ds : List Device) (d : Device) → i < length ds → seen (seen_all s (take i ds)) (head_of (get_or ds i d)) ≡ seen_all s (take (suc i) ds)
unfolding seen_all
seen_suc i s [] d l = absurd (not-suc-le-zero l)
seen_suc zero s (x ∷ xs) d l = refl
seen_suc (suc i) s (x ∷ xs) d l = seen_suc i (seen s (head_of x)) xs d (le_of_suc-le-suc l)

pub seen_more : (i : ℕ) (s : Survey) (ds : List Device) (d : Device) → i < length ds → seen (seen_all s (take i ds)) (head_of (get_or ds i d)) ≡ seen_all s (take (i + 1) ds)
seen_more i s ds d l = rw add-one (seen_suc i s ds d l)

pub all_seen : (s : Survey) (ds : List Device) → seen_all s (take (length ds) ds) ≡ seen_all s ds
unfolding seen_all
all_seen s [] = refl
all_seen s (x ∷ xs) = all_seen (seen s (head_of x)) xs

-- ---- tests one after the other
both_last : (a : Bool) → a ≡ both a true
both_last true = refl
both_last false = refl

both_mixed : (a b c : Bool) → both (both a b) c ≡ both a (both b c)
both_mixed true b c = refl
both_mixed false b c = refl

pick_last : (a : Bool) → a ≡ pick a true false
pick_last true = refl
pick_last false = refl

pick_mixed : (a b c : Bool) → pick (pick a true b) true c ≡ pick a true (pick b true c)
pick_mixed true b c = refl
pick_mixed false b c = refl

-- ---- whether one programs
seen_busy : (s : Survey) (ds : List Device) → (seen_all s ds).busy ≡ pick s.busy true (any_busy ds)
unfolding seen_all seen any_busy
seen_busy s [] = pick_last s.busy
seen_busy s (d ∷ ds) = seen_busy (seen s (head_of d)) ds ∙ pick_mixed s.busy (busy d.stage) (any_busy ds)

-- ---- the same bits: what is left, with the bits of the first that reads its device address
abbrev agreeing : Option Byte → List Device → Bool
agreeing None ds = same_bits ds
agreeing (Some b) ds = all_same_as b.count b.bits ds

agree_none : (s : Stage) (ds : List Device) → agree_from s ds (same_bits ds) ≡ agreeing (first_of None s) ds
unfolding first_of
agree_none Standby ds = refl
agree_none (Address n x) ds = refl
agree_none (Place c n x) ds = refl
agree_none (Data c t n x) ds = refl
agree_none (Sending q n) ds = refl
agree_none (Programming c t) ds = refl

agree_cons : (first : Option Byte) (d : Device) (ds : List Device) → agreeing first (d ∷ ds) ≡ both (same_with first d.stage) (agreeing (first_of first d.stage) ds)
unfolding same_bits all_same_as same_with first_of
agree_cons None d ds = agree_none d.stage ds
agree_cons (Some b) d ds = refl

agree_nil : (first : Option Byte) → agreeing first [] ≡ true
unfolding same_bits all_same_as
agree_nil None = refl
agree_nil (Some b) = refl

seen_same : (s : Survey) (ds : List Device) → (seen_all s ds).same ≡ both s.same (agreeing s.first ds)
unfolding seen_all seen
seen_same s [] = both_last s.same ∙ ap (both s.same) (sym (agree_nil s.first))
seen_same s (d ∷ ds) =
    seen_same (seen s (head_of d)) ds
    ∙ both_mixed s.same (same_with s.first d.stage) (agreeing (first_of s.first d.stage) ds)
    ∙ ap (both s.same) (sym (agree_cons s.first d ds))

-- ---- each device by itself: a head says it all
bare_load : (least : ℕ) (d : Device) → good_load least (bare (head_of d)) ≡ good_load least d
unfolding good_load
bare_load least d = refl

bare_device : (d : Device) → good_device (bare (head_of d)) ≡ good_device d
unfolding good_device
bare_device d = λ j. both (good_pointer d) (both (good_selector d) (both (good_counts d.stage) (held j)))
  where
    held : good_held (bare (head_of d)) d.stage ≡ good_held d d.stage
    held = held_is (bare (head_of d)) d.stage ∙ sym (held_is d d.stage)

abbrev good_from : ℕ → List Device → Bool
good_from least ds = both (good_loads least ds) (good_devices ds)

good_cons : (least : ℕ) (d : Device) (ds : List Device) → good_from least (d ∷ ds) ≡ both (good_load least d) (both (good_device d) (good_from (d.slave + 1) ds))
unfolding good_loads good_devices
good_cons least d ds = mixed (good_load least d) (good_device d) (good_loads (d.slave + 1) ds) (good_devices ds)
  where
    mixed : (a b c e : Bool) → both (both a c) (both b e) ≡ both a (both b (both c e))
    mixed false b c e = refl
    mixed true true c e = refl
    mixed true false true e = refl
    mixed true false false e = refl

-- the pass takes the slave address below 128: a higher one is refused with its device
next_good : (least : ℕ) (d : Device) (ds : List Device) → both (good_load least d) (both (good_device d) (good_from (d.slave % 128 + 1) ds)) ≡ good_from least (d ∷ ds)
next_good least d ds = go (good_load least d) refl ∙ sym (good_cons least d ds)
  where
    go : (g : Bool) → good_load least d ≡ g → both (good_load least d) (both (good_device d) (good_from (d.slave % 128 + 1) ds)) ≡ both (good_load least d) (both (good_device d) (good_from (d.slave + 1) ds))
    go true e = let l = slave_few least d e in ap (λ (k : ℕ). both (good_load least d) (both (good_device d) (good_from k ds))) (omega (arith, l))
    go false e = rw e refl

seen_good : (s : Survey) (ds : List Device) → (seen_all s ds).good ≡ both s.good (good_from s.least ds)
unfolding seen_all seen good_loads good_devices
seen_good s [] = both_last s.good
seen_good s (d ∷ ds) =
    seen_good (seen s (head_of d)) ds
    ∙ (λ j. both (both s.good (both (bare_load s.least d j) (bare_device d j))) (good_from (d.slave % 128 + 1) ds))
    ∙ both_mixed s.good (both (good_load s.least d) (good_device d)) (good_from (d.slave % 128 + 1) ds)
    ∙ ap (both s.good) (both_mixed (good_load s.least d) (good_device d) (good_from (d.slave % 128 + 1) ds) ∙ next_good s.least d ds)

-- ---- the counts: exact, since no more than eight devices count one each
module _ (count : Survey → ℕ) (f : Stage → ℕ) (counts : (s : Survey) (h : Head) → count (seen s h) ≡ tally (count s) (f h.stage)) (once : (t : Stage) → f t ≤ 1) where
  seen_count : (s : Survey) (ds : List Device) → count s + length ds < 16 → count (seen_all s ds) ≡ count s + total f ds
  unfolding seen_all total
  seen_count s [] l = omega arith
  seen_count s (d ∷ ds) l =
      let a = once d.stage in
      let c : count (seen s (head_of d)) ≡ count s % 16 + f d.stage % 2 = counts s (head_of d) in
      let k : count (seen s (head_of d)) ≡ count s + f d.stage = omega (arith, a, c, l) in
      let h = seen_count (seen s (head_of d)) ds (omega (arith, a, k, l)) in
      omega (arith, h, k)

past_once : (t : Stage) → is_past t ≤ 1
past_once t = let w = weights t in omega (arith, w.once)

hearing_once : (t : Stage) → is_hearing t ≤ 1
hearing_once t = let w = weights t in omega (arith, w.once)

started_once : (t : Stage) → is_started t ≤ 1
started_once t = let w = weights t in omega (arith, w.once, w.hears)

programming_once : (t : Stage) → is_programming t ≤ 1
programming_once t = let w = weights t in omega (arith, w.once, w.beyond)

-- ---- a whole table
module _ (ds : List Device) where
  abbrev surveyed : Survey
  surveyed = seen_all unseen ds

  pub busy_is : surveyed.busy ≡ any_busy ds
  unfolding unseen
  busy_is = seen_busy unseen ds

  good_is : surveyed.good ≡ good_from 0 ds
  unfolding unseen
  good_is = seen_good unseen ds

  same_is : surveyed.same ≡ same_bits ds
  unfolding unseen
  same_is = seen_same unseen ds

  module _ (few : length ds ≤ most_records) where
    past_is : surveyed.past ≡ total is_past ds
    unfolding unseen seen
    past_is = seen_count (λ s. s.past) is_past (λ s h. refl) past_once unseen ds (omega (arith, few)) ∙ zero-add (total is_past ds)

    hearing_is : surveyed.hearing ≡ total is_hearing ds
    unfolding unseen seen
    hearing_is = seen_count (λ s. s.hearing) is_hearing (λ s h. refl) hearing_once unseen ds (omega (arith, few)) ∙ zero-add (total is_hearing ds)

    programming_is : surveyed.programming ≡ total is_programming ds
    unfolding unseen seen
    programming_is = seen_count (λ s. s.programming) is_programming (λ s h. refl) programming_once unseen ds (omega (arith, few)) ∙ zero-add (total is_programming ds)

    started_is : surveyed.started ≡ total is_started ds
    unfolding unseen seen
    started_is = seen_count (λ s. s.started) is_started (λ s h. refl) started_once unseen ds (omega (arith, few)) ∙ zero-add (total is_started ds)

    talks_is : talks_of surveyed (length ds) ≡ one_talks ds
    unfolding talks_of one_talks
    talks_is = rw (past_is, same_is, programming_is, hearing_is, started_is) refl

  pub well_is : well_of surveyed (length ds) ≡ well_formed ds
  unfolding well_of well_formed
  well_is = go (ltb most_records (length ds)) refl
    where
      go : (x : Bool) → ltb most_records (length ds) ≡ x → well_of surveyed (length ds) ≡ well_formed ds
      go true q = rw (q, lt-leb (length ds) most_records (ltb-true most_records (length ds) q)) refl
      go false q =
          let few : length ds ≤ most_records = ltb-false most_records (length ds) q in
          rw (q, le-leb (length ds) most_records few) ((λ j. both (good_is j) (talks_is few j)) ∙ both_mixed (good_loads 0 ds) (good_devices ds) (one_talks ds))

  pub verdict_is : ◌≡◌ {A = Verdict} (record { good = well_of surveyed (length ds); busy = surveyed.busy }) (verdict_of ds)
  verdict_is = λ j. record { good = well_is j; busy = busy_is j }
