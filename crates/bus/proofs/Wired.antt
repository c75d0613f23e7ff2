-- The devices as a run keeps them between two events, and how an event takes them from one such moment to the next.
use Prim.Native.Nat.{ℕ, zero, suc, ◌+◌, ◌-◌, ◌*◌, ◌<◌, ◌≤◌}
use native.Mathlib.Omega.{arith}
use native.Mathlib.Nat.{not-suc-le-zero, le_of_suc-le-suc}
use mathlib.Core.Path.{◌≡◌, refl, sym, ap, subst, ◌∙◌}
use mathlib.Core.Bool.{Bool, true, false}
use mathlib.Core.List.{List, [], ◌∷◌}
use mathlib.Core.Logic.{◌⊎◌, inl, inr}
use borrow.Author.Tests.{ltb-true, ltb-false}
use lib.Dec.{ltb}
use lib.ListN.{length, get_or, set}
use lib.Seq.{take_all}
use Rattle.std.specs.Prelude.{Option, Some, None}
use Rattle.bits.specs.Words.{pick}
use Rattle.chip.specs.declared.Device.{Device}
use Rattle.chip.specs.declared.Head.{Head}
use Rattle.chip.specs.declared.Stage.{Stage}
use Rattle.chip.specs.declared.Stage.TheVariants.{Standby}
use Rattle.chip.specs.declared.Event.{Event}
use Rattle.chip.specs.declared.Event.TheVariants.{Bit, Null, Wait, Reset, Cut}
use Rattle.chip.specs.Cycle.{heard}
use Rattle.chip.specs.Take.{head_of, take_of}
use Rattle.bits.proofs.Choices.{choice}
use Rattle.chip.proofs.KeptLaws.{slave_after}
use Rattle.wire.specs.Wire.{busy, any_busy, barred, table_of, pulled}
use Rattle.image.specs.Layout.{record_size}
use Rattle.image.specs.InPlace.{InPlace}
use Rattle.std.specs.declared.ops.Range.{Range}
use Rattle.bus.specs.Held.{number, blank_head, standing, others_after, ninth_due, called, span, one_of, span_in, level_in, page_in, acted_in, put_in}
use Rattle.chip.specs.Stages.{past}
use Rattle.bus.proofs.Held.{Held, blank}
use Rattle.bus.proofs.Landing.{Apart, Quiet, Passing, a_bit, a_null, a_wait, a_reset, a_cut, reset_rests, Lands, lands, bit_others, apart_after, no}
use Rattle.bus.proofs.Passing.{Passed, still, passed_none, passed_aside, passed_turn, passed_table, standing_other, standing_own}

pub record Wired (n : ℕ) (ds : List Device) (who : List (Option ℕ)) (talker : ℕ) (others : Stage) (any : Bool) (hs : List Head) (pages : List (List ℕ)) (bus : List ℕ) : Type 0 where
  pub held : Held n ds pages bus
  pub heads : (k : ℕ) → k < n → head_of (get_or ds k blank) ≡ standing talker others k (get_or hs k blank_head)
  pub apart : Apart others
  pub beyond : talker < n → past (get_or hs talker blank_head).stage ≡ true
  pub alone : talker < n → busy (get_or hs talker blank_head).stage ≡ false → others ≡ Standby
  pub programs : any ≡ any_busy ds
  -- where each slave address stands
  pub named : (k : ℕ) → k < n → get_or who (get_or ds k blank).slave None ≡ Some k

none_busy : (ds : List Device) (k : ℕ) → k < length ds → any_busy ds ≡ false → busy (get_or ds k blank).stage ≡ false
unfolding any_busy
none_busy [] k h e = absurd (not-suc-le-zero h)
none_busy (d ∷ ds) zero h e = go (busy d.stage) e
  where
    go : (b : Bool) → pick b true (any_busy ds) ≡ false → b ≡ false
    go true e = no e
    go false e = refl
none_busy (d ∷ ds) (suc k) h e = none_busy ds k (le_of_suc-le-suc h) (go (busy d.stage) e)
  where
    go : (b : Bool) → pick b true (any_busy ds) ≡ false → any_busy ds ≡ false
    go true e = no e
    go false e = e

table_at : (ev : Event) (ds : List Device) (k : ℕ) → k < length ds → get_or (table_of ds ev) k blank ≡ (take_of (get_or ds k blank) ev).device
unfolding table_of
table_at ev [] k h = absurd (not-suc-le-zero h)
table_at ev (d ∷ ds) zero h = refl
table_at ev (d ∷ ds) (suc k) h = table_at ev ds k (le_of_suc-le-suc h)

module _ {n : ℕ} {ds : List Device} {who : List (Option ℕ)} {talker : ℕ} {others : Stage} {any : Bool} {hs : List Head} {pages : List (List ℕ)} {bus : List ℕ} (w : Wired n ds who talker others any hs pages bus) where
  abbrev seen_at : ℕ → Head
  seen_at j = standing talker others j (get_or hs j blank_head)

  calm : any ≡ false → (j : ℕ) → j < n → busy (seen_at j).stage ≡ false
  calm e j h = ap (λ (g : Head). busy g.stage) (sym (w.heads j h)) ∙ none_busy ds j (omega (arith, w.held.count)) (sym w.programs ∙ e)

  own_stage : (j : ℕ) → j ≡ talker → seen_at j ≡ get_or hs talker blank_head
  own_stage j e = rw (e) (standing_own talker talker others (get_or hs talker blank_head) refl)

  -- no cycle runs and a device talks: the others stand by
  pub talks_alone : any ≡ false → talker < n → others ≡ Standby
  talks_alone e h = w.alone h (ap (λ (g : Head). busy g.stage) (sym (own_stage talker refl)) ∙ calm e talker h)

  nobody : any ≡ false → ninth_due others ≡ true → talker < n → ⊥
  nobody e d h = no (sym (rw (talks_alone e h) at d))

  abbrev called_at : ℕ
  called_at = number (get_or who (called others) None)

  -- ---- a device outside the span
  outside_one : (t : ℕ) (i : ℕ) → i < n → (i < (one_of t n).start) ⊎ ((one_of t n).end ≤ i) → i ≡ t → ⊥
  outside_one t i h o e = go (ltb t n) refl o
    where
      go : (b : Bool) → ltb t n ≡ b → (i < (pick b (span t (t + 1)) (span 0 0)).start) ⊎ ((pick b (span t (t + 1)) (span 0 0)).end ≤ i) → ⊥
      go true f (inl q) = omega arith
      go true f (inr q) = omega arith
      go false f q = let z = ltb-false t n f in omega arith

  pub record Out (ev : Event) (i : ℕ) : Type 0 where
    pub passing : Passing ev
    pub other : i ≡ talker → ⊥
    pub quiet : Quiet ev others (get_or ds i blank).slave

  abbrev Outside : Range ℕ → ℕ → Type 0
  Outside s i = (i < s.start) ⊎ (s.end ≤ i)

  out_bit : any ≡ false → (b i : ℕ) → i < n → (t : Bool) → ninth_due others ≡ t → Outside (pick t (one_of called_at n) (one_of talker n)) i → Out (Bit b) i
  out_bit e b i h true d o = record {
    passing = a_bit;
    other = λ q. nobody e d (omega arith);
    quiet = λ f c. outside_one called_at i h o (sym (ap number (w.named i h)) ∙ ap (λ (s : ℕ). number (get_or who s None)) (sym c));
  }
  out_bit e b i h false d o = record { passing = a_bit; other = outside_one talker i h o; quiet = λ f c. no (sym f ∙ d) }

  pub out : (ev : Event) → barred ev any ≡ false → (i : ℕ) → i < n → Outside (span_in ev others talker called_at n) i → Out ev i
  out (Bit b) e i h o = out_bit e b i h (ninth_due others) refl o
  out Null e i h o = record { passing = a_null; other = outside_one talker i h o; quiet = tt }
  out Wait e i h o = record { passing = a_wait; other = outside_one talker i h o; quiet = tt }
  out Reset e i h (inl q) = absurd (not-suc-le-zero q)
  out Reset e i h (inr q) = absurd (omega arith)
  out (Cut m) e i h (inl q) = absurd (not-suc-le-zero q)
  out (Cut m) e i h (inr q) = absurd (omega arith)

  -- ---- a device inside it
  abbrev Inside : Range ℕ → ℕ → Type 0
  Inside s j = (s.start ≤ j) × (j < s.end)

  inside_one : (t j : ℕ) → Inside (one_of t n) j → (j ≡ t) × ((one_of t n).end ≡ (one_of t n).start + 1)
  inside_one t j i = go (ltb t n) i
    where
      go : (b : Bool) → Inside (pick b (span t (t + 1)) (span 0 0)) j
          → (j ≡ t) × ((pick b (span t (t + 1)) (span 0 0)).end ≡ (pick b (span t (t + 1)) (span 0 0)).start + 1)
      go true q = (omega (arith, q.0, q.1), refl)
      go false q = absurd (not-suc-le-zero q.1)

  -- it lands, and it is the only one or ends in standby
  pub record In (ev : Event) (s : Range ℕ) (j : ℕ) : Type 0 where
    pub lands : Lands (heard (seen_at j) ev).head.stage (others_after ev others)
    pub single : (s.end ≡ s.start + 1) ⊎ ((heard (seen_at j) ev).head.stage ≡ Standby)

  in_bit : any ≡ false → (b j : ℕ) → j < n → (t : Bool) → ninth_due others ≡ t → Inside (pick t (one_of called_at n) (one_of talker n)) j → In (Bit b) (pick t (one_of called_at n) (one_of talker n)) j
  in_bit e b j h true d i =
      let o = inside_one called_at j i in
      let s : (seen_at j).stage ≡ others = ap (λ (g : Head). g.stage) (standing_other talker j others (get_or hs j blank_head) (λ q. nobody e d (omega arith))) in
      record {
        lands = lands (seen_at j) (Bit b) (seen_at j).stage others refl ((λ q. ap ninth_due s ∙ d), calm e j h) (bit_others others b d);
        single = inl o.1;
      }
  in_bit e b j h false d i =
      let o = inside_one talker j i in
      let s : past (seen_at j).stage ≡ true = ap (λ (g : Head). past g.stage) (own_stage j o.0) ∙ w.beyond (omega (arith, o.0)) in
      record {
        lands = lands (seen_at j) (Bit b) (seen_at j).stage others refl ((λ q. no (sym s ∙ q)), calm e j h) (ap (λ (p : Stage). others_after (Bit b) p) (talks_alone e (omega (arith, o.0))));
        single = inl o.1;
      }

  pub inside : (ev : Event) → barred ev any ≡ false → (j : ℕ) → j < n → Inside (span_in ev others talker called_at n) j → In ev (span_in ev others talker called_at n) j
  inside (Bit b) e j h i = in_bit e b j h (ninth_due others) refl i
  inside Null e j h i = record { lands = lands (seen_at j) Null (seen_at j).stage others refl tt refl; single = inl (inside_one talker j i).1 }
  inside Wait e j h i = record { lands = lands (seen_at j) Wait (seen_at j).stage others refl tt refl; single = inl (inside_one talker j i).1 }
  inside Reset e j h i = record { lands = lands (seen_at j) Reset (seen_at j).stage others refl (calm e j h) refl; single = inr (reset_rests (seen_at j) Reset (seen_at j).stage refl a_reset (calm e j h)) }
  inside (Cut m) e j h i = record { lands = lands (seen_at j) (Cut m) (seen_at j).stage others refl tt refl; single = inr (reset_rests (seen_at j) (Cut m) (seen_at j).stage refl a_cut tt) }

  -- ---- the whole event
  module _ (ev : Event) (w₀ : ℕ) (free : barred ev any ≡ false) where
    abbrev Along : ℕ → List Head → List (List ℕ) → List ℕ → ℕ → ℕ → Bool → Type 0
    Along j hs' pages' bus' low next b = Passed n ev ds talker others w₀ j hs' pages' bus' low next b

    ld : length ds ≡ n
    ld = w.held.count

    -- past devices outside the span, from j to j + m
    pub along : (m : ℕ) {j : ℕ} {hs' : List Head} {pages' : List (List ℕ)} {bus' : List ℕ} {low next : ℕ} {b : Bool} → Along j hs' pages' bus' low next b → j + m ≤ n
        → ((i : ℕ) → j ≤ i → i < j + m → Outside (span_in ev others talker called_at n) i) → Along (j + m) hs' pages' bus' low next b
    along zero {j} {hs'} {pages'} {bus'} {low} {next} {b} p h o = subst (λ (k : ℕ). Along k hs' pages' bus' low next b) (omega arith) p
    along (suc m) {j} {hs'} {pages'} {bus'} {low} {next} {b} p h o =
        let q = out ev free j (omega arith) (o j (omega arith) (omega arith)) in
        let quiet = subst (λ (d : Device). Quiet ev others d.slave) (sym (still p.es ds j p.left)) q.quiet in
        let p' : Along (j + 1) hs' pages' bus' low next b = passed_aside ld (omega arith) p q.other w.apart q.passing quiet in
        subst (λ (k : ℕ). Along k hs' pages' bus' low next b) (omega arith) (along m p' (omega arith) (λ i a c. o i (omega arith) (omega arith)))

    -- and so it ends
    pub arrived : {hs' : List Head} {pages' : List (List ℕ)} {bus' : List ℕ} {low next : ℕ} {b : Bool} → Along n hs' pages' bus' low next b
        → Wired n (table_of ds ev) who next (others_after ev others) b hs' pages' bus'
    arrived {hs'} {pages'} {bus'} {low} {next} {b} p =
        let t = passed_table ld p in
        record {
          held = subst (λ (l : List Device). Held n l pages' bus') t p.held;
          heads = λ k h. subst (λ (l : List Device). head_of (get_or l k blank) ≡ standing next (others_after ev others) k (get_or hs' k blank_head)) t (p.first k h);
          apart = apart_after others ev w.apart;
          beyond = p.beyond;
          alone = p.alone;
          programs = p.programs ∙ ap any_busy (take_all n p.es (omega (arith, p.held.count)) ∙ t);
          named = λ k h. rw (table_at ev ds k (omega (arith, ld)), slave_after (get_or ds k blank) ev) (w.named k h);
        }

    -- ---- up to the span, through it, and on from it
    pub begun : (next : ℕ) → n ≤ next → (span_in ev others talker called_at n).start ≤ n
        → Along (span_in ev others talker called_at n).start hs pages bus w₀ next false
    begun next none' h =
        let lo = (span_in ev others talker called_at n).start in
        subst (λ (k : ℕ). Along k hs pages bus w₀ next false) (omega arith)
        (along lo (passed_none ld hs pages bus next w.held w.heads none') (omega arith) (λ i a c. inl (omega arith)))

    pub ended : {hs' : List Head} {pages' : List (List ℕ)} {bus' : List ℕ} {low next : ℕ} {b : Bool} (j : ℕ) → (span_in ev others talker called_at n).end ≤ j → j ≤ n → Along j hs' pages' bus' low next b
        → Along n hs' pages' bus' low next b
    ended {hs'} {pages'} {bus'} {low} {next} {b} j h m p =
        subst (λ (k : ℕ). Along k hs' pages' bus' low next b) (omega arith) (along (n - j) p (omega arith) (λ i a c. inr (omega arith)))

    -- a turn inside the span, which is one device long or leaves it in standby
    pub turned : (back : InPlace) {hs' : List Head} {pages' : List (List ℕ)} {bus' : List ℕ} {low next : ℕ} {b : Bool} (j : ℕ) → j < n → j < length hs' → Inside (span_in ev others talker called_at n) j
        → (next < n → (span_in ev others talker called_at n).start < j) → Along j hs' pages' bus' low next b
        → Along (j + 1) (set hs' j (heard (standing talker others j (get_or hs' j blank_head)) ev).head) (put_in pages' j (heard (standing talker others j (get_or hs' j blank_head)) ev).act)
        (acted_in bus' (record_size * j) (heard (standing talker others j (get_or hs' j blank_head)) ev).head.flags (page_in pages' j) (heard (standing talker others j (get_or hs' j blank_head)) ev).act)
        (pulled (level_in bus' (record_size * j) (heard (standing talker others j (get_or hs' j blank_head)) ev).drive) low)
        (pick (past (heard (standing talker others j (get_or hs' j blank_head)) ev).head.stage) j next) (pick b true (busy (heard (standing talker others j (get_or hs' j blank_head)) ev).head.stage))
    turned back {hs'} {pages'} {bus'} {low} {next} {b} j h room i early p =
        let s : standing talker others j (get_or hs' j blank_head) ≡ seen_at j =
        sym (p.rest j (omega arith) h) ∙ ap head_of (still p.es ds j p.left) ∙ w.heads j h in
        let q = inside ev free j h i in
        passed_turn ld h p back room (rw s q.lands) (λ e. silent_so_far q.single (rw s at e) (ltb next n) refl)
      where
        silent_so_far : ((span_in ev others talker called_at n).end ≡ (span_in ev others talker called_at n).start + 1) ⊎ ((heard (seen_at j) ev).head.stage ≡ Standby)
            → past (heard (seen_at j) ev).head.stage ≡ true → (t : Bool) → ltb next n ≡ t → n ≤ next
        silent_so_far o e false f = ltb-false next n f
        silent_so_far (inl o) e true f = let q = early (ltb-true next n f) in absurd (omega (arith, i.0, i.1))
        silent_so_far (inr o) e true f = no (sym e ∙ ap past o)

abbrev fits : ℕ → Range ℕ → Type 0
fits n s = (s.start ≤ s.end) × (s.end ≤ n)

one_fits : (t n : ℕ) → fits n (one_of t n)
one_fits t n = go (ltb t n) refl
  where
    go : (b : Bool) → ltb t n ≡ b → fits n (pick b (span t (t + 1)) (span 0 0))
    go true e = let h = ltb-true t n e in (omega arith, omega arith)
    go false e = (omega arith, omega arith)

pub span_fits : (ev : Event) (o : Stage) (t k n : ℕ) → fits n (span_in ev o t k n)
span_fits (Bit b) o t k n = choice (fits n) (ninth_due o) (one_fits k n) (one_fits t n)
span_fits Null o t k n = one_fits t n
span_fits Wait o t k n = one_fits t n
span_fits Reset o t k n = (omega arith, omega arith)
span_fits (Cut m) o t k n = (omega arith, omega arith)
