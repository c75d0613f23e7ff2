-- A run: what is left to do from a place of the event file ends as the whole does from its start.
use Rattle.faults.proofs.FaultLaws.{done_clean}
use Rattle.faults.specs.Faults.{number_in}
use Prim.Native.Nat.{ℕ, ◌+◌, ◌*◌, ◌<◌, ◌≤◌}
use native.Mathlib.Omega.{arith}
use native.Mathlib.Nat.{not-suc-le-zero}
use native.Mathlib.Numerals.{add-one}
use mathlib.Core.Path.{sym, ◌≡◌, refl, ap, subst, ◌∙◌}
use mathlib.Core.Bool.{◌||◌, Bool, true, false}
use mathlib.Core.List.{List, [], ◌∷◌}
use lib.ListN.{length, get_or, set, length-set, drop, length-drop, drop_of_length-le}
use lib.Seq.{sets, drop-drop, take_all}
use Rattle.std.specs.Prelude.{Option, None}
use Rattle.bits.specs.Words.{pick}
use Rattle.chip.specs.declared.Device.{Device}
use Rattle.chip.specs.declared.Head.{Head}
use Rattle.chip.specs.declared.Stage.{Stage}
use Rattle.chip.specs.declared.Stage.TheVariants.{Standby}
use Rattle.chip.specs.declared.Event.{Event}
use Rattle.wire.specs.Wire.{any_busy, barred, next_of, masters_level, wire_of, replied, answer_from, answer_of, counted_from, last_of, answers_of, refused_of}
use Rattle.tape.specs.declared.Read.{Read}
use Rattle.tape.specs.Tape.{kind_of, size_of, event_of, read_of, events_from, events_of}
use Rattle.tape.specs.Promises.{NoFault}
use Rattle.tape.proofs.TapeLaws.{size_some, events_are, begins, scanned}
use Rattle.tape.specs.Tape.{tape_fault, scan_of}
use Rattle.faults.proofs.Chunks.{flat_length}
use Rattle.image.specs.Image.{record_of}
use Rattle.image.specs.Image.{devices_of}
use Rattle.chip.specs.Cycle.{heard}
use Rattle.wire.specs.Wire.{busy, pulled}
use Rattle.image.specs.Layout.{record_size}
use Rattle.image.specs.InPlace.{InPlace}
use Rattle.image.proofs.InPlaced.{in_place}
use Rattle.std.specs.declared.ops.Range.{Range}
use Rattle.bus.specs.Held.{number, progress, Room, blank_head, standing, others_after, called, span_in, span_of, level_in, page_in, acted_in, put_in, Played, unplayed, played}
use Rattle.chip.specs.Stages.{past}
use Rattle.bus.proofs.Held.{record_pieces}
use Rattle.bus.proofs.Wired.{Wired, arrived, begun, ended, turned, span_fits}
use Rattle.bus.proofs.Passing.{Passed}

-- ---- one event more: one that is not carried out changes nothing, one that is goes through the devices
abbrev pub After : (n : ℕ) (ds : List Device) (talker : ℕ) (others : Stage) (ev : Event) (hs : List Head) (pages : List (List ℕ)) (bus : List ℕ) (hs' : List Head) (pages' : List (List ℕ)) (bus' : List ℕ) (low next : ℕ) (b : Bool) → Bool → Type 0
After n ds talker others ev hs pages bus hs' pages' bus' low next b true = (hs' ≡ hs) × (pages' ≡ pages) × (bus' ≡ bus)
After n ds talker others ev hs pages bus hs' pages' bus' low next b false = Passed n ev ds talker others (masters_level ev) n hs' pages' bus' low next b

module _ {n : ℕ} {ds : List Device} {who : List (Option ℕ)} {talker : ℕ} {others : Stage} {any : Bool} {hs : List Head} {pages : List (List ℕ)} {bus : List ℕ} (w : Wired n ds who talker others any hs pages bus) (ev : Event)
    (hs' : List Head) (pages' : List (List ℕ)) (bus' : List ℕ) (low next : ℕ) (b : Bool) where
  next_wired : (t : Bool) → barred ev any ≡ t → After n ds talker others ev hs pages bus hs' pages' bus' low next b t
      → Wired n (next_of ds ev) who (pick t talker next) (pick t others (others_after ev others)) (pick t any b) hs' pages' bus'
  unfolding next_of
  next_wired true e p = rw (← w.programs, e, p.0, p.1, p.2) w
  next_wired false e p = rw (← w.programs, e) (arrived w ev (masters_level ev) e p)

  next_answer : (t : Bool) → barred ev any ≡ t → After n ds talker others ev hs pages bus hs' pages' bus' low next b t → answer_from t ev low ≡ answer_of ds ev
  unfolding answer_of
  next_answer true e p = rw (← w.programs, e) refl
  next_answer false e p =
      rw (← w.programs, e) (ap (λ (l : ℕ). replied ev l) (p.level ∙ ap (λ (l : List Device). wire_of l ev (masters_level ev)) (take_all n ds (omega (arith, w.held.count)))))

  next_refused : (t : Bool) → barred ev any ≡ t → ◌≡◌ {A = ℕ} (pick t 1 0) (pick (barred ev (any_busy ds)) 1 0)
  next_refused t e = rw (← w.programs, e) refl

pub record Ran (n : ℕ) (bus₀ tape : List ℕ) (who : List (Option ℕ)) (answers₀ answers : List ℕ) (hs : List Head) (pages : List (List ℕ)) (bus : List ℕ) (others : Stage) (talker : ℕ) (any : Bool) (refused at i : ℕ) : Type 0 where
  pub ds : List Device
  pub wired : Wired n ds who talker others any hs pages bus
  pub sound : NoFault at (drop at tape)
  pub last : last_of ds (events_of (drop at tape)) ≡ last_of (devices_of bus₀) (events_of tape)
  pub answered : sets answers i (answers_of ds (events_of (drop at tape))) ≡ sets answers₀ 0 (answers_of (devices_of bus₀) (events_of tape))
  pub refuses : refused + refused_of ds (events_of (drop at tape)) ≡ refused_of (devices_of bus₀) (events_of tape)
  pub left : i + length (events_of (drop at tape)) ≡ length (events_of tape)

module _ (tape : List ℕ) (at : ℕ) (h : at < length tape) where
  some_left : 0 < length (drop at tape)
  some_left = simp length-drop (omega arith)

  beyond : drop (size_of (kind_of (drop at tape))) (drop at tape) ≡ drop (at + size_of (kind_of (drop at tape))) tape
  beyond = drop-drop (size_of (kind_of (drop at tape))) at tape

  events_next : events_of (drop at tape) ≡ event_of (drop at tape) ∷ events_of (drop (at + size_of (kind_of (drop at tape))) tape)
  events_next = events_are (drop at tape) some_left ∙ ap (λ (l : List ℕ). event_of (drop at tape) ∷ events_of l) beyond

module _ {n : ℕ} {bus₀ tape : List ℕ} {who : List (Option ℕ)} {answers₀ answers : List ℕ} {hs : List Head} {pages : List (List ℕ)} {bus : List ℕ} {others : Stage} {talker : ℕ} {any : Bool} {refused at i : ℕ}
    (r : Ran n bus₀ tape who answers₀ answers hs pages bus others talker any refused at i) where
  -- the event's bytes are there, three of them or more
  pub ran_whole : at < length tape → (e : Read) → e ≡ read_of (drop at tape) → (at + 3 ≤ at + e.size) × (at + e.size ≤ length tape)
  ran_whole h e q =
      let b = (begins at (drop at tape) (some_left tape at h) r.sound).whole in
      let l = length-drop at tape in
      let s = size_some (kind_of (drop at tape)) in
      rw q (omega arith, omega arith)

  -- and there is room for its answer
  pub ran_room : at < length tape → i < length (events_of tape)
  ran_room h = let q = (begins at (drop at tape) (some_left tape at h) r.sound).one in omega (arith, r.left)

  -- what is left then has no fault, and room for its answers
  pub ran_ahead : at < length tape → (e : Read) → e ≡ read_of (drop at tape) → (room : ℕ) → length (events_of tape) ≤ room → Room tape (progress (at + e.size) (i + 1)) room
  ran_ahead h e q room few =
      let b = begins at (drop at tape) (some_left tape at h) r.sound in
      let k = rw (events_next tape at h) at r.left in
      rw q (record { sound = subst (λ (l : List ℕ). NoFault (at + size_of (kind_of (drop at tape))) l) (beyond tape at h) b.rest; left = omega arith })

  pub ran_more : (h : at < length tape) (t : Bool) → barred (event_of (drop at tape)) any ≡ t → (hs' : List Head) (pages' : List (List ℕ)) (bus' : List ℕ) (low next : ℕ) (b : Bool)
      → After n r.ds talker others (event_of (drop at tape)) hs pages bus hs' pages' bus' low next b t
      → Ran n bus₀ tape who answers₀ (set answers i (answer_from t (event_of (drop at tape)) low)) hs' pages' bus' (pick t others (others_after (event_of (drop at tape)) others)) (pick t talker next)
      (pick t any b) (refused + pick t 1 0) (at + size_of (kind_of (drop at tape))) (i + 1)
  unfolding last_of answers_of refused_of
  ran_more h t e hs' pages' bus' low next b p =
      let ev = event_of (drop at tape) in
      let q = begins at (drop at tape) (some_left tape at h) r.sound in
      let more = events_next tape at h in
      let refuses = rw more at r.refuses in
      record {
        ds = next_of r.ds ev;
        wired = next_wired r.wired ev hs' pages' bus' low next b t e p;
        sound = subst (λ (l : List ℕ). NoFault (at + size_of (kind_of (drop at tape))) l) (beyond tape at h) q.rest;
        last = rw more at r.last;
        answered = rw (next_answer r.wired ev hs' pages' bus' low next b t e p, add-one) (rw more at r.answered);
        refuses = rw (next_refused r.wired ev hs' pages' bus' low next b t e) (omega arith);
        left = let k = rw more at r.left in omega arith;
      }

  -- nothing is left
  none_left : length tape ≤ at → events_of (drop at tape) ≡ []
  unfolding events_from
  none_left h = rw (drop_of_length-le tape {i = at} h) refl

  pub ran_last : length tape ≤ at → r.ds ≡ last_of (devices_of bus₀) (events_of tape)
  unfolding last_of
  ran_last h = rw (none_left h) at r.last

  pub ran_answers : length tape ≤ at → answers ≡ sets answers₀ 0 (answers_of (devices_of bus₀) (events_of tape))
  unfolding answers_of
  ran_answers h = rw (none_left h) at r.answered

  pub ran_refused : length tape ≤ at → refused ≡ refused_of (devices_of bus₀) (events_of tape)
  unfolding refused_of
  ran_refused h = let k = rw (none_left h) at r.refuses in omega arith

-- ---- the loop over the devices: from whatever devices it started, those before j have had the event
pub record Inner (n : ℕ) (who : List (Option ℕ)) (talker : ℕ) (others : Stage) (any : Bool) (hs₀ : List Head) (pages₀ : List (List ℕ)) (bus₀ : List ℕ) (ev : Event) (t : Bool) (s : Range ℕ) (hs : List Head) (pages : List (List ℕ)) (bus : List ℕ)
    (j low next : ℕ) (b : Bool) : Type 0 where
  pub along : (ds : List Device) → Wired n ds who talker others any hs₀ pages₀ bus₀ → t ≡ false → Passed n ev ds talker others (masters_level ev) j hs pages bus low next b
  pub early : next < n → s.start < j
  pub same : t ≡ true → (hs ≡ hs₀) × (pages ≡ pages₀) × (bus ≡ bus₀)

-- whether the event is carried out, and on which devices it is played
pub record Turns (n : ℕ) (who : List (Option ℕ)) (talker : ℕ) (others : Stage) (any : Bool) (ev : Event) (t : Bool) (s : Range ℕ) : Type 0 where
  pub bars : barred ev any ≡ t
  pub played : s ≡ span_of ev t others talker (number (get_or who (called others) None)) n

pub turns_by : (n : ℕ) (who : List (Option ℕ)) (talker : ℕ) (others : Stage) (any : Bool) (ev : Event) (t : Bool) (k : ℕ) {s : Range ℕ} → t ≡ barred ev any → k ≡ called others
    → s ≡ span_of ev t others talker (number (get_or who k None)) n → Turns n who talker others any ev t s
turns_by n who talker others any ev t k b c e = record { bars = sym b; played = e ∙ ap (λ (i : ℕ). span_of ev t others talker (number (get_or who i None)) n) c }

module _ {n : ℕ} {who : List (Option ℕ)} {talker : ℕ} {others : Stage} {any : Bool} {ev : Event} (t : Bool) (s : Range ℕ) (q : Turns n who talker others any ev t s) where
  -- where the span ends
  pub span_most : (s.start ≤ s.end) × (s.end ≤ n)
  unfolding span_of
  span_most = rw q.played (go t)
    where
      go : (u : Bool) → ((span_of ev u others talker (number (get_or who (called others) None)) n).start ≤ (span_of ev u others talker (number (get_or who (called others) None)) n).end) × ((span_of ev u others talker (number (get_or who (called others) None)) n).end ≤ n)
      go true = (omega arith, omega arith)
      go false = span_fits ev others talker (number (get_or who (called others) None)) n

  at_span : t ≡ false → s ≡ span_in ev others talker (number (get_or who (called others) None)) n
  unfolding span_of
  at_span e = q.played ∙ rw e refl

  pub inner_none : {hs₀ : List Head} {pages₀ : List (List ℕ)} {bus₀ : List ℕ} (next : ℕ) → n ≤ next → Inner n who talker others any hs₀ pages₀ bus₀ ev t s hs₀ pages₀ bus₀ s.start (masters_level ev) next false
  inner_none next none' =
      let f = span_fits ev others talker (number (get_or who (called others) None)) n in
      record {
        along = λ ds w e. rw (at_span e) (begun w ev (masters_level ev) (q.bars ∙ e) next none' (omega (arith, f.0, f.1)));
        early = λ h. absurd (omega arith);
        same = λ e. (refl, refl, refl);
      }

  module _ {hs₀ : List Head} {pages₀ : List (List ℕ)} {bus₀ : List ℕ} {hs : List Head} {pages : List (List ℕ)} {bus : List ℕ} {j low next : ℕ} {b : Bool} (p : Inner n who talker others any hs₀ pages₀ bus₀ ev t s hs pages bus j low next b) where
    -- nothing is played where the event is not carried out
    none_played : t ≡ true → j < s.end → ⊥
    unfolding span_of
    none_played e h = not-suc-le-zero (rw (q.played, e) at h)

    pub inner_more : InPlace → s.start ≤ j → j < s.end → j < n → j < length hs
        → Inner n who talker others any hs₀ pages₀ bus₀ ev t s (set hs j (heard (standing talker others j (get_or hs j blank_head)) ev).head) (put_in pages j (heard (standing talker others j (get_or hs j blank_head)) ev).act)
        (acted_in bus (record_size * j) (heard (standing talker others j (get_or hs j blank_head)) ev).head.flags (page_in pages j) (heard (standing talker others j (get_or hs j blank_head)) ev).act) (j + 1)
        (pulled (level_in bus (record_size * j) (heard (standing talker others j (get_or hs j blank_head)) ev).drive) low) (pick (past (heard (standing talker others j (get_or hs j blank_head)) ev).head.stage) j next) (pick b true (busy (heard (standing talker others j (get_or hs j blank_head)) ev).head.stage))
    inner_more back lo hi small room = record {
      along = λ ds w e. turned w ev (masters_level ev) (q.bars ∙ e) back j small room (rw (at_span e) at lo, rw (at_span e) at hi) (rw (at_span e) at p.early) (p.along ds w e);
      early = λ h. omega arith;
      same = λ e. absurd (none_played e hi);
    }

    pub inner_done : s.end ≤ j → j ≤ n → (ds : List Device) → Wired n ds who talker others any hs₀ pages₀ bus₀ → After n ds talker others ev hs₀ pages₀ bus₀ hs pages bus low next b t
    inner_done h m ds w = by t refl
      where
        by : (u : Bool) → t ≡ u → After n ds talker others ev hs₀ pages₀ bus₀ hs pages bus low next b u
        by true e = p.same e
        by false e = ended w ev (masters_level ev) (q.bars ∙ e) j (rw (at_span e) at h) m (p.along ds w e)

or_either : (a b : Bool) → (a || b) ≡ pick a true b
or_either true b = refl
or_either false b = refl

-- a pass over the devices that an event is played on
module _ {n : ℕ} {who : List (Option ℕ)} {talker : ℕ} {others : Stage} {any : Bool} {ev : Event} (t : Bool) (s : Range ℕ) (q : Turns n who talker others any ev t s) (few : n ≤ 8)
    {hs₀ : List Head} {pages₀ : List (List ℕ)} {bus₀ : List ℕ} (long : length hs₀ ≡ 8) where
  pub inner_played : {j : ℕ} {hs : List Head} {pages : List (List ℕ)} {bus : List ℕ} {low next : ℕ} {b : Bool} → Played ev talker others s.start hs₀ pages₀ bus₀ j hs pages bus low next b → j ≤ s.end
      → Inner n who talker others any hs₀ pages₀ bus₀ ev t s hs pages bus j low next b × (s.start ≤ j) × (length hs ≡ 8)
  inner_played unplayed h = (inner_none t s q (number None) (omega arith), omega arith, long)
  inner_played (played {j = j} {hs = hs} {b = b} {f = f} p e) h =
      let i = inner_played p (omega arith) in
      let m = span_most t s q in
      (rw (or_either b (busy f.head.stage), e) (inner_more t s q i.0 in_place i.1 (omega arith) (omega (arith, m.1)) (omega (arith, m.1, i.2))), omega (arith, i.1), length-set hs j f.head ∙ i.2)

-- a whole turn of a run, by what its calls answer: the event read, whether it is carried out and whom it concerns, the pass over these devices, and what is kept
pub ran_turn : {n : ℕ} {bus₀ tape : List ℕ} {who : List (Option ℕ)} {answers₀ answers : List ℕ} {hs : List Head} {pages : List (List ℕ)} {bus : List ℕ} {others : Stage} {talker : ℕ} {any : Bool} {refused at i : ℕ}
    → (r : Ran n bus₀ tape who answers₀ answers hs pages bus others talker any refused at i) → at < length tape → n ≤ 8 → length hs ≡ 8
    → (e : Read) → e ≡ read_of (drop at tape) → (t : Bool) (s : Range ℕ) → Turns n who talker others any e.event t s
    → {hs' : List Head} {pages' : List (List ℕ)} {bus' : List ℕ} {low next : ℕ} {b : Bool} → Played e.event talker others s.start hs pages bus s.end hs' pages' bus' low next b
    → (o : Stage) → o ≡ pick t others (others_after e.event others) → (k : ℕ) → k ≡ pick t talker next → (a : Bool) → a ≡ pick t any b
    → (x : ℕ) → x ≡ answer_from t e.event low → (m : ℕ) → m ≡ counted_from t
    → Ran n bus₀ tape who answers₀ (set answers i x) hs' pages' bus' o k a (refused + m) (at + e.size) (i + 1)
ran_turn r h few long e ee t s q {hs' = hs'} {pages' = pages'} {bus' = bus'} {low = low} {next = next} {b = b} p o eo k ek a ea x ex m em =
    let d = inner_played t s q few long p (omega arith) in
    let u = inner_done t s q d.0 (omega arith) (span_most t s q).1 r.ds r.wired in
    let y = ran_more r h t (rw ee at q.bars) hs' pages' bus' low next b (rw ee at u) in
    simp (em, ex, ea, ek, eo, ee) y

-- ---- the first moment
pub ran_none : (n : ℕ) (bus tape : List ℕ) (who : List (Option ℕ)) (answers : List ℕ) (hs : List Head) (pages : List (List ℕ)) → Wired n (devices_of bus) who (number None) Standby false hs pages bus → number_in (tape_fault tape) ≡ 0
    → Ran n bus tape who answers answers hs pages bus Standby (number None) false 0 0 0
unfolding scan_of
ran_none n bus tape who answers hs pages w e = record {
  ds = devices_of bus;
  wired = w;
  sound = (scanned tape (rw (done_clean (tape_fault tape) e) refl)).sound;
  last = refl;
  answered = refl;
  refuses = omega arith;
  left = omega arith;
}

pub at_most_one : (t : Bool) → pick t 1 0 ≤ 1
at_most_one true = omega arith
at_most_one false = omega arith

-- the file keeps its length
pub wired_long : {n : ℕ} {ds : List Device} {who : List (Option ℕ)} {talker : ℕ} {others : Stage} {any : Bool} {hs : List Head} {pages : List (List ℕ)} {bus : List ℕ}
    → Wired n ds who talker others any hs pages bus → length bus ≡ record_size * n
wired_long {n} {ds} w =
    ap length w.held.bytes ∙ flat_length record_of record_size ds (record_pieces ds w.held.fit) ∙ ap (λ (k : ℕ). record_size * k) w.held.count
