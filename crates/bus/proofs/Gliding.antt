-- Frames played together: a run goes over them as it does over one event after the other.
use Rattle.std.specs.Prelude.{Option, Some, None}
use Prim.Native.Nat.{ℕ, suc, ◌+◌, ◌-◌, ◌*◌, ◌/◌, ◌%◌, ◌^◌, ◌<◌, ◌≤◌}
use native.Mathlib.Omega.{arith}
use native.Mathlib.Nat.{zero-div}
use mathlib.Core.Path.{◌≡◌, refl, sym, ap, ◌∙◌}
use mathlib.Core.Bool.{Bool, true, false}
use mathlib.Core.List.{List, [], ◌∷◌}
use borrow.Author.Tests.{eqb-true, eqb-false, ne_eqb, lt-ltb, le-ltb, ltb-true, ltb-false}
use lib.Dec.{eqb, ltb}
use lib.ListN.{length, get_or, set, length-set}
use lib.Seq.{get_or-set_same, set-set, set-get_or}
use Rattle.std.specs.Prelude.{Option, None}
use Rattle.bits.proofs.Table.{each}
use Rattle.bits.specs.Bytes.{bit_at, more_of, is_rom}
use Rattle.chip.specs.declared.Device.{Device}
use Rattle.chip.specs.declared.Head.{Head}
use Rattle.chip.specs.declared.Framed.{Framed}
use Rattle.chip.specs.declared.Source.{Source}
use Rattle.chip.specs.declared.Source.TheVariants.{Cells, Id, Register}
use Rattle.chip.specs.declared.Stage.{Stage}
use Rattle.chip.specs.declared.Stage.TheVariants.{Standby, Address, Place, Data, Sending, Programming}
use Rattle.chip.specs.declared.Drive.{Drive}
use Rattle.chip.specs.declared.Drive.TheVariants.{Free, Low}
use Rattle.chip.specs.declared.Act.TheVariants.{Nothing}
use Rattle.chip.specs.declared.Event.TheVariants.{Bit}
use Rattle.chip.specs.Head.{at}
use Rattle.chip.specs.Stages.{register_drive, shows, framed, past}
use Rattle.chip.specs.Cycle.{heard}
use Rattle.bits.proofs.Choices.{choice}
use Rattle.wire.specs.Wire.{busy, any_busy, pulled}
use Rattle.tape.specs.Tape.{events_of}
use Rattle.image.specs.Layout.{record_size}
use Rattle.chip.specs.declared.Byte.{Byte}
use Rattle.bus.specs.declared.Progress.{Progress}
use Rattle.bus.specs.Held.{Room, unplayed, played, number, blank_head, standing, bit_after, ninth_due, called, span, span_of, byte, longer, progress, byte_of, resumed, pointed, glided, shown_in, driven, level_in, acted_in, put_to, Frames, none, more, Glides, own, apart}
use Rattle.bus.proofs.Held.{blank}
use Rattle.bus.proofs.Landing.{Apart, rests, reads, apart_free, no}
use Rattle.bus.proofs.Passing.{standing_own, standing_other}
use Rattle.bus.proofs.Wired.{Wired, talks_alone}
use Rattle.bus.proofs.Running.{Ran, ran_more, Turns, inner_none, inner_played, inner_done}
use Rattle.bus.proofs.Frames.{bit_size, bit_event, frames_count}

-- ---- one frame of a byte
-- what frame n drives
abbrev drives : Head → Stage → ℕ → Drive
drives h Standby n = Free
drives h (Address m y) n = Free
drives h (Place c m y) n = Free
drives h (Data c t m y) n = Free
drives h (Sending s m) n = shows h s n
drives h (Programming c t) n = Free

-- the head that h in stage s becomes
abbrev on : Head → Stage → Byte → Head
on h s b = at (pointed h s b.count) (resumed s b)

module _ (h : Head) (n x b : ℕ) (small : n < 8) where
  abbrev Frame : Stage → Type 0
  Frame s = framed (on h s (byte n x)) (resumed s (byte n x)) b ≡ record { head = on h s (byte (n + 1) (more_of x b)); drive = drives h s n; act = Nothing }

  frame_sent : (q : Source) (m : ℕ) → m < 8 → (t : Bool) → ltb n 7 ≡ t → Frame (Sending q m)
  frame_sent q m l true e =
      let k = ltb-true n 7 e in
      rw (lt-ltb m 8 l, ne_eqb n 8 (λ z. omega arith), ne_eqb (n + 1) 8 (λ z. omega arith), e) (elim q [ Cells r ↦ refl | Id k ↦ refl | Register ↦ refl ])
  frame_sent q m l false e =
      let k = ltb-false n 7 e in
      let z : n ≡ 7 = omega arith in
      rw (lt-ltb m 8 l, z) (elim q [ Cells r ↦ refl | Id k ↦ refl | Register ↦ refl ])

  frame_own : (s : Stage) → past s ≡ true → busy s ≡ false → (byte_of s).count < 8 → Frame s
  frame_own Standby p q l = no (sym p)
  frame_own (Address m y) p q l = no (sym p)
  frame_own (Place c m y) p q l = rw (lt-ltb n 8 small) refl
  frame_own (Data c t m y) p q l = rw (lt-ltb n 8 small) refl
  frame_own (Sending k m) p q l = frame_sent k m l (ltb n 7) refl
  frame_own (Programming c t) p q l = no q

-- all ones leave the wire free
free_bit : (n : ℕ) → bit_at 255 n ≡ 1
free_bit n = each (λ (m : ℕ). 255 / 2 ^ m % 2 ≡ 1) 8 ((((((((tt, refl), refl), refl), refl), refl), refl), refl), refl) (7 - n % 8) (omega arith)

low_bit : (n : ℕ) → bit_at 0 n ≡ 0
low_bit n = rw (zero-div (2 ^ (7 - n % 8))) refl

-- a frame shows its bit of the byte that is put out
module _ (bus : List ℕ) (from : ℕ) (h : Head) (n : ℕ) where
  abbrev Shows : Drive → Drive → Type 0
  Shows v w = level_in bus from v ≡ bit_at (shown_in bus from w) n

  shows_free : Shows Free Free
  unfolding shown_in
  shows_free = sym (free_bit n)

  shows_low : Shows Low Low
  unfolding shown_in
  shows_low = sym (low_bit n)

  shows_register : (z : Option ℕ) → Shows (register_drive h.flags z) (register_drive h.flags z)
  shows_register None = shows_free
  shows_register (Some z) = choice (λ (v : Drive). Shows v v) (is_rom h.flags z) shows_free shows_low

  shows_bit : (s : Stage) → Shows (drives h s n) (driven h s)
  unfolding shown_in
  shows_bit Standby = shows_free
  shows_bit (Address m y) = shows_free
  shows_bit (Place c m y) = shows_free
  shows_bit (Data c t m y) = shows_free
  shows_bit (Sending (Cells r) m) = refl
  shows_bit (Sending (Id k) m) = refl
  shows_bit (Sending Register m) = shows_register h.selector
  shows_bit (Programming c t) = shows_free

framed_heard : (h : Head) (b : ℕ) {f : Framed} → f ≡ framed h h.stage b → f ≡ heard h (Bit b)
unfolding heard
framed_heard h b e = e

-- ---- no frame yet
stays : (h : Head) (s : Stage) → h.stage ≡ s → at h s ≡ h
stays h s e = ap (λ (t : Stage). at h t) (sym e)

on_none : (h : Head) (s : Stage) → h.stage ≡ s → on h s (byte_of s) ≡ h
on_none h Standby e = stays h Standby e
on_none h (Address n x) e = stays h (Address n x) e
on_none h (Place c n x) e = stays h (Place c n x) e
on_none h (Data c t n x) e = stays h (Data c t n x) e
on_none h (Sending q n) e = by (ltb n 8) refl
  where
    by : (t : Bool) → ltb n 8 ≡ t → on h (Sending q n) (byte_of (Sending q n)) ≡ h
    by true f = let l = ltb-true n 8 f in rw (f, ne_eqb n 8 (λ z. omega arith)) (stays h (Sending q n) e)
    by false f = rw f (stays h (Sending q n) e)
on_none h (Programming c t) e = stays h (Programming c t) e

resumed_none : (s : Stage) → resumed s (byte_of s) ≡ s
resumed_none Standby = refl
resumed_none (Address n x) = refl
resumed_none (Place c n x) = refl
resumed_none (Data c t n x) = refl
resumed_none (Sending q n) = refl
resumed_none (Programming c t) = refl

-- ---- the stage with another byte is of the same kind
busy_resumed : (s : Stage) (b : Byte) → busy (resumed s b) ≡ busy s
busy_resumed Standby b = refl
busy_resumed (Address n x) b = refl
busy_resumed (Place c n x) b = refl
busy_resumed (Data c t n x) b = refl
busy_resumed (Sending q n) b = refl
busy_resumed (Programming c t) b = refl

past_resumed : (s : Stage) (b : Byte) → past (resumed s b) ≡ past s
past_resumed Standby b = refl
past_resumed (Address n x) b = refl
past_resumed (Place c n x) b = refl
past_resumed (Data c t n x) b = refl
past_resumed (Sending q n) b = refl
past_resumed (Programming c t) b = refl

-- a byte with a bit to come is of no cycle
free_byte : (s : Stage) → (byte_of s).count < 8 → busy s ≡ false
free_byte Standby h = refl
free_byte (Address n x) h = refl
free_byte (Place c n x) h = refl
free_byte (Data c t n x) h = refl
free_byte (Sending q n) h = refl
free_byte (Programming c t) h = absurd (omega arith)

apart_resumed : (s : Stage) (n x b : ℕ) → n < 8 → Apart s → (ninth_due (resumed s (byte n x)) ≡ false) × (bit_after (resumed s (byte n x)) b ≡ resumed s (byte (n + 1) (more_of x b)))
apart_resumed Standby n x b h rests = (refl, refl)
apart_resumed (Address m y) n x b h reads = rw (lt-ltb n 8 h) (refl, refl)
apart_resumed (Place _ _ _) n x b h q = elim q [ ]
apart_resumed (Data _ _ _ _) n x b h q = elim q [ ]
apart_resumed (Sending _ _) n x b h q = elim q [ ]
apart_resumed (Programming _ _) n x b h q = elim q [ ]

-- ---- no device programs
none_programs : (ds : List Device) → ((k : ℕ) → k < length ds → busy (get_or ds k blank).stage ≡ false) → any_busy ds ≡ false
unfolding any_busy
none_programs [] f = refl
none_programs (d ∷ ds) f = rw (f 0 (omega arith)) (none_programs ds (λ k h. f (suc k) (omega arith)))

wired_calm : {n : ℕ} {ds : List Device} {who : List (Option ℕ)} {talker : ℕ} {others : Stage} {any : Bool} {hs : List Head} {pages : List (List ℕ)} {bus : List ℕ} → Wired n ds who talker others any hs pages bus
    → (talker < n → busy (get_or hs talker blank_head).stage ≡ false) → any ≡ false
wired_calm {n} {ds} {who} {talker} {others} {any} {hs} w f = w.programs ∙ none_programs ds (λ k h. let z : k < n = omega (arith, w.held.count) in ap (λ (g : Head). busy g.stage) (w.heads k z) ∙ by k z (eqb k talker) refl)
  where
    by : (k : ℕ) → k < n → (t : Bool) → eqb k talker ≡ t → busy (standing talker others k (get_or hs k blank_head)).stage ≡ false
    by k h true e = let z = eqb-true k talker e in rw (standing_own talker k others (get_or hs k blank_head) z) (rw (← z) at (f (omega arith)))
    by k h false e = rw (standing_other talker k others (get_or hs k blank_head) (eqb-false k talker e)) (apart_free others w.apart)

-- ---- one frame more
module _ {n : ℕ} {bus₀ tape : List ℕ} {who : List (Option ℕ)} {answers₀ answers : List ℕ} {hs : List Head} {pages : List (List ℕ)} {bus : List ℕ} {others : Stage} {talker : ℕ} {any : Bool} {refused at' i : ℕ}
    (r : Ran n bus₀ tape who answers₀ answers hs pages bus others talker any refused at' i) (whole : at' + 3 ≤ length tape) (bit : get_or tape (at' + 2) 0 < 2) (free : any ≡ false) where
  abbrev b : ℕ
  b = get_or tape (at' + 2) 0

  same_bit : b % 2 ≡ b
  same_bit = omega arith

  -- nobody talks
  ran_apart : n ≤ talker → ninth_due others ≡ false → Ran n bus₀ tape who answers₀ (set answers i b) hs pages bus (bit_after others b) talker any refused (at' + 3) (i + 1)
  unfolding span_of
  ran_apart none' due =
      let q : Turns n who talker others any (Bit b) false (span 0 0) = record { bars = free; played = sym alone } in
      let a = inner_done false (span 0 0) q (inner_none false (span 0 0) q talker none') (omega arith) (omega arith) r.ds r.wired in
      let e = bit_event tape at' bit in
      let m = ran_more r (omega arith) false (rw e free) hs pages bus (b % 2) talker false (rw e a) in
      let z : refused + 0 ≡ refused = omega arith in
      rw free (rw (e, bit_size tape at' bit, same_bit, z) at m)
    where
      alone : span_of (Bit b) false others talker (number (get_or who (called others) None)) n ≡ span 0 0
      alone = rw (due, le-ltb talker n none') refl

  -- the device that talks hears it
  ran_own : n ≤ 8 → length hs ≡ 8 → talker < n → (f : Framed) → f ≡ heard (get_or hs talker blank_head) (Bit b) → f.act ≡ Nothing → past f.head.stage ≡ true → busy f.head.stage ≡ false
      → Ran n bus₀ tape who answers₀ (set answers i (pulled (level_in bus (record_size * talker) f.drive) b)) (set hs talker f.head) pages bus others talker any refused (at' + 3) (i + 1)
  unfolding span_of acted_in put_to
  ran_own few long small f ef idle on' calm =
      let one = span talker (talker + 1) in
      let o : others ≡ Standby = talks_alone r.wired free small in
      let q : Turns n who talker others any (Bit b) false one = record { bars = free; played = sym (alone o) } in
      let e = ef ∙ ap (λ (h : Head). heard h (Bit b)) (sym (standing_own talker talker others (get_or hs talker blank_head) refl)) in
      let p = rw (idle, set-get_or pages talker [], on', calm) at (inner_played false one q few {hs₀ = hs} {pages₀ = pages} {bus₀ = bus} long (played unplayed e) (omega arith)).0 in
      let a = inner_done false one q p (omega arith) (omega arith) r.ds r.wired in
      let e = bit_event tape at' bit in
      let m = ran_more r (omega arith) false (rw e free) (set hs talker f.head) pages bus (pulled (level_in bus (record_size * talker) f.drive) (b % 2)) talker false (rw e a) in
      let z : refused + 0 ≡ refused = omega arith in
      let y : bit_after others b ≡ others = rw o refl in
      rw free (rw (e, bit_size tape at' bit, same_bit, z, y) at m)
    where
      alone : others ≡ Standby → span_of (Bit b) false others talker (number (get_or who (called others) None)) n ≡ span talker (talker + 1)
      alone o = rw (o, lt-ltb talker n small) refl

-- ---- frames one after the other
module _ {n : ℕ} {bus₀ tape : List ℕ} {who : List (Option ℕ)} {answers₀ answers : List ℕ} {hs : List Head} {pages : List (List ℕ)} {bus : List ℕ} {others : Stage} {talker : ℕ} {any : Bool} {refused : ℕ} {p₀ : Progress}
    (r : Ran n bus₀ tape who answers₀ answers hs pages bus others talker any refused p₀.at p₀.answered) where
  abbrev mine : Head
  mine = get_or hs talker blank_head

  abbrev Along : List Head → Stage → Progress → List ℕ → Type 0
  Along hs' others' p answers' = Ran n bus₀ tape who answers₀ answers' hs' pages bus others' talker any refused p.at p.answered

  -- one frame of the byte of the device that talks
  own_more : n ≤ 8 → length hs ≡ 8 → talker < n → (byte_of mine.stage).count < 8 → (p : Progress) (x : Byte) (answers' : List ℕ) → x.count < 8 → p.at + 3 ≤ length tape → get_or tape (p.at + 2) 0 < 2
      → Along (set hs talker (glided mine x)) others p answers'
      → Along (set hs talker (glided mine (longer x (get_or tape (p.at + 2) 0)))) others (progress (p.at + 3) (p.answered + 1))
      (set answers' p.answered (pulled (bit_at (shown_in bus (record_size * talker) (driven mine mine.stage)) x.count) (get_or tape (p.at + 2) 0)))
  own_more few long small left p x answers' low whole bit q =
      let h = glided mine x in
      let here : get_or (set hs talker h) talker blank_head ≡ h = get_or-set_same hs talker h blank_head (omega arith) in
      let past' = r.wired.beyond small in
      let calm = free_byte mine.stage left in
      let b = get_or tape (p.at + 2) 0 in
      let h' = glided mine (longer x b) in
      let c : any ≡ false = wired_calm q.wired (λ z. rw here (busy_resumed mine.stage x ∙ calm)) in
      let e : record { head = h'; drive = drives mine mine.stage x.count; act = Nothing } ≡ heard (get_or (set hs talker h) talker blank_head) (Bit b) =
      rw here (framed_heard h b (sym (frame_own mine x.count x.bits b low mine.stage past' calm left))) in
      let m = ran_own q whole bit c few (length-set hs talker h ∙ long) small (record { head = h'; drive = drives mine mine.stage x.count; act = Nothing }) e refl
      (past_resumed mine.stage (longer x b) ∙ past') (busy_resumed mine.stage (longer x b) ∙ calm) in
      rw (set-set hs talker h h', shows_bit bus (record_size * talker) mine x.count mine.stage) at m

  glide_own : n ≤ 8 → length hs ≡ 8 → talker < n → {p : Progress} {x : Byte} {answers' : List ℕ}
      → Frames tape (shown_in bus (record_size * talker) (driven mine mine.stage)) p₀ (byte_of mine.stage) answers p x answers'
      → Along (set hs talker (glided mine x)) others p answers'
  glide_own few long small none = rw (on_none mine mine.stage refl, set-get_or hs talker blank_head) r
  glide_own few long small (more f low whole bit) =
      own_more few long small (omega (arith, frames_count f)) _ _ _ low whole bit (glide_own few long small f)

  -- one frame of the byte that all hear
  apart_more : n ≤ talker → (p : Progress) (x : Byte) (answers' : List ℕ) → x.count < 8 → p.at + 3 ≤ length tape → get_or tape (p.at + 2) 0 < 2 → Along hs (resumed others x) p answers'
      → Along hs (resumed others (longer x (get_or tape (p.at + 2) 0))) (progress (p.at + 3) (p.answered + 1)) (set answers' p.answered (pulled (bit_at 255 x.count) (get_or tape (p.at + 2) 0)))
  apart_more none' p x answers' low whole bit q =
      let c : any ≡ false = wired_calm q.wired (λ z. absurd (omega arith)) in
      let a = apart_resumed others x.count x.bits (get_or tape (p.at + 2) 0) low r.wired.apart in
      rw (free_bit x.count) (rw a.1 at (ran_apart q whole bit c none' a.0))

  glide_apart : n ≤ talker → {p : Progress} {x : Byte} {answers' : List ℕ} → Frames tape 255 p₀ (byte_of others) answers p x answers'
      → Along hs (resumed others x) p answers'
  glide_apart none' none = rw (resumed_none others) r
  glide_apart none' (more f low whole bit) = apart_more none' _ _ _ low whole bit (glide_apart none' f)

  pub ran_glide : n ≤ 8 → length hs ≡ 8 → {p : Progress} {others' : Stage} {hs' : List Head} {answers' : List ℕ}
      → Glides n bus tape talker p₀ others hs answers p others' hs' answers' → Along hs' others' p answers'
  ran_glide few long (own small f) = glide_own few long small f
  ran_glide few long (apart none' f) = glide_apart none' f

  -- what is left has no fault, and room for its answers
  pub ran_space : (space : ℕ) → length (events_of tape) ≤ space → Room tape p₀ space
  ran_space space h = record { sound = r.sound; left = omega (arith, r.left) }
