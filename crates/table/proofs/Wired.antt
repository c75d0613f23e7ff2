-- An event that is carried out takes the wire from one scene to the next; at the ninth frame of the device address slave addresses that rise let one device
-- answer at most.
use Rattle.std.specs.Prelude.{Option, Some, None}
use Prim.Native.Nat.{ℕ, ◌+◌, ◌%◌, ◌<◌}
use native.Mathlib.Omega.{arith}
use mathlib.Core.Path.{◌≡◌, refl, sym, ap, subst, ◌∙◌}
use mathlib.Core.Bool.{Bool, true, false}
use mathlib.Core.List.{List, [], ◌∷◌}
use mathlib.Core.Logic.{◌⊎◌, inl, inr}
use borrow.Author.Tests.{eqb-true, eqb-false, ne_eqb}
use lib.Dec.{eqb, ltb}
use Rattle.bits.specs.Bytes.{more_of, opcode_of, slave_of, read_of}
use Rattle.chip.specs.declared.Device.{Device}
use Rattle.chip.specs.declared.Head.{Head}
use Rattle.chip.specs.declared.Framed.{Framed}
use Rattle.chip.specs.declared.Command.{Command}
use Rattle.chip.specs.declared.Command.TheVariants.{Page, Lock, Check, Rom, Freeze}
use Rattle.chip.specs.declared.Source.{Source}
use Rattle.chip.specs.declared.Source.TheVariants.{Cells, Id, Register}
use Rattle.chip.specs.declared.Stage.{Stage}
use Rattle.chip.specs.declared.Stage.TheVariants.{Standby, Address, Place, Data, Sending, Programming}
use Rattle.chip.specs.declared.Opcode.{Opcode}
use Rattle.chip.specs.declared.Opcode.TheVariants.{Access, LockRegister, ZoneRegister, FreezeZones, ManufacturerId, StandardSpeed, HighSpeed, Unknown}
use Rattle.chip.specs.declared.Cycle.{Cycle}
use Rattle.chip.specs.declared.Event.{Event}
use Rattle.chip.specs.declared.Event.TheVariants.{Bit, Null, Wait, Reset, Cut}
use Rattle.chip.specs.Stages.{named, opened, answers_address, answers_place, answers_data, caused_by_place, caused_by_data, next_byte, framed}
use Rattle.chip.specs.Cycle.{running, due, null_of, nulled, finished, reset_of, cut_of, heard}
use Rattle.chip.specs.Take.{head_of, take_of}
use Rattle.bits.proofs.Choices.{choice}
use Rattle.wire.specs.Wire.{busy, any_busy, barred, table_of}
use Rattle.table.specs.WellFormed.{good_load, good_loads}
use Rattle.table.proofs.Both.{no, both_of}
use Rattle.table.proofs.Well.{above_least}
use Rattle.chip.proofs.KeptLaws.{head_after}
use Rattle.table.proofs.Scenes.{Near, Rests, Begins, Speaks, Cycles, Each, each_map, One, Scene}
use Rattle.table.proofs.Scenes.Near.{rests, reads}
use Rattle.table.proofs.Scenes.Rests.{stands}
use Rattle.table.proofs.Scenes.Begins.{begins}
use Rattle.table.proofs.Scenes.Speaks.{at_place, at_data, sends}
use Rattle.table.proofs.Scenes.Cycles.{cycles}
use Rattle.table.proofs.Scenes.One.{here, there}
use Rattle.table.proofs.Scenes.Scene.{quiet, speaks, programs}

abbrev Either : (P Q : Stage → Type 0) → Stage → Type 0
Either P Q s = P s ⊎ Q s

-- ---- all devices from one
module _ (ev : Event) where
  abbrev after : Device → Stage
  after d = (heard (head_of d) ev).head.stage

  stage_after : (P : Stage → Type 0) (d : Device) → P (after d) → P (take_of d ev).device.stage
  stage_after P d p = subst P (sym (ap (λ (h : Head). h.stage) (head_after d ev))) p

  each_after : (P Q : Stage → Type 0) → ((d : Device) → P d.stage → Q (after d)) → (ds : List Device) → Each P ds → Each Q (table_of ds ev)
  unfolding table_of
  each_after P Q f [] e = tt
  each_after P Q f (d ∷ ds) e = (stage_after Q d (f d e.0), each_after P Q f ds e.1)

  any_after : (Q : Stage → Type 0) → ((d : Device) → Q (after d)) → (ds : List Device) → Each Q (table_of ds ev)
  unfolding table_of
  any_after Q f [] = tt
  any_after Q f (d ∷ ds) = (stage_after Q d (f d), any_after Q f ds)

  -- the one goes on as one, or becomes as the others
  one_after : (P Q P' Q' : Stage → Type 0) → ((d : Device) → P d.stage → Either P' Q' (after d)) → ((d : Device) → Q d.stage → Q' (after d))
      → (ds : List Device) → One P Q ds → One P' Q' (table_of ds ev) ⊎ Each Q' (table_of ds ev)
  unfolding table_of
  one_after P Q P' Q' f g ds (here {d = d} {ds = es} p q) =
      elim (f d p) [
        | inl a ↦ inl (here (stage_after P' d a) (each_after Q Q' g es q))
        | inr b ↦ inr (stage_after Q' d b, each_after Q Q' g es q)
      ]
  one_after P Q P' Q' f g ds (there {d = d} {ds = es} q o) =
      elim (one_after P Q P' Q' f g es o) [
        | inl a ↦ inl (there (stage_after Q' d (g d q)) a)
        | inr b ↦ inr (stage_after Q' d (g d q), b)
      ]

-- ---- a bit frame at one device
abbrev Lands : Framed → Type 0
Lands f = Either Speaks Rests f.head.stage

land_opened : (h : Head) (o : Opcode) (rw : Bool) → Either Speaks Rests (opened h o rw).stage
land_opened h (Access r) true = inl sends
land_opened h (Access r) false = inl at_place
land_opened h LockRegister true = inl at_place
land_opened h LockRegister false = inl at_place
land_opened h ZoneRegister true = inl sends
land_opened h ZoneRegister false = inl at_place
land_opened h FreezeZones true = inr stands
land_opened h FreezeZones false = inl at_place
land_opened h ManufacturerId rw = inl sends
land_opened h StandardSpeed true = inr stands
land_opened h StandardSpeed false = inr stands
land_opened h HighSpeed true = inr stands
land_opened h HighSpeed false = inr stands
land_opened h Unknown rw = inr stands

land_place : (h : Head) (c : Command) (x : ℕ) → Lands (caused_by_place h c x)
land_place h (Page r) x = inl at_data
land_place h Lock x = inl at_data
land_place h Check x = inl at_data
land_place h Rom x = inl at_data
land_place h Freeze x = inl at_data

land_data : (h : Head) (c : Command) (t x : ℕ) → Lands (caused_by_data h c t x)
land_data h (Page r) t x = inl at_data
land_data h Lock t x = inl at_data
land_data h Check t x = inl at_data
land_data h Rom t x = inl at_data
land_data h Freeze t x = inl at_data

land_next : (s : Source) → Either Speaks Rests (next_byte s)
land_next (Cells r) = inl sends
land_next (Id k) = choice (Either Speaks Rests) (ltb k 2) (inl sends) (inr stands)
land_next Register = inl sends

module _ (h : Head) (b : ℕ) where
  speaks_bit : {s : Stage} → Speaks s → Lands (framed h s b)
  speaks_bit (at_place {c = c} {n = n} {x = x}) = choice Lands (ltb n 8) (inl at_place) (choice Lands (answers_place h c x) (land_place h c x) (inr stands))
  speaks_bit (at_data {c = c} {t = t} {n = n} {x = x}) = choice Lands (ltb n 8) (inl at_data) (choice Lands (answers_data h c t x) (land_data h c t x) (inr stands))
  speaks_bit (sends {s = s} {n = n}) = choice Lands (ltb n 7) (inl sends) (choice Lands (eqb n 7) (inl sends) (choice Lands (eqb (b % 2) 0) (land_next s) (inr stands)))

  rests_bit : {s : Stage} → Rests s → Rests (framed h s b).head.stage
  rests_bit stands = stands

  module _ (n x : ℕ) where
    near_more : ltb n 8 ≡ true → {s : Stage} → Near n x s → Near (n + 1) (more_of x b) (framed h s b).head.stage
    near_more e rests = rests
    near_more e reads = rw e reads

    near_ninth : ltb n 8 ≡ false → {s : Stage} → Near n x s → Lands (framed h s b)
    near_ninth e rests = inr stands
    near_ninth e reads = rw e (choice Lands (answers_address h x) (land_opened h (named (opcode_of x)) (read_of x)) (inr stands))

    uncalled : ltb n 8 ≡ false → (slave_of x ≡ h.slave → ⊥) → {s : Stage} → Near n x s → Rests (framed h s b).head.stage
    uncalled e o rests = stands
    uncalled e o reads = rw (e, ne_eqb (slave_of x) h.slave o) stands

-- ---- the ninth frame of the device address, at all devices
module _ (n x b : ℕ) (full : ltb n 8 ≡ false) where
  none_called : (ds : List Device) (least : ℕ) → good_loads least ds ≡ true → slave_of x < least → Each (Near n x) ds → Each Rests (table_of ds (Bit b))
  unfolding table_of good_loads heard
  none_called [] least g l e = tt
  none_called (d ∷ ds) least g l e =
      let k = both_of (good_load least d) _ g in
      let a = above_least least d k.0 in
      (stage_after (Bit b) Rests d (uncalled (head_of d) b n x full (λ q. omega arith) e.0), none_called ds (d.slave + 1) k.1 (omega arith) e.1)

  one_called : (ds : List Device) (least : ℕ) → good_loads least ds ≡ true → Each (Near n x) ds → One Speaks Rests (table_of ds (Bit b)) ⊎ Each Rests (table_of ds (Bit b))
  unfolding table_of good_loads heard
  one_called [] least g e = inr tt
  one_called (d ∷ ds) least g e =
      let k = both_of (good_load least d) _ g in
      by k.1 (one_called ds (d.slave + 1) k.1 e.1) (eqb (slave_of x) d.slave) refl
    where
      by : good_loads (d.slave + 1) ds ≡ true → One Speaks Rests (table_of ds (Bit b)) ⊎ Each Rests (table_of ds (Bit b)) → (t : Bool) → eqb (slave_of x) d.slave ≡ t
          → One Speaks Rests (table_of (d ∷ ds) (Bit b)) ⊎ Each Rests (table_of (d ∷ ds) (Bit b))
      by g r true q =
          let c = eqb-true (slave_of x) d.slave q in
          let others = none_called ds (d.slave + 1) g (omega arith) e.1 in
          elim (near_ninth (head_of d) b n x full e.0) [
            | inl a ↦ inl (here (stage_after (Bit b) Speaks d a) others)
            | inr a ↦ inr (stage_after (Bit b) Rests d a, others)
          ]
      by g r false q =
          let own = stage_after (Bit b) Rests d (uncalled (head_of d) b n x full (eqb-false (slave_of x) d.slave q) e.0) in
          elim r [ inl a ↦ inl (there own a) | inr a ↦ inr (own, a) ]

-- ---- the other events at one device
-- after a Null a device waits for its device address or programs
data Nulled : Stage → Type 0 where
  waits : Nulled (Address 0 0)
  runs : {c : Command} {t : ℕ} → Nulled (Programming c t)

null_any : (h : Head) (s : Stage) → h.stage ≡ s → Nulled (null_of h (running s) (due s)).stage
null_any h Standby e = waits
null_any h (Address n x) e = waits
null_any h (Place c n x) e = waits
null_any h (Data c t n x) e =
    choice (λ (d : Option Cycle). Nulled (null_of h None d).stage) (eqb n 0) (choice (λ (d : Option Cycle). Nulled (null_of h None d).stage) (eqb t 0) waits runs) waits
null_any h (Sending s n) e = waits
null_any h (Programming c t) e = rw e runs

nulled_is : {s : Stage} → Nulled s → Either Cycles Begins s
nulled_is waits = inr begins
nulled_is runs = inl cycles

null_near : (h : Head) {n x : ℕ} {s : Stage} → Near n x s → Begins (null_of h (running s) (due s)).stage
null_near h rests = begins
null_near h reads = begins

null_cycles : (h : Head) {s : Stage} → h.stage ≡ s → Cycles s → Cycles (null_of h (running s) (due s)).stage
null_cycles h e cycles = rw e cycles

wait_ends : (h : Head) (s : Stage) → h.stage ≡ s → Nulled s → Begins (finished h (running s)).head.stage
wait_ends h s e waits = rw e begins
wait_ends h s e runs = begins

wait_any : (h : Head) → Begins (finished (nulled h) (running (nulled h).stage)).head.stage
wait_any h = wait_ends (nulled h) (nulled h).stage refl (null_any h h.stage refl)

cut_any : (h : Head) (r : Option Cycle) (m : ℕ) → Rests (cut_of h r m).head.stage
cut_any h None m = stands
cut_any h (Some r) m = stands

reset_near : (h : Head) {n x : ℕ} {s : Stage} → Near n x s → Rests (reset_of h (running s)).head.stage
reset_near h rests = stands
reset_near h reads = stands

reset_rests : (h : Head) {s : Stage} → Rests s → Rests (reset_of h (running s)).head.stage
reset_rests h stands = stands

reset_speaks : (h : Head) {s : Stage} → Speaks s → Rests (reset_of h (running s)).head.stage
reset_speaks h at_place = stands
reset_speaks h at_data = stands
reset_speaks h sends = stands

-- ---- the scene after an event
begin_near : (s : Stage) → Begins s → Near 0 0 s
begin_near s begins = reads

rest_near : (s : Stage) → Rests s → Near 0 0 s
rest_near s stands = rests

all_begun : {ds : List Device} → Each Begins ds → Scene ds
all_begun {ds} e = quiet 0 0 (each_map begin_near ds e)

all_resting : {ds : List Device} → Each Rests ds → Scene ds
all_resting {ds} e = quiet 0 0 (each_map rest_near ds e)

speaks_or_rests : {ds : List Device} → One Speaks Rests ds ⊎ Each Rests ds → Scene ds
speaks_or_rests (inl o) = speaks o
speaks_or_rests (inr e) = all_resting e

programs_or_begins : {ds : List Device} → One Cycles Begins ds ⊎ Each Begins ds → Scene ds
programs_or_begins (inl o) = programs o
programs_or_begins (inr e) = all_begun e

-- while a device programs
cycles_busy : (ds : List Device) → One Cycles Begins ds → any_busy ds ≡ true
unfolding any_busy
cycles_busy ds (here {d = d} {ds = es} p q) = rw (runs_busy d.stage p) refl
  where
    runs_busy : (s : Stage) → Cycles s → busy s ≡ true
    runs_busy s cycles = refl
cycles_busy ds (there {d = d} {ds = es} q o) = rw (begun_free d.stage q) (cycles_busy es o)
  where
    begun_free : (s : Stage) → Begins s → busy s ≡ false
    begun_free s begins = refl

bit_scene : (ds : List Device) (b : ℕ) → good_loads 0 ds ≡ true → any_busy ds ≡ false → Scene ds → Scene (table_of ds (Bit b))
unfolding heard
bit_scene ds b g f (quiet n x e) = by (ltb n 8) refl
  where
    by : (t : Bool) → ltb n 8 ≡ t → Scene (table_of ds (Bit b))
    by true q = quiet (n + 1) (more_of x b) (each_after (Bit b) (Near n x) (Near (n + 1) (more_of x b)) (λ d k. near_more (head_of d) b n x q k) ds e)
    by false q = speaks_or_rests (one_called n x b q ds 0 g e)
bit_scene ds b g f (speaks o) = speaks_or_rests (one_after (Bit b) Speaks Rests Speaks Rests (λ d k. speaks_bit (head_of d) b k) (λ d k. rests_bit (head_of d) b k) ds o)
bit_scene ds b g f (programs o) = no (sym f ∙ cycles_busy ds o)

null_scene : (ds : List Device) → Scene ds → Scene (table_of ds Null)
unfolding heard
null_scene ds (quiet n x e) = all_begun (each_after Null (Near n x) Begins (λ d k. null_near (head_of d) k) ds e)
null_scene ds (speaks o) =
    programs_or_begins (one_after Null Speaks Rests Cycles Begins (λ d k. nulled_is (null_any (head_of d) d.stage refl)) (λ d k. null_near (head_of d) (rest_near d.stage k)) ds o)
null_scene ds (programs o) =
    programs_or_begins (one_after Null Cycles Begins Cycles Begins (λ d k. inl (null_cycles (head_of d) refl k)) (λ d k. null_near (head_of d) (begin_near d.stage k)) ds o)

reset_scene : (ds : List Device) → any_busy ds ≡ false → Scene ds → Scene (table_of ds Reset)
unfolding heard
reset_scene ds f (quiet n x e) = all_resting (each_after Reset (Near n x) Rests (λ d k. reset_near (head_of d) k) ds e)
reset_scene ds f (speaks o) = speaks_or_rests (one_after Reset Speaks Rests Speaks Rests (λ d k. inr (reset_speaks (head_of d) k)) (λ d k. reset_rests (head_of d) k) ds o)
reset_scene ds f (programs o) = no (sym f ∙ cycles_busy ds o)

pub scene_after : (ds : List Device) (ev : Event) → good_loads 0 ds ≡ true → barred ev (any_busy ds) ≡ false → Scene ds → Scene (table_of ds ev)
unfolding heard
scene_after ds (Bit b) g f s = bit_scene ds b g f s
scene_after ds Null g f s = null_scene ds s
scene_after ds Wait g f s = all_begun (any_after Wait Begins (λ d. wait_any (head_of d)) ds)
scene_after ds Reset g f s = reset_scene ds f s
scene_after ds (Cut m) g f s = all_resting (any_after (Cut m) Rests (λ d. cut_any (head_of d) (running d.stage) m) ds)
