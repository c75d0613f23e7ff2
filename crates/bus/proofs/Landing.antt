-- Which devices an event does more to than to move them from the one stage that they share to the next, and where those that it does more to end.
use Rattle.std.specs.Prelude.{Option, Some, None}
use Prim.Native.Nat.{ℕ, ◌+◌, ◌%◌}
use mathlib.Core.Path.{◌≡◌, refl, sym, ap, ◌∙◌}
use mathlib.Core.Bool.{Bool, true, false}
use native.Mathlib.Omega.{arith}
use borrow.Author.Tests.{ne_eqb}
use lib.Dec.{eqb, ltb}
use Rattle.bits.specs.Words.{pick}
use Rattle.bits.specs.Bytes.{more_of, opcode_of, slave_of, read_of}
use Rattle.chip.specs.declared.Device.{Device}
use Rattle.chip.specs.declared.Head.{Head}
use Rattle.chip.specs.declared.Framed.{Framed}
use Rattle.chip.specs.declared.Command.{Command}
use Rattle.chip.specs.declared.Command.TheVariants.{Page, Lock, Check, Rom, Freeze}
use Rattle.chip.specs.declared.Source.{Source}
use Rattle.chip.specs.declared.Source.TheVariants.{Cells, Id, Register}
use Rattle.chip.specs.declared.Stage.{Stage}
use Rattle.chip.specs.declared.Stage.TheVariants.{Standby, Address, Place, Data, Sending, Programming}
use Rattle.chip.specs.declared.Opcode.{Opcode}
use Rattle.chip.specs.declared.Opcode.TheVariants.{Access, LockRegister, ZoneRegister, FreezeZones, ManufacturerId, StandardSpeed, HighSpeed, Unknown}
use Rattle.chip.specs.declared.Cycle.{Cycle}
use Rattle.chip.specs.declared.Event.{Event}
use Rattle.chip.specs.declared.Event.TheVariants.{Bit, Null, Wait, Reset, Cut}
use Rattle.chip.specs.Head.{at, silent}
use Rattle.chip.specs.Stages.{named, opened, answers_address, answers_place, answers_data, caused_by_place, caused_by_data, next_byte, framed, past}
use Rattle.chip.specs.Cycle.{running, due, null_of, nulled, finished, cut_of, heard}
use Rattle.chip.specs.Memory.{level_of, acted}
use Rattle.chip.specs.Take.{head_of, joined, take_of}
use Rattle.bits.proofs.Choices.{choice}
use Rattle.wire.specs.Wire.{busy}
use Rattle.bus.specs.Held.{bit_after, others_after, ninth_due, called}

-- ---- a device that an event only moves on
abbrev pub staged : Device → Stage → Device
staged d s = joined (at (head_of d) s) d

pub record Moved (d : Device) (ev : Event) (s : Stage) : Type 0 where
  pub device : (take_of d ev).device ≡ staged d s
  pub level : (take_of d ev).level ≡ 1

moved : (d : Device) (ev : Event) (s : Stage) → heard (head_of d) ev ≡ silent (head_of d) s → Moved d ev s
unfolding take_of acted level_of
moved d ev s e = record { device = rw e refl; level = rw e refl }

-- the stages that devices share
pub data Apart : Stage → Type 0 where
  rests : Apart Standby
  reads : {n x : ℕ} → Apart (Address n x)

-- where the ninth frame is due, this device is not the one called
abbrev pub NotCalled : Stage → ℕ → Type 0
NotCalled s slave = ninth_due s ≡ true → called s ≡ slave → ⊥

module _ (h : Head) (b : ℕ) where
  by_count : (n x : ℕ) (t : Bool) → ltb n 8 ≡ t → NotCalled (Address n x) h.slave
      → framed h (Address n x) b ≡ silent h (pick t (Address (n + 1) (more_of x b)) Standby)
  by_count n x true e c = rw e refl
  by_count n x false e c = rw (e, ne_eqb (slave_of x) h.slave (c (rw e refl))) refl

  bit_apart : (s : Stage) → Apart s → NotCalled s h.slave → framed h s b ≡ silent h (bit_after s b)
  bit_apart Standby rests c = refl
  bit_apart (Address n x) reads c = by_count n x (ltb n 8) refl c
  bit_apart (Place _ _ _) q c = elim q [ ]
  bit_apart (Data _ _ _ _) q c = elim q [ ]
  bit_apart (Sending _ _) q c = elim q [ ]
  bit_apart (Programming _ _) q c = elim q [ ]

null_apart : (h : Head) (s : Stage) → Apart s → null_of h (running s) (due s) ≡ at h (Address 0 0)
null_apart h Standby rests = refl
null_apart h (Address n x) reads = refl
null_apart h (Place _ _ _) q = elim q [ ]
null_apart h (Data _ _ _ _) q = elim q [ ]
null_apart h (Sending _ _) q = elim q [ ]
null_apart h (Programming _ _) q = elim q [ ]

-- an event that is played on a device apart only where all hear it
pub data Passing : Event → Type 0 where
  a_bit : {b : ℕ} → Passing (Bit b)
  a_null : Passing Null
  a_wait : Passing Wait

abbrev pub Quiet : Event → Stage → ℕ → Type 0
Quiet (Bit b) s slave = NotCalled s slave
Quiet Null s slave = Unit {0}
Quiet Wait s slave = Unit {0}
Quiet Reset s slave = Unit {0}
Quiet (Cut m) s slave = Unit {0}

pub aside : (d : Device) (s : Stage) (ev : Event) → d.stage ≡ s → Apart s → Passing ev → Quiet ev s d.slave → Moved d ev (others_after ev s)
unfolding heard
aside d s (Bit b) e a a_bit c = moved d (Bit b) (bit_after s b) (ap (λ (t : Stage). framed (head_of d) t b) e ∙ bit_apart (head_of d) b s a c)
aside d s Null e a a_null c =
    let q : nulled (head_of d) ≡ at (head_of d) (Address 0 0) = ap (λ (t : Stage). null_of (head_of d) (running t) (due t)) e ∙ null_apart (head_of d) s a in
    moved d Null (Address 0 0) (rw q refl)
aside d s Wait e a a_wait c =
    let q : nulled (head_of d) ≡ at (head_of d) (Address 0 0) = ap (λ (t : Stage). null_of (head_of d) (running t) (due t)) e ∙ null_apart (head_of d) s a in
    moved d Wait (Address 0 0) (rw q refl)
aside d s Reset e a q c = elim q [ ]
aside d s (Cut _) e a q c = elim q [ ]

-- ---- where a device ends that an event is played on: past its device address, or in the stage that the others share then
pub record Lands (s o : Stage) : Type 0 where
  pub settles : past s ≡ false → s ≡ o
  pub alone : past s ≡ true → busy s ≡ false → o ≡ Standby

pub no : {A : Type 0} → ◌≡◌ {A = Bool} true false → A
no e = absurd (let z : ◌≡◌ {A = ℕ} 0 1 = cc in omega arith)

apart_stages : {A : Type 0} → Address 0 0 ≡ Standby → A
apart_stages e = absurd (let z : ◌≡◌ {A = ℕ} 0 1 = cc in omega arith)

on : (s : Stage) → past s ≡ true → Lands s Standby
on s e = record { settles = λ f. no (sym e ∙ f); alone = λ f g. refl }

off : Lands Standby Standby
off = record { settles = λ f. refl; alone = λ f g. refl }

abbrev Land : Framed → Type 0
Land f = Lands f.head.stage Standby

land_opened : (h : Head) (o : Opcode) (rw : Bool) → Lands (opened h o rw).stage Standby
land_opened h (Access r) true = on _ refl
land_opened h (Access r) false = on _ refl
land_opened h LockRegister true = on _ refl
land_opened h LockRegister false = on _ refl
land_opened h ZoneRegister true = on _ refl
land_opened h ZoneRegister false = on _ refl
land_opened h FreezeZones true = off
land_opened h FreezeZones false = on _ refl
land_opened h ManufacturerId rw = on _ refl
land_opened h StandardSpeed true = off
land_opened h StandardSpeed false = off
land_opened h HighSpeed true = off
land_opened h HighSpeed false = off
land_opened h Unknown rw = off

land_place : (h : Head) (c : Command) (x : ℕ) → Land (caused_by_place h c x)
land_place h (Page r) x = on _ refl
land_place h Lock x = on _ refl
land_place h Check x = on _ refl
land_place h Rom x = on _ refl
land_place h Freeze x = on _ refl

land_data : (h : Head) (c : Command) (t x : ℕ) → Land (caused_by_data h c t x)
land_data h (Page r) t x = on _ refl
land_data h Lock t x = on _ refl
land_data h Check t x = on _ refl
land_data h Rom t x = on _ refl
land_data h Freeze t x = on _ refl

land_next : (s : Source) → Lands (next_byte s) Standby
land_next (Cells r) = on _ refl
land_next (Id k) = choice (λ (s : Stage). Lands s Standby) (ltb k 2) (on _ refl) off
land_next Register = on _ refl

-- a bit in the ninth frame of the device address, or past it
pub land_bit : (h : Head) (s : Stage) (b : ℕ) → (past s ≡ false → ninth_due s ≡ true) → busy s ≡ false → Land (framed h s b)
land_bit h Standby b p q = off
land_bit h (Address n x) b p q = by (ltb n 8) refl
  where
    by : (t : Bool) → ltb n 8 ≡ t → Land (framed h (Address n x) b)
    by true e = no (sym (p refl) ∙ rw e refl)
    by false e = rw e (choice Land (answers_address h x) (land_opened h (named (opcode_of x)) (read_of x)) off)
land_bit h (Place c n x) b p q = choice Land (ltb n 8) (on _ refl) (choice Land (answers_place h c x) (land_place h c x) off)
land_bit h (Data c t n x) b p q = choice Land (ltb n 8) (on _ refl) (choice Land (answers_data h c t x) (land_data h c t x) off)
land_bit h (Sending s n) b p q =
    choice Land (ltb n 7) (on _ refl) (choice Land (eqb n 7) (on _ refl) (choice Land (eqb (b % 2) 0) (land_next s) off))
land_bit h (Programming c t) b p q = no q

land_due : (h : Head) (d : Option Cycle) → Lands (null_of h None d).stage (Address 0 0)
land_due h None = record { settles = λ f. refl; alone = λ f g. no (sym f) }
land_due h (Some r) = record { settles = λ f. no f; alone = λ f g. no g }

pub land_null : (h : Head) (s : Stage) → h.stage ≡ s → Lands (null_of h (running s) (due s)).stage (Address 0 0)
land_null h Standby e = land_due h None
land_null h (Address n x) e = land_due h None
land_null h (Place c n x) e = land_due h None
land_null h (Data c t n x) e = land_due h (due (Data c t n x))
land_null h (Sending s n) e = land_due h None
land_null h (Programming c t) e = rw e (record { settles = λ f. no f; alone = λ f g. no g })

land_finished : (h : Head) (r : Option Cycle) → (r ≡ None → h.stage ≡ Address 0 0) → (finished h r).head.stage ≡ Address 0 0
land_finished h None e = e refl
land_finished h (Some r) e = refl

-- a Null leaves a device free only where it waits for its device address
free_null : (h : Head) (s : Stage) → h.stage ≡ s → running (null_of h (running s) (due s)).stage ≡ None → (null_of h (running s) (due s)).stage ≡ Address 0 0
free_null h s e f = (land_null h s e).settles (freed (null_of h (running s) (due s)).stage f (land_null h s e))
  where
    freed : (q : Stage) → running q ≡ None → Lands q (Address 0 0) → past q ≡ false
    freed Standby f l = refl
    freed (Address n x) f l = refl
    freed (Place c n x) f l = apart_stages (l.alone refl refl)
    freed (Data c t n x) f l = apart_stages (l.alone refl refl)
    freed (Sending k n) f l = apart_stages (l.alone refl refl)
    freed (Programming c t) f l = absurd (let z : ◌≡◌ {A = ℕ} 0 1 = cc in omega arith)

-- what is known of the stage of a device that an event is played on
abbrev pub Free : Event → Stage → Type 0
Free (Bit b) s = (past s ≡ false → ninth_due s ≡ true) × (busy s ≡ false)
Free Null s = Unit {0}
Free Wait s = Unit {0}
Free Reset s = busy s ≡ false
Free (Cut m) s = Unit {0}

idle : (s : Stage) → busy s ≡ false → running s ≡ None
idle Standby e = refl
idle (Address n x) e = refl
idle (Place c n x) e = refl
idle (Data c t n x) e = refl
idle (Sending k n) e = refl
idle (Programming c t) e = no e

-- the stage that the others share after a bit that is played on a device: the ninth frame of the device address, or none of them reads it
pub bit_others : (o : Stage) (b : ℕ) → ninth_due o ≡ true → bit_after o b ≡ Standby
bit_others Standby b e = refl
bit_others (Address n x) b e = by (ltb n 8) refl
  where
    by : (t : Bool) → ltb n 8 ≡ t → bit_after (Address n x) b ≡ Standby
    by true f = no (sym e ∙ rw f refl)
    by false f = rw f refl
bit_others (Place c n x) b e = no (sym e)
bit_others (Data c t n x) b e = no (sym e)
bit_others (Sending k n) b e = no (sym e)
bit_others (Programming c t) b e = no (sym e)

cut_rests : (h : Head) (m : ℕ) (r : Option Cycle) → (cut_of h r m).head.stage ≡ Standby
cut_rests h m None = refl
cut_rests h m (Some r) = refl

-- a reset, by itself or after a Cut, leaves a device in standby
pub data Resets : Event → Type 0 where
  a_reset : Resets Reset
  a_cut : {m : ℕ} → Resets (Cut m)

pub reset_rests : (h : Head) (ev : Event) (s : Stage) → h.stage ≡ s → Resets ev → Free ev s → (heard h ev).head.stage ≡ Standby
unfolding heard
reset_rests h Reset s e a_reset f = rw (ap running e ∙ idle s f) refl
reset_rests h (Cut m) s e a_cut f = cut_rests h m (running h.stage)
reset_rests h (Bit _) s e q f = elim q [ ]
reset_rests h Null s e q f = elim q [ ]
reset_rests h Wait s e q f = elim q [ ]

-- an event played on a head in stage s, beside others in stage o
pub lands : (h : Head) (ev : Event) (s o : Stage) → h.stage ≡ s → Free ev s → (others_after ev o ≡ others_after ev Standby) → Lands (heard h ev).head.stage (others_after ev o)
unfolding heard
lands h (Bit b) s o e f q = rw q (rw (ap (λ (t : Stage). framed h t b) e) (land_bit h s b f.0 f.1))
lands h Null s o e f q = rw (ap (λ (t : Stage). null_of h (running t) (due t)) e) (land_null h s e)
lands h Wait s o e f q =
    let n : nulled h ≡ null_of h (running s) (due s) = ap (λ (t : Stage). null_of h (running t) (due t)) e in
    let w : (finished (nulled h) (running (nulled h).stage)).head.stage ≡ Address 0 0 = land_finished (nulled h) (running (nulled h).stage) (λ i. rw n (free_null h s e (rw n at i))) in
    rw w (land_due h None)
lands h Reset s o e f q = rw (ap running e ∙ idle s f) off
lands h (Cut m) s o e f q = rw (cut_rests h m (running h.stage)) off

-- the others never program
pub apart_free : (s : Stage) → Apart s → busy s ≡ false
apart_free Standby rests = refl
apart_free (Address n x) reads = refl
apart_free (Place _ _ _) q = elim q [ ]
apart_free (Data _ _ _ _) q = elim q [ ]
apart_free (Sending _ _) q = elim q [ ]
apart_free (Programming _ _) q = elim q [ ]

pub apart_after : (s : Stage) (ev : Event) → Apart s → Apart (others_after ev s)
apart_after Standby (Bit b) rests = rests
apart_after (Address n x) (Bit b) reads = choice Apart (ltb n 8) reads rests
apart_after s Null a = reads
apart_after s Wait a = reads
apart_after s Reset a = rests
apart_after s (Cut m) a = rests
apart_after (Place _ _ _) (Bit b) a = elim a [ ]
apart_after (Data _ _ _ _) (Bit b) a = elim a [ ]
apart_after (Sending _ _) (Bit b) a = elim a [ ]
apart_after (Programming _ _) (Bit b) a = elim a [ ]
