-- No event changes part or slave address, and only the end of a one-way command's cycle changes the flags: by cases, as the definitions go.
use Prim.Native.Nat.{ℕ, ◌%◌}
use mathlib.Core.Path.{◌≡◌, refl, ap, subst, ◌∙◌}
use mathlib.Core.Bool.{Bool, true, false}
use lib.Dec.{eqb, ltb}
use Rattle.bits.specs.Bytes.{opcode_of, read_of}
use Rattle.bits.proofs.Choices.{choice}
use Rattle.chip.specs.declared.Device.{Device}
use Rattle.chip.specs.declared.Head.{Head}
use Rattle.chip.specs.declared.Region.TheVariants.{Main, Security}
use Rattle.chip.specs.declared.Command.{Command}
use Rattle.chip.specs.declared.Command.TheVariants.{Page, Lock, Check, Rom, Freeze}
use Rattle.chip.specs.declared.Stage.{Stage}
use Rattle.chip.specs.declared.Stage.TheVariants.{Standby, Address, Place, Data, Sending, Programming}
use Rattle.chip.specs.declared.Opcode.{Opcode}
use Rattle.chip.specs.declared.Opcode.TheVariants.{Access, LockRegister, ZoneRegister, FreezeZones, ManufacturerId, StandardSpeed, HighSpeed, Unknown}
use Rattle.chip.specs.declared.Cycle.{Cycle}
use Rattle.std.specs.Prelude.{Option, Some, None}
use Rattle.chip.specs.declared.Drive.{Drive}
use Rattle.chip.specs.declared.Drive.TheVariants.{Free, Low}
use Rattle.chip.specs.declared.Act.{Act}
use Rattle.chip.specs.declared.Act.TheVariants.{Nothing, Put, Program}
use Rattle.chip.specs.declared.Event.{Event}
use Rattle.chip.specs.declared.Event.TheVariants.{Bit, Null, Wait, Reset, Cut}
use Rattle.chip.specs.Head.{framing}
use Rattle.chip.specs.Stages.{named, opened, answers_address, answers_place, answers_data, caused_by_place, caused_by_data, framed}
use Rattle.chip.specs.Cycle.{running, due, null_of, nulled, whole, flags_after, finished, reset_of, cut_of, heard}
use Rattle.chip.specs.Memory.{acted}
use Rattle.chip.specs.Take.{head_of, joined, take_of}
use Rattle.chip.specs.Kept.{FlagsAfterCycle, Keeps}

-- ---- bit frames
keeps_opened : (h : Head) (o : Opcode) (rw : Bool) → Keeps h (record { head = opened h o rw; drive = Low; act = Nothing })
keeps_opened h (Access r) true = record { part = refl; slave = refl; flags = refl }
keeps_opened h (Access r) false = record { part = refl; slave = refl; flags = refl }
keeps_opened h LockRegister true = record { part = refl; slave = refl; flags = refl }
keeps_opened h LockRegister false = record { part = refl; slave = refl; flags = refl }
keeps_opened h ZoneRegister true = record { part = refl; slave = refl; flags = refl }
keeps_opened h ZoneRegister false = record { part = refl; slave = refl; flags = refl }
keeps_opened h FreezeZones true = record { part = refl; slave = refl; flags = refl }
keeps_opened h FreezeZones false = record { part = refl; slave = refl; flags = refl }
keeps_opened h ManufacturerId rw = record { part = refl; slave = refl; flags = refl }
keeps_opened h StandardSpeed true = record { part = refl; slave = refl; flags = refl }
keeps_opened h StandardSpeed false = record { part = refl; slave = refl; flags = refl }
keeps_opened h HighSpeed true = record { part = refl; slave = refl; flags = refl }
keeps_opened h HighSpeed false = record { part = refl; slave = refl; flags = refl }
keeps_opened h Unknown rw = record { part = refl; slave = refl; flags = refl }

keeps_place : (h : Head) (c : Command) (x : ℕ) → Keeps h (caused_by_place h c x)
keeps_place h (Page r) x = record { part = refl; slave = refl; flags = refl }
keeps_place h Lock x = record { part = refl; slave = refl; flags = refl }
keeps_place h Check x = record { part = refl; slave = refl; flags = refl }
keeps_place h Rom x = record { part = refl; slave = refl; flags = refl }
keeps_place h Freeze x = record { part = refl; slave = refl; flags = refl }

keeps_data : (h : Head) (c : Command) (t x : ℕ) → Keeps h (caused_by_data h c t x)
keeps_data h (Page r) t x = record { part = refl; slave = refl; flags = refl }
keeps_data h Lock t x = record { part = refl; slave = refl; flags = refl }
keeps_data h Check t x = record { part = refl; slave = refl; flags = refl }
keeps_data h Rom t x = record { part = refl; slave = refl; flags = refl }
keeps_data h Freeze t x = record { part = refl; slave = refl; flags = refl }

still : (h : Head) (s : Stage) (v : Drive) → Keeps h (framing h s v Nothing)
still h s v = record { part = refl; slave = refl; flags = refl }

pub keeps_bit : (h : Head) (s : Stage) (b : ℕ) → Keeps h (framed h s b)
keeps_bit h Standby b = still h Standby Free
keeps_bit h (Address n x) b =
    choice (Keeps h) (ltb n 8) (still h _ Free)
    (choice (Keeps h) (answers_address h x) (keeps_opened h (named (opcode_of x)) (read_of x)) (still h Standby Free))
keeps_bit h (Place c n x) b =
    choice (Keeps h) (ltb n 8) (still h _ Free) (choice (Keeps h) (answers_place h c x) (keeps_place h c x) (still h Standby Free))
keeps_bit h (Data c t n x) b =
    choice (Keeps h) (ltb n 8) (still h _ Free) (choice (Keeps h) (answers_data h c t x) (keeps_data h c t x) (still h Standby Free))
keeps_bit h (Sending s n) b =
    choice (Keeps h) (ltb n 7) (still h _ _)
    (choice (Keeps h) (eqb n 7) (record { part = refl; slave = refl; flags = refl })
    (choice (Keeps h) (eqb (b % 2) 0) (still h _ Free) (still h Standby Free)))
keeps_bit h (Programming c t) b = still h (Programming c t) Free

-- ---- the other events
keeps_null : (h : Head) (r d : Option Cycle) → Keeps h (record { head = null_of h r d; drive = Free; act = Nothing })
keeps_null h (Some r) d = record { part = refl; slave = refl; flags = refl }
keeps_null h None (Some d) = record { part = refl; slave = refl; flags = refl }
keeps_null h None None = record { part = refl; slave = refl; flags = refl }

flags_kept : (h : Head) (c : Command) (m : ℕ) → FlagsAfterCycle h.flags (flags_after h c m) c
flags_kept h (Page r) m = refl
flags_kept h Lock m = tt
flags_kept h Check m = refl
flags_kept h Rom m = tt
flags_kept h Freeze m = tt

-- h may stand for a head with the same part, slave and flags
module _ (h h' : Head) (p : h'.part ≡ h.part) (s : h'.slave ≡ h.slave) (f : h'.flags ≡ h.flags) where
  keeps_finished : (r : Option Cycle) → Keeps h (finished h' r)
  keeps_finished None = record { part = p; slave = s; flags = f }
  keeps_finished (Some r) = record {
    part = p;
    slave = s;
    flags = subst (λ (old : ℕ). FlagsAfterCycle old (flags_after h' r.command whole) r.command) f (flags_kept h' r.command whole);
  }

keeps_reset : (h : Head) (r : Option Cycle) → Keeps h (reset_of h r)
keeps_reset h None = record { part = refl; slave = refl; flags = refl }
keeps_reset h (Some r) = record { part = refl; slave = refl; flags = refl }

keeps_cut : (h : Head) (r : Option Cycle) (m : ℕ) → Keeps h (cut_of h r m)
keeps_cut h None m = record { part = refl; slave = refl; flags = refl }
keeps_cut h (Some r) m = record { part = refl; slave = refl; flags = flags_kept h r.command m }

pub keeps : (h : Head) (ev : Event) → Keeps h (heard h ev)
unfolding heard
keeps h (Bit b) = keeps_bit h h.stage b
keeps h Null = keeps_null h (running h.stage) (due h.stage)
keeps h Wait = let k = keeps_null h (running h.stage) (due h.stage) in keeps_finished h (nulled h) k.part k.slave k.flags (running (nulled h).stage)
keeps h Reset = keeps_reset h (running h.stage)
keeps h (Cut m) = keeps_cut h (running h.stage) m

-- ---- the device: what an event asks of the bytes leaves the head alone
pub head_acted : (g : Head) (d : Device) (a : Act) → head_of (acted (joined g d) a) ≡ g
unfolding acted
head_acted g d Nothing = refl
head_acted g d (Put k x) = refl
head_acted g d (Program (Page Main) p t m) = refl
head_acted g d (Program (Page Security) p t m) = refl
head_acted g d (Program Lock p t m) = refl
head_acted g d (Program Check p t m) = refl
head_acted g d (Program Rom p t m) = refl
head_acted g d (Program Freeze p t m) = refl

pub head_after : (d : Device) (ev : Event) → head_of (take_of d ev).device ≡ (heard (head_of d) ev).head
unfolding take_of
head_after d ev = head_acted (heard (head_of d) ev).head d (heard (head_of d) ev).act

pub part_after : (d : Device) (ev : Event) → (take_of d ev).device.part ≡ d.part
part_after d ev = ap (λ (h : Head). h.part) (head_after d ev) ∙ (keeps (head_of d) ev).part

pub slave_after : (d : Device) (ev : Event) → (take_of d ev).device.slave ≡ d.slave
slave_after d ev = ap (λ (h : Head). h.slave) (head_after d ev) ∙ (keeps (head_of d) ev).slave
