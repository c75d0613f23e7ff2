-- Null, Wait, Reset and Cut: how a cycle begins and ends.
use Rattle.std.specs.Prelude.{ℕ, ◌%◌, eqb, Option, Some, None}
use Rattle.bits.specs.Words.{pick}
use Rattle.bits.specs.Bytes.{with_flag, mask_byte}
use Rattle.chip.specs.declared.Head.{Head}
use Rattle.chip.specs.declared.Framed.{Framed}
use Rattle.chip.specs.declared.Command.{Command}
use Rattle.chip.specs.declared.Command.TheVariants.{Page, Lock, Check, Rom, Freeze}
use Rattle.chip.specs.declared.Stage.{Stage}
use Rattle.chip.specs.declared.Stage.TheVariants.{Standby, Address, Place, Data, Sending, Programming}
use Rattle.chip.specs.declared.Speed.TheVariants.{High}
use Rattle.chip.specs.declared.Cycle.{Cycle}
use Rattle.chip.specs.declared.Drive.TheVariants.{Free, Low}
use Rattle.chip.specs.declared.Act.TheVariants.{Nothing, Program}
use Rattle.chip.specs.declared.Event.{Event}
use Rattle.chip.specs.declared.Event.TheVariants.{Bit, Null, Wait, Reset, Cut}
use Rattle.chip.specs.Head.{at, pointing, choosing, paced, flagging, framing, silent}
use Rattle.chip.specs.Stages.{framed}

abbrev pub cycle : Command → ℕ → Option Cycle
cycle c t = Some (record { command = c; taken = t })

-- the cycle that runs, if one does
abbrev pub running : Stage → Option Cycle
running Standby = None
running (Address n x) = None
running (Place c n x) = None
running (Data c t n x) = None
running (Sending s n) = None
running (Programming c t) = cycle c t

-- "A Null or Wait straight after the ninth frame of an answered data byte starts the cycle."
abbrev pub due : Stage → Option Cycle
due Standby = None
due (Address n x) = None
due (Place c n x) = None
due (Data c t n x) = pick (eqb n 0) (pick (eqb t 0) None (cycle c t)) None
due (Sending s n) = None
due (Programming c t) = None

-- "Straight after the memory or zone byte's ninth frame it is a repeated start. Elsewhere it drops what was gathered. After any of these a device
-- that does not program waits for its device address." "Null then changes nothing in that device"
abbrev pub null_of : Head → Option Cycle → Option Cycle → Head
null_of h (Some r) d = h
null_of h None (Some d) = at h (Programming d.command d.taken)
null_of h None None = at h (Address 0 0)

abbrev pub nulled : Head → Head
nulled h = null_of h (running h.stage) (due h.stage)

-- "A one-way bit becomes set if the lowest bit of mask byte 0 is 1; one already set stays set."
abbrev pub one_way : ℕ → ℕ → ℕ → ℕ
one_way flags place mask = pick (eqb (mask_byte mask 0 % 2) 1) (with_flag flags place) flags

abbrev pub rom_bit : ℕ → Option ℕ → ℕ → ℕ
rom_bit flags None mask = flags
rom_bit flags (Some z) mask = one_way flags (z % 4) mask

-- the flags after a cycle; those of a page write stay
abbrev pub flags_after : Head → Command → ℕ → ℕ
flags_after h (Page r) mask = h.flags
flags_after h Lock mask = one_way h.flags 5 mask
flags_after h Check mask = h.flags
flags_after h Rom mask = rom_bit h.flags h.selector mask
flags_after h Freeze mask = one_way h.flags 4 mask

-- all 64 bits: a cycle that ends by itself takes every new bit
abbrev pub whole : ℕ
whole = 18446744073709551615

-- "Wait finishes the cycle and leaves all devices started."
abbrev pub finished : Head → Option Cycle → Framed
finished h None = silent h h.stage
finished h (Some r) = framing (flagging h (flags_after h r.command whole)) (Address 0 0) Free (Program r.command h.pointer r.taken whole)

-- "After load, Reset or Cut: pointer 00h, high speed, no zone selector, and bits are ignored until a Null or Wait."
abbrev pub restarted : Head → Head
restarted h = at (choosing (paced (pointing h 0) High) None) Standby

-- a device that hears a reset answers it; one that programs does not ("kinds 0, 1 and 4 are not carried out")
abbrev pub reset_of : Head → Option Cycle → Framed
reset_of h None = record { head = restarted h; drive = Low; act = Nothing }
reset_of h (Some r) = silent h h.stage

-- "Mixture at a Cut while programming"
abbrev pub cut_of : Head → Option Cycle → ℕ → Framed
cut_of h None mask = record { head = restarted h; drive = Low; act = Nothing }
cut_of h (Some r) mask = record { head = restarted (flagging h (flags_after h r.command mask)); drive = Low; act = Program r.command h.pointer r.taken mask }

-- what an event does to a head
unfoldable pub heard : Head → Event → Framed
heard h (Bit b) = framed h h.stage b
heard h Null = record { head = nulled h; drive = Free; act = Nothing }
heard h Wait = finished (nulled h) (running (nulled h).stage)
heard h Reset = reset_of h (running h.stage)
heard h (Cut mask) = cut_of h (running h.stage) mask
