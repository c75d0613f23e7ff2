-- The stages: which byte is answered, what an answered byte causes, and what a bit frame does. In document 01's order and words.
use Rattle.std.specs.Prelude.{ℕ, ◌+◌, ◌%◌, Bool, true, false, eqb, ltb, Option, Some, None}
use Rattle.bits.specs.Words.{pick, both, is_not}
use Rattle.bits.specs.Bytes.{more_of, opcode_of, slave_of, read_of, main_address, security_address, after_in, next_in, is_lock_byte, is_freeze_byte, zone_of, is_set, is_rom, is_frozen, is_locked, zone_at}
use Rattle.chip.specs.declared.Head.{Head}
use Rattle.chip.specs.declared.Framed.{Framed}
use Rattle.chip.specs.declared.Region.{Region}
use Rattle.chip.specs.declared.Region.TheVariants.{Main, Security}
use Rattle.chip.specs.declared.Command.{Command}
use Rattle.chip.specs.declared.Command.TheVariants.{Page, Lock, Check, Rom, Freeze}
use Rattle.chip.specs.declared.Source.{Source}
use Rattle.chip.specs.declared.Source.TheVariants.{Cells, Id, Register}
use Rattle.chip.specs.declared.Stage.{Stage}
use Rattle.chip.specs.declared.Stage.TheVariants.{Standby, Address, Place, Data, Sending, Programming}
use Rattle.chip.specs.declared.Speed.{Speed}
use Rattle.chip.specs.declared.Speed.TheVariants.{High, Standard}
use Rattle.chip.specs.declared.Opcode.{Opcode}
use Rattle.chip.specs.declared.Opcode.TheVariants.{Access, LockRegister, ZoneRegister, FreezeZones, ManufacturerId, StandardSpeed, HighSpeed, Unknown}
use Rattle.chip.specs.declared.Drive.{Drive}
use Rattle.chip.specs.declared.Drive.TheVariants.{Free, Low, CellBit, IdBit}
use Rattle.chip.specs.declared.Act.TheVariants.{Nothing, Put}
use Rattle.chip.specs.Head.{at, pointing, choosing, paced, framing, silent, answering}

-- ---- "Device address: opcode, three slave address bits, R/W. A wrong address or opcode: not answered."
unfoldable pub named : ℕ → Opcode
named o =
    pick (eqb o 0xA) (Access Main)
    (pick (eqb o 0xB) (Access Security)
    (pick (eqb o 0x2) LockRegister
    (pick (eqb o 0x7) ZoneRegister
    (pick (eqb o 0x1) FreezeZones
    (pick (eqb o 0xC) ManufacturerId
    (pick (eqb o 0xD) StandardSpeed
    (pick (eqb o 0xE) HighSpeed
    Unknown)))))))

abbrev pub is_high : Speed → Bool
is_high High = true
is_high Standard = false

-- the opcode's own rule; the last argument is R/W, true for 1
abbrev pub answers_opcode : Head → Opcode → Bool → Bool
answers_opcode h (Access r) rw = true
answers_opcode h LockRegister rw = true
-- 7h: "with no selector the device address is not answered (house)"
answers_opcode h ZoneRegister true = is_set h.selector
answers_opcode h ZoneRegister false = true
-- 1h: "the device address is answered if not frozen"
answers_opcode h FreezeZones rw = is_not (is_frozen h.flags)
-- Ch: "R/W 1 only, else not answered"
answers_opcode h ManufacturerId rw = rw
-- Dh, Eh: "with 0, sets standard or high speed; with 1, answered if that speed is set"; "Part 11h never answers Dh."
answers_opcode h StandardSpeed rw = both (is_not (eqb h.part 0x11)) (pick rw (is_not (is_high h.speed)) true)
answers_opcode h HighSpeed true = is_high h.speed
answers_opcode h HighSpeed false = true
answers_opcode h Unknown rw = false

abbrev pub answers_address : Head → ℕ → Bool
answers_address h x = both (eqb (slave_of x) h.slave) (answers_opcode h (named (opcode_of x)) (read_of x))

-- "A 1 in R/W reads, except in 2h, 1h, Dh and Eh."
abbrev pub opened : Head → Opcode → Bool → Head
opened h (Access r) true = at h (Sending (Cells r) 0)
opened h (Access r) false = at h (Place (Page r) 0 0)
opened h LockRegister true = at h (Place Check 0 0)
opened h LockRegister false = at h (Place Lock 0 0)
opened h ZoneRegister true = at h (Sending Register 0)
opened h ZoneRegister false = at h (Place Rom 0 0)
-- 1h: "With R/W 1 the command ends there (house)."
opened h FreezeZones true = at h Standby
opened h FreezeZones false = at h (Place Freeze 0 0)
opened h ManufacturerId rw = at h (Sending (Id 0) 0)
-- Dh, Eh: "Both end in standby."
opened h StandardSpeed true = at h Standby
opened h StandardSpeed false = at (paced h Standard) Standby
opened h HighSpeed true = at h Standby
opened h HighSpeed false = at (paced h High) Standby
opened h Unknown rw = at h Standby

abbrev pub caused_by_address : Head → ℕ → Framed
caused_by_address h x = record { head = opened h (named (opcode_of x)) (read_of x); drive = Low; act = Nothing }

-- ---- the address byte of a write
abbrev pub answers_place : Head → Command → ℕ → Bool
-- "Data for a ROM zone, for a locked register or for Security 00h to 0Fh is not answered; the two address bytes are."
answers_place h (Page r) x = true
-- 2h: "the next byte must be 0110 in its high four bits and the register unlocked, else not answered"
answers_place h Lock x = both (is_lock_byte x) (is_not (is_locked h.flags))
answers_place h Check x = both (is_lock_byte x) (is_not (is_locked h.flags))
-- 7h: "it is answered if exactly one of its four low bits is set"
answers_place h Rom x = is_set (zone_of x)
-- 1h: "With R/W 0: 55h, then AAh; any other byte is not answered."
answers_place h Freeze x = is_freeze_byte x

abbrev pub address_in : Region → ℕ → ℕ
address_in Main x = main_address x
address_in Security x = security_address x

abbrev pub caused_by_place : Head → Command → ℕ → Framed
caused_by_place h (Page r) x = answering (pointing h (address_in r x)) (Data (Page r) 0 0 0)
caused_by_place h Lock x = answering h (Data Lock 0 0 0)
caused_by_place h Check x = answering h (Data Check 0 0 0)
-- "and that bit's place becomes the selector"
caused_by_place h Rom x = answering (choosing h (zone_of x)) (Data Rom 0 0 0)
caused_by_place h Freeze x = answering h (Data Freeze 0 0 0)

-- ---- "Reading Ah or Bh: after the eighth bit the pointer becomes one more, mod 128 for Ah, mod 32 for Bh."
abbrev pub after_eighth : Source → ℕ → ℕ
after_eighth (Cells Main) p = after_in 128 p
after_eighth (Cells Security) p = after_in 32 p
after_eighth (Id k) p = p
after_eighth Register p = p

-- "A 0 from the master in the ninth frame asks for the next byte"; Ch: "three ID bytes, each next one asked for as above, then standby"
abbrev pub next_byte : Source → Stage
next_byte (Cells r) = Sending (Cells r) 0
next_byte (Id k) = pick (ltb k 2) (Sending (Id (k + 1)) 0) Standby
next_byte Register = Sending Register 0

-- 7h: "Reading: 00h or FFh, repeated if asked (house)"
abbrev pub register_drive : ℕ → Option ℕ → Drive
register_drive flags None = Free
register_drive flags (Some z) = pick (is_rom flags z) Free Low

-- what frame n of a byte drives
abbrev pub shows : Head → Source → ℕ → Drive
shows h (Cells r) n = CellBit r h.pointer n
shows h (Id k) n = IdBit k n
shows h Register n = register_drive h.flags h.selector

abbrev pub sending_of : Head → Source → ℕ → ℕ → Framed
sending_of h s n b =
    pick (ltb n 7) (framing h (Sending s (n + 1)) (shows h s n) Nothing)
    (pick (eqb n 7) (framing (pointing h (after_eighth s h.pointer)) (Sending s 8) (shows h s n) Nothing)
    (pick (eqb (b % 2) 0) (silent h (next_byte s)) (silent h Standby)))

-- ---- "Writing Ah or Bh: data bytes go to a page of eight, going back to the page's first address at its end"
-- data bytes answered so far, eight at most: a ninth takes the first one's place
abbrev pub one_more : ℕ → ℕ
one_more taken = pick (ltb taken 8) (taken + 1) 8

abbrev pub answers_data : Head → Command → ℕ → ℕ → Bool
-- "Data for a ROM zone, for a locked register or for Security 00h to 0Fh (house for the last) is not answered"
answers_data h (Page Main) taken x = is_not (is_rom h.flags (zone_at h.pointer))
answers_data h (Page Security) taken x = pick (ltb (h.pointer % 32) 16) false (is_not (is_locked h.flags))
-- 2h: "With R/W 0 one data byte, whatever its value, is answered; with R/W 1 none is (house)."
answers_data h Lock taken x = eqb taken 0
answers_data h Check taken x = false
-- 7h: "Writing: one data byte, answered only if FFh and not frozen."
answers_data h Rom taken x = both (eqb taken 0) (both (eqb x 0xFF) (is_not (is_frozen h.flags)))
-- "In 2h, 7h and 1h a second data byte is not answered, and the pointer stays."
answers_data h Freeze taken x = both (eqb taken 0) (eqb x 0xAA)

-- "The pointer moves with each answered byte, inside the page (house)."
abbrev pub caused_by_data : Head → Command → ℕ → ℕ → Framed
caused_by_data h (Page r) taken x = framing (pointing h (next_in 8 h.pointer)) (Data (Page r) (one_more taken) 0 0) Low (Put (h.pointer % 8) x)
caused_by_data h Lock taken x = answering h (Data Lock 1 0 0)
caused_by_data h Check taken x = answering h (Data Check 1 0 0)
caused_by_data h Rom taken x = answering h (Data Rom 1 0 0)
caused_by_data h Freeze taken x = answering h (Data Freeze 1 0 0)

-- ---- a bit frame
-- "the ninth frame is the answer", "A byte not answered puts the device in standby until the next Null or Wait."
abbrev pub ninth : Head → Bool → Framed → Framed
ninth h answered caused = pick answered caused (silent h Standby)

abbrev pub framed : Head → Stage → ℕ → Framed
framed h Standby b = silent h Standby
framed h (Address n x) b = pick (ltb n 8) (silent h (Address (n + 1) (more_of x b))) (ninth h (answers_address h x) (caused_by_address h x))
framed h (Place c n x) b = pick (ltb n 8) (silent h (Place c (n + 1) (more_of x b))) (ninth h (answers_place h c x) (caused_by_place h c x))
framed h (Data c t n x) b = pick (ltb n 8) (silent h (Data c t (n + 1) (more_of x b))) (ninth h (answers_data h c t x) (caused_by_data h c t x))
framed h (Sending s n) b = sending_of h s n b
-- "While a device programs, kinds 0, 1 and 4 are not carried out"
framed h (Programming c t) b = silent h (Programming c t)

-- a device past its device address
abbrev pub past : Stage → Bool
past Standby = false
past (Address n x) = false
past (Place c n x) = true
past (Data c t n x) = true
past (Sending s n) = true
past (Programming c t) = true
