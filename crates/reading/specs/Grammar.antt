-- The writing grammar: which bytes are a sentence for a device, and what they ask of it.
use Rattle.std.specs.Prelude.{ℕ, ◌/◌, Bool, false, List, [], ◌∷◌, eqb, ltb, Option, Some, None}
use Rattle.bits.specs.Words.{pick, both, is_not}
use Rattle.bits.specs.Bytes.{opcode_of, slave_of, read_of, main_address, security_address, zone_of, has_flag}
use Rattle.chip.specs.declared.Region.{Region}
use Rattle.chip.specs.declared.Region.TheVariants.{Main, Security}
use Rattle.chip.specs.declared.Opcode.{Opcode}
use Rattle.chip.specs.declared.Opcode.TheVariants.{Access, LockRegister, ZoneRegister, FreezeZones, ManufacturerId, StandardSpeed, HighSpeed, Unknown}
use Rattle.chip.specs.Stages.{named}
use Rattle.reading.specs.Stretch.{bytes_of}

-- what a bus file stores of a device
pub record Stored : Type 0 where
  pub part : ℕ
  pub slave : ℕ
  pub id : List ℕ
  pub flags : ℕ
  pub main : List ℕ
  pub serial : List ℕ
  pub user : List ℕ

-- a page write: the region, the address of its first byte, and its bytes
pub record Write : Type 0 where
  pub region : Region
  pub start : ℕ
  pub bytes : List ℕ

-- what a sentence asks for: a page write (Ah, Bh), the Security Register locked (2h), a zone made ROM (7h), the zones frozen (1h)
pub data Deed : Type 0 where
  page : Write → Deed
  locks : Deed
  makes_rom : ℕ → Deed
  freezes : Deed

-- ---- "Permissions are the ROM, frozen and locked bits."
-- "bits 0 to 3: zones 0 to 3 are ROM; 4: zones frozen; 5: Security Register locked"; "Zone z is main addresses 32z to 32z+31."
abbrev pub rom_at : Stored → ℕ → Bool
rom_at s address = has_flag s.flags (address / 32)

abbrev pub frozen : Stored → Bool
frozen s = has_flag s.flags 4

abbrev pub locked : Stored → Bool
locked s = has_flag s.flags 5

-- "Data for a ROM zone, for a locked register or for Security 00h to 0Fh (house for the last) is not answered"
abbrev pub permits : Stored → Region → ℕ → Bool
permits s Main address = is_not (rom_at s address)
permits s Security address = pick (ltb address 0x10) false (is_not (locked s))

-- ---- "Ah: memory address bit 7 is ignored and bits 6 to 0 load the pointer. Bh: bits 7 to 5 are ignored and the pointer becomes the low five."
abbrev pub start_in : Region → ℕ → ℕ
start_in Main a = main_address a
start_in Security a = security_address a

-- ---- the bytes after the device address byte: "address byte; data bytes"
-- "Ah and Bh: one or more data bytes"
unfoldable pub write_of : Stored → Region → List ℕ → Option Deed
write_of s r [] = None
write_of s r (a ∷ []) = None
write_of s r (a ∷ x ∷ xs) = pick (permits s r (start_in r a)) (Some (page (record { region = r; start = start_in r a; bytes = x ∷ xs }))) None

-- "2h, 7h, 1h: one"
unfoldable pub pair_of : (ℕ → ℕ → Option Deed) → List ℕ → Option Deed
pair_of rule [] = None
pair_of rule (a ∷ []) = None
pair_of rule (a ∷ x ∷ []) = rule a x
pair_of rule (a ∷ x ∷ y ∷ ys) = None

-- 2h: "the next byte must be 0110 in its high four bits and the register unlocked"; "one data byte, whatever its value, is answered"
abbrev pub lock_of : Stored → ℕ → ℕ → Option Deed
lock_of s a x = pick (both (eqb (a / 16) 6) (is_not (locked s))) (Some locks) None

-- 7h: "answered if exactly one of its four low bits is set, and that bit's place becomes the selector"; "one data byte, answered only if FFh and not
-- frozen. A zone that is already ROM stays so, with a cycle."
abbrev pub rom_of : Stored → Option ℕ → ℕ → Option Deed
rom_of s None x = None
rom_of s (Some z) x = pick (both (eqb x 0xFF) (is_not (frozen s))) (Some (makes_rom z)) None

-- 1h: "the device address is answered if not frozen. With R/W 0: 55h, then AAh; any other byte is not answered."
abbrev pub freeze_of : Stored → ℕ → ℕ → Option Deed
freeze_of s a x = pick (both (is_not (frozen s)) (both (eqb a 0x55) (eqb x 0xAA))) (Some freezes) None

abbrev pub deed_of : Stored → Opcode → List ℕ → Option Deed
deed_of s (Access r) xs = write_of s r xs
deed_of s LockRegister xs = pair_of (lock_of s) xs
deed_of s ZoneRegister xs = pair_of (λ a x. rom_of s (zone_of a) x) xs
deed_of s FreezeZones xs = pair_of (freeze_of s) xs
deed_of s ManufacturerId xs = None
deed_of s StandardSpeed xs = None
deed_of s HighSpeed xs = None
deed_of s Unknown xs = None

-- ---- "A sentence is: device address byte with R/W 0 and the device's address; address byte; data bytes"
unfoldable pub sentence_of : Stored → List ℕ → Option Deed
sentence_of s [] = None
sentence_of s (x ∷ xs) = pick (both (eqb (slave_of x) s.slave) (is_not (read_of x))) (deed_of s (named (opcode_of x)) xs) None

abbrev pub in_bytes : Stored → Option (List ℕ) → Option Deed
in_bytes s None = None
in_bytes s (Some xs) = sentence_of s xs

-- what the bits of a stretch ask of a device; none if they form no sentence for it, or its permissions do not allow it
unfoldable pub sentence : Stored → List ℕ → Option Deed
sentence s bits = in_bytes s (bytes_of bits)
