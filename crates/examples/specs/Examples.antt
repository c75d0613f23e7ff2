-- "Checked examples. The following are shown of the definitions, as a single list under a single statement". Proved in proofs/Checked.antt, by computation.
use Rattle.std.specs.Prelude.{ℕ, ◌+◌, ◌*◌, ◌^◌, ◌≡◌, Some, List, [], ◌∷◌, ◌++◌, get_or, replicate, length, drop}
use Rattle.bits.specs.Bytes.{bit_at}
use Rattle.chip.specs.declared.Device.{Device}
use Rattle.chip.specs.declared.Event.{Event}
use Rattle.chip.specs.declared.Event.TheVariants.{Bit, Null, Wait, Reset, Cut}
use Rattle.image.specs.Image.{at_load}
use Rattle.wire.specs.Wire.{last_of, answers_of}

-- ---- an AT21CS11 at slave address 0 as it is loaded: flags f, main bytes all m, serial number A0h 01h .. 07h, user bytes FFh
abbrev pub loaded : ℕ → ℕ → Device
loaded f m = at_load 0x11 0 (0x00 ∷ 0xD3 ∷ 0x80 ∷ []) f (replicate 128 m) (0xA0 ∷ 1 ∷ 2 ∷ 3 ∷ 4 ∷ 5 ∷ 6 ∷ 7 ∷ []) (replicate 16 0xFF)

abbrev pub one : List Device
one = loaded 0 0xFF ∷ []

-- ---- what the master sends
abbrev pub seven : ℕ → List Event
seven x = Bit (bit_at x 0) ∷ Bit (bit_at x 1) ∷ Bit (bit_at x 2) ∷ Bit (bit_at x 3) ∷ Bit (bit_at x 4) ∷ Bit (bit_at x 5) ∷ Bit (bit_at x 6) ∷ []

abbrev pub eight : ℕ → List Event
eight x = seven x ++ (Bit (bit_at x 7) ∷ [])

-- a byte and its ninth frame; bytes, one after the other; a Null and then bytes
abbrev pub byte : ℕ → List Event
byte x = eight x ++ (Bit 1 ∷ [])

abbrev pub bytes : List ℕ → List Event
bytes [] = []
bytes (x ∷ xs) = byte x ++ bytes xs

abbrev pub start : List ℕ → List Event
start xs = Null ∷ bytes xs

-- ---- what is seen: the answer to the last of some events, and a main cell after them
abbrev pub last_answer : List Device → List Event → ℕ
last_answer ds evs = get_or (drop (length evs) (0xEE ∷ answers_of ds evs)) 0 0xEE

abbrev pub cell : List Device → List Event → ℕ → ℕ
cell ds evs k = get_or (get_or (last_of ds evs) 0 (loaded 0 0)).main k 0xEE

-- frames read from a device, as a number
abbrev pub read : List ℕ → ℕ
read [] = 0
read (b ∷ bs) = b * 2 ^ length bs + read bs

pub record Examples : Type 0 where
  -- 1. "Empty bus: R gives 05h, bit 1 gives 01h."
  pub empty_bus : answers_of [] (Reset ∷ Bit 1 ∷ []) ≡ 0x05 ∷ 0x01 ∷ []
  -- 2. "Device 0, after N: A0h answered; A2h not."
  pub answered : last_answer one (start (0xA0 ∷ [])) ≡ 0
  pub not_answered : last_answer one (start (0xA2 ∷ [])) ≡ 1
  -- 3. "11h 22h 33h at 06h: cells 06h, 07h, 00h."
  pub rolls_6 : cell one (start (0xA0 ∷ 0x06 ∷ 0x11 ∷ 0x22 ∷ 0x33 ∷ []) ++ (Wait ∷ [])) 0x06 ≡ 0x11
  pub rolls_7 : cell one (start (0xA0 ∷ 0x06 ∷ 0x11 ∷ 0x22 ∷ 0x33 ∷ []) ++ (Wait ∷ [])) 0x07 ≡ 0x22
  pub rolls_0 : cell one (start (0xA0 ∷ 0x06 ∷ 0x11 ∷ 0x22 ∷ 0x33 ∷ []) ++ (Wait ∷ [])) 0x00 ≡ 0x33
  pub rolls_8 : cell one (start (0xA0 ∷ 0x06 ∷ 0x11 ∷ 0x22 ∷ 0x33 ∷ []) ++ (Wait ∷ [])) 0x08 ≡ 0xFF
  -- 4. "Nine bytes at 10h: cell 10h has the ninth."
  pub ninth_byte : cell one (start (0xA0 ∷ 0x10 ∷ 1 ∷ 2 ∷ 3 ∷ 4 ∷ 5 ∷ 6 ∷ 7 ∷ 8 ∷ 9 ∷ []) ++ (Wait ∷ [])) 0x10 ≡ 9
  -- 5. "Address 86h is cell 06h."
  pub bit_seven : cell one (start (0xA0 ∷ 0x86 ∷ 0x5C ∷ []) ++ (Wait ∷ [])) 0x06 ≡ 0x5C
  -- 6. "Null after seven data bits: no cycle."
  pub after_seven : cell one (start (0xA0 ∷ 0x06 ∷ []) ++ (seven 0x5C ++ (Null ∷ Wait ∷ []))) 0x06 ≡ 0xFF
  -- 7. "Null after eight data bits, before the ninth frame: no cycle."
  pub after_eight : cell one (start (0xA0 ∷ 0x06 ∷ []) ++ (eight 0x5C ++ (Null ∷ Wait ∷ []))) 0x06 ≡ 0xFF
  -- 8. "Bit while programming: 80h."
  pub programming : last_answer one (start (0xA0 ∷ 0x06 ∷ 0x5C ∷ []) ++ (Null ∷ Bit 1 ∷ [])) ≡ 0x80
  -- 9. "Cut, old F0h, new 3Ch, mask byte 0Fh: FCh."
  pub mixture : cell (loaded 0 0xF0 ∷ []) (start (0xA0 ∷ 0x00 ∷ 0x3C ∷ []) ++ (Null ∷ Cut 0x0F ∷ [])) 0x00 ≡ 0xFC
  -- 10. "Zone byte 03h not answered; F4h selects zone 2."
  pub two_zones : last_answer one (start (0x70 ∷ 0x03 ∷ [])) ≡ 1
  pub zone_two : (get_or (last_of one (start (0x70 ∷ 0xF4 ∷ []))) 0 (loaded 0 0)).selector ≡ Some 2
  -- 11. "Pointer 45h, then a Bh read: Security 05h."
  pub one_pointer : read (drop 29 (answers_of one (start (0xA0 ∷ 0x45 ∷ []) ++ (start (0xB1 ∷ []) ++ eight 0xFF)))) ≡ 5
  -- 12. "Zone 0 ROM: data at 1Fh not answered, at 20h answered."
  pub rom_zone : last_answer (loaded 0x01 0xFF ∷ []) (start (0xA0 ∷ 0x1F ∷ 0x5C ∷ [])) ≡ 1
  pub next_zone : last_answer (loaded 0x01 0xFF ∷ []) (start (0xA0 ∷ 0x20 ∷ 0x5C ∷ [])) ≡ 0
