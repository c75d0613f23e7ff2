-- What follows from the reading's definitions alone, and what its demand says of one event more.
use Rattle.std.specs.Prelude.{ℕ, ◌+◌, ◌*◌, ◌/◌, ◌%◌, ◌≤◌, ◌<◌, ◌≡◌, Bool, List, [], ◌∷◌, ◌++◌, map, length, get_or, Option, Some, None}
use Rattle.bits.specs.Bytes.{bit_at}
use Rattle.chip.specs.declared.Device.{Device}
use Rattle.chip.specs.declared.Event.{Event}
use Rattle.chip.specs.declared.Event.TheVariants.{Null, Wait}
use Rattle.wire.specs.Wire.{last_of}
use Rattle.reading.specs.Stretch.{stretch_of, before, bytes_of}
use Rattle.reading.specs.Grammar.{Stored, Deed, sentence}
use Rattle.reading.specs.Cycles.{Ending, by_wait, Begun, Reading, cells_of, replaced, mixed, changed, effect, now, is_some, any_runs, begins, or_else, all_on, reading_of}
use Rattle.reading.specs.Demand.{stored_of, programs, readings_of}

-- the nine frames of a byte: its bits, the most significant first, and the answer's; then what follows
abbrev pub frames_of : ℕ → ℕ → List ℕ → List ℕ
frames_of x answer rest = bit_at x 0 ∷ bit_at x 1 ∷ bit_at x 2 ∷ bit_at x 3 ∷ bit_at x 4 ∷ bit_at x 5 ∷ bit_at x 6 ∷ bit_at x 7 ∷ answer ∷ rest

-- where byte n of a write goes: the page of its first byte's address, going round in it
abbrev pub address_of : ℕ → ℕ → ℕ
address_of start n = start / 8 * 8 + (start % 8 + n) % 8

-- what is stored once a cycle, if there is one, has ended
abbrev pub ended_by : Ending → Option Begun → Stored → Stored
ended_by e None s = s
ended_by e (Some b) s = effect s b.deed e

pub record Laws : Type 0 where
  -- nine frames are one byte, whatever the ninth is
  pub nine_frames : (x answer : ℕ) (rest : List ℕ) → x < 256 → bytes_of (frames_of x answer rest) ≡ before x (bytes_of rest)
  -- a bit too many or too few, and nothing begins
  pub torn : (s : Stored) (bits : List ℕ) → (length bits % 9 ≡ 0 → ⊥) → sentence s bits ≡ None
  -- a region of so many pages: the cell that byte n went to holds it, if none of the later ones went there (they do every eight bytes)
  pub last_byte : (pages start : ℕ) (old bytes : List ℕ) (n : ℕ) → n < length bytes → length bytes ≤ n + 8 → address_of start n % (pages * 8) < length old
      → get_or (changed replaced (pages * 8) old (cells_of start bytes)) (address_of start n % (pages * 8)) 0 ≡ get_or bytes n 0
  -- at a Cut: of the same byte the bits under the mask, the rest of the old byte
  pub last_mixed : (mask pages start : ℕ) (old bytes : List ℕ) (n : ℕ) → n < length bytes → length bytes ≤ n + 8 → address_of start n % (pages * 8) < length old
      → get_or (changed (mixed mask) (pages * 8) old (cells_of start bytes)) (address_of start n % (pages * 8)) 0
      ≡ mixed mask (address_of start n) (get_or old (address_of start n % (pages * 8)) 0) (get_or bytes n 0)
  -- "Other cells .. keep their stored bytes", by a Wait as by a Cut
  pub other_cells : (how : ℕ → ℕ → ℕ → ℕ) (size start : ℕ) (old bytes : List ℕ) (i : ℕ) → ((n : ℕ) → n < length bytes → address_of start n % size ≡ i → ⊥)
      → get_or (changed how size old (cells_of start bytes)) i 0 ≡ get_or old i 0
  -- a stretch is a sentence for devices of one slave address only
  pub one_slave : (s s' : Stored) (bits : List ℕ) (d d' : Deed) → sentence s bits ≡ Some d → sentence s' bits ≡ Some d' → s.slave ≡ s'.slave
  -- so two devices that begin at one event were loaded with the same slave address
  pub one_begins : (n : ℕ) (busy : Bool) (stretch : Option (List ℕ)) (r r' : Reading) (b b' : Begun)
      → begins n busy stretch (now r) ≡ Some b → begins n busy stretch (now r') ≡ Some b' → r.loaded.slave ≡ r'.loaded.slave
  -- one event more: it is read by the stretch of the events before it and the cycles that run then
  pub next_event : (ss : List Stored) (past : List Event) (ev : Event)
      → reading_of ss (past ++ (ev ∷ [])) ≡ all_on (length past) (any_runs (reading_of ss past)) (stretch_of past) ev (reading_of ss past)

-- the cycle of a device after a Null or Wait: the one that ran before it, or what its stretch begins
abbrev pub cycle_then : List Event → List Reading → Reading → Option Begun
cycle_then past rs r = or_else r.running (begins (length past) (any_runs rs) (stretch_of past) (now r))

-- the model at a Null and at a Wait, by the reading of the events before it
pub record NextStart (ds : List Device) (past : List Event) : Type 0 where
  -- a device programs after a Null exactly if it did before, or begins there
  pub at_null : map programs (last_of ds (past ++ (Null ∷ []))) ≡ map (λ r. is_some (cycle_then past (readings_of ds past) r)) (readings_of ds past)
  -- after a Wait a device stores what its cycle, running or begun there, leaves in full; without one, what it stored before
  pub at_wait : map stored_of (last_of ds (past ++ (Wait ∷ [])))
      ≡ map (λ r. ended_by (by_wait (length past)) (cycle_then past (readings_of ds past) r) (now r)) (readings_of ds past)
