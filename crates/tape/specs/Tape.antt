-- The event file: its faults, in document 01's order, and its events.
use Rattle.std.specs.Prelude.{ℕ, zero, suc, ◌+◌, ◌*◌, ◌-◌, ◌<◌, ◌≤◌, ◌≡◌, Bool, Result, List, [], ◌∷◌, eqb, ltb, length, get_or, take, drop}
use Rattle.bits.specs.Words.{pick, both, is_not}
use Rattle.faults.specs.declared.Fault.{Fault}
use Rattle.faults.specs.declared.Refusal.TheVariants.{EventLength, EventMark, EventKind}
use Rattle.faults.specs.Faults.{Checked, fault, clean, or_else, if_clean, number_in}
use Rattle.chip.specs.declared.Event.{Event}
use Rattle.chip.specs.declared.Event.TheVariants.{Bit, Null, Wait, Reset, Cut}
use Rattle.tape.specs.declared.Read.{Read}

-- ---- "Event file, at most 49,152 bytes: each event is 45h 56h, one kind byte and, for kind 5 only, eight mask bytes, least significant first"
-- Below, `l` is what is left of the file from the event's first byte on; a byte that is not there counts as 0.
abbrev pub longest : ℕ
longest = 49152

abbrev pub mark₀ : ℕ
mark₀ = 0x45

abbrev pub mark₁ : ℕ
mark₁ = 0x56

abbrev pub marked : List ℕ → Bool
marked l = both (eqb (get_or l 0 0) mark₀) (eqb (get_or l 1 0) mark₁)

abbrev pub kind_of : List ℕ → ℕ
kind_of l = get_or l 2 0

abbrev pub size_of : ℕ → ℕ
size_of kind = pick (eqb kind 5) (3 + 8) 3

-- bytes as a number, the least significant first
unfoldable pub least_first : List ℕ → ℕ
least_first [] = 0
least_first (x ∷ l) = x + 256 * least_first l

abbrev pub mask_of : List ℕ → ℕ
mask_of l = least_first (take 8 (drop 3 l))

-- ---- the table of the kinds: "0, 1: bit frame, the master's bit", Null, Wait, Reset, Cut
-- A kind over 5 is fault 10 and is never carried out; so that each byte reads as something, it reads as Null.
unfoldable pub kind_event : ℕ → ℕ → Event
kind_event kind mask =
    pick (ltb kind 2) (Bit kind)
    (pick (eqb kind 2) Null
    (pick (eqb kind 3) Wait
    (pick (eqb kind 4) Reset
    (pick (eqb kind 5) (Cut mask) Null))))

abbrev pub event_of : List ℕ → Event
event_of l = kind_event (kind_of l) (mask_of l)

abbrev pub read_of : List ℕ → Read
read_of l = record { event = event_of l; size = size_of (kind_of l) }

-- ---- "for each: 8 if under three bytes are left, 9, 10, 8 for a missing mask"
-- The place is the first byte of what is at fault: the event, its mark, its kind byte; `at` is the event's.
unfoldable pub event_fault : ℕ → List ℕ → Checked
event_fault at l =
    pick (ltb (length l) 3) (fault EventLength at)
    (pick (is_not (marked l)) (fault EventMark at)
    (pick (ltb 5 (kind_of l)) (fault EventKind (at + 2))
    (pick (ltb (length l) (size_of (kind_of l))) (fault EventLength at) clean)))

-- event by event; `skip` bytes still belong to the event before
unfoldable pub fault_from : ℕ → ℕ → List ℕ → Checked
fault_from at skip [] = clean
fault_from at zero (x ∷ l) = or_else (event_fault at (x ∷ l)) (fault_from (at + 1) (size_of (kind_of (x ∷ l)) - 1) l)
fault_from at (suc skip) (x ∷ l) = fault_from (at + 1) skip l

unfoldable pub events_from : ℕ → List ℕ → List Event
events_from skip [] = []
events_from zero (x ∷ l) = event_of (x ∷ l) ∷ events_from (size_of (kind_of (x ∷ l)) - 1) l
events_from (suc skip) (x ∷ l) = events_from skip l

-- "Then events: 8 for length, then for each"
unfoldable pub tape_fault : List ℕ → Checked
tape_fault l = pick (ltb longest (length l)) (fault EventLength 0) (fault_from 0 0 l)

abbrev pub events_of : List ℕ → List Event
events_of l = events_from 0 l

-- "Each returns its number": the first fault, or the number of events
unfoldable pub scan_of : List ℕ → Result ℕ Fault
scan_of l = if_clean (tape_fault l) (length (events_of l))

-- ---- an event without a fault and without a mask
abbrev pub plain : List ℕ → Bool
plain l = both (ltb 2 (length l)) (both (marked l) (ltb (kind_of l) 5))

-- ---- a stretch of k events without a fault and without a mask, from byte `at` of the file on
pub record Plain (s : List ℕ) (at k : ℕ) : Type 0 where
  pub inside : at + 3 * k ≤ length s
  pub sound : (i : ℕ) → i < k → number_in (event_fault (at + 3 * i) (drop (at + 3 * i) s)) ≡ 0
  pub short : (i : ℕ) → i < k → size_of (get_or s (at + 3 * i + 2) 0) ≡ 3
