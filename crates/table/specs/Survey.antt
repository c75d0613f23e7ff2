-- This promises nothing by itself: it says how one pass over the heads of a table decides, for the contracts of the functions that `judge` calls.
use Rattle.std.specs.Prelude.{ℕ, ◌+◌, ◌%◌, Bool, true, false, List, [], ◌∷◌, eqb, ltb, Option, Some, None}
use Rattle.bits.specs.Words.{pick, both}
use Rattle.chip.specs.declared.Byte.{Byte}
use Rattle.chip.specs.declared.Device.{Device}
use Rattle.chip.specs.declared.Head.{Head}
use Rattle.chip.specs.declared.Stage.{Stage}
use Rattle.chip.specs.declared.Stage.TheVariants.{Standby, Address, Place, Data, Sending, Programming}
use Rattle.chip.specs.Take.{head_of, joined}
use Rattle.image.specs.Layout.{most_records}
use Rattle.image.specs.Image.{blank_device}
use Rattle.wire.specs.Wire.{busy}
use Rattle.table.specs.declared.Survey.{Survey}
use Rattle.table.specs.WellFormed.{good_load, good_device, is_past, is_hearing, is_started, is_programming, same_as}

-- ---- one head
-- a head over no bytes: well-formedness asks nothing of the bytes
abbrev pub bare : Head → Device
bare h = joined h blank_device

-- one more, or none; exact below sixteen
abbrev pub tally : ℕ → ℕ → ℕ
tally n k = n % 16 + k % 2

-- a device and the bits of the first before it that reads its device address, if there is one
unfoldable pub same_with : Option Byte → Stage → Bool
same_with None s = true
same_with (Some b) s = same_as b.count b.bits s

unfoldable pub first_of : Option Byte → Stage → Option Byte
first_of (Some b) s = Some b
first_of None Standby = None
first_of None (Address n x) = Some (record { count = n; bits = x })
first_of None (Place c n x) = None
first_of None (Data c t n x) = None
first_of None (Sending q n) = None
first_of None (Programming c t) = None

-- ---- the pass: before the first, with one more, with all
unfoldable pub unseen : Survey
unseen = record { good = true; least = 0; past = 0; hearing = 0; started = 0; programming = 0; first = None; same = true; busy = false }

unfoldable pub seen : Survey → Head → Survey
seen s h = record {
  good = both s.good (both (good_load s.least (bare h)) (good_device (bare h)));
  least = h.slave % 128 + 1;
  past = tally s.past (is_past h.stage);
  hearing = tally s.hearing (is_hearing h.stage);
  started = tally s.started (is_started h.stage);
  programming = tally s.programming (is_programming h.stage);
  first = first_of s.first h.stage;
  same = both s.same (same_with s.first h.stage);
  busy = pick s.busy true (busy h.stage);
}

unfoldable pub seen_all : Survey → List Device → Survey
seen_all s [] = s
seen_all s (d ∷ ds) = seen_all (seen s (head_of d)) ds

-- ---- what the pass says of a table of so many devices
-- one talks
unfoldable pub talks_of : Survey → ℕ → Bool
talks_of s count =
    pick (eqb s.past 0) s.same
    (both (eqb s.past 1) (pick (eqb s.programming 0) (eqb s.hearing 0) (eqb (s.started + 1) count)))

unfoldable pub well_of : Survey → ℕ → Bool
well_of s count = pick (ltb most_records count) false (both s.good (talks_of s count))
