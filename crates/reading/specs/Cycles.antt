-- The cycles of a list of events: which begin and how they end, and what they leave stored.
use Rattle.std.specs.Prelude.{ℕ, suc, ◌+◌, ◌*◌, ◌/◌, ◌%◌, Bool, true, false, List, [], ◌∷◌, ◌++◌, map, eqb, get_or, set, Option, Some, None}
use Rattle.bits.specs.Words.{pick}
use Rattle.bits.specs.Bytes.{with_flag, mask_byte, merged}
use Rattle.chip.specs.declared.Region.{Region}
use Rattle.chip.specs.declared.Region.TheVariants.{Main, Security}
use Rattle.chip.specs.declared.Event.{Event}
use Rattle.chip.specs.declared.Event.TheVariants.{Bit, Null, Wait, Reset, Cut}
use Rattle.reading.specs.Stretch.{stretch_after}
use Rattle.reading.specs.Grammar.{Stored, Write, Deed, page, locks, makes_rom, freezes, sentence}

-- ---- how a cycle ends: by Wait number n, by Cut number n with its mask, or not yet
pub data Ending : Type 0 where
  by_wait : ℕ → Ending
  by_cut : ℕ → ℕ → Ending
  runs : Ending

-- a cycle of a device: the number of the Null or Wait that begins it (events count from 0), what it does, and how it ends
pub record Cycle : Type 0 where
  pub begin : ℕ
  pub deed : Deed
  pub ended : Ending

-- ---- "data bytes go to a page of eight, going back to the page's first address at its end"
pub record Cell : Type 0 where
  pub address : ℕ
  pub value : ℕ

abbrev pub next_in_page : ℕ → ℕ
next_in_page address = address / 8 * 8 + (address % 8 + 1) % 8

unfoldable pub cells_of : ℕ → List ℕ → List Cell
cells_of address [] = []
cells_of address (x ∷ xs) = record { address = address; value = x } ∷ cells_of (next_in_page address) xs

-- ---- what becomes of the byte at an address
-- in full: it is the new one
abbrev pub replaced : ℕ → ℕ → ℕ → ℕ
replaced address old new = new

-- mixture: "the cell takes the new byte's bits where the mask has ones, and keeps its old bits elsewhere; the mask byte is number (address mod 8),
-- counted from the least significant"
abbrev pub mixed : ℕ → ℕ → ℕ → ℕ → ℕ
mixed mask address old new = merged old new (mask_byte mask address)

-- the stored bytes of a region after its cells are changed one after the other: "a later byte replaces an earlier one"; the byte of an address is
-- number (address mod size): main 00h to 7Fh are 0 to 127, Security 10h to 1Fh are user bytes 0 to 15
unfoldable pub changed : (ℕ → ℕ → ℕ → ℕ) → ℕ → List ℕ → List Cell → List ℕ
changed how size bytes [] = bytes
changed how size bytes (c ∷ cs) =
    let i = c.address % size in
    changed how size (set bytes i (how c.address (get_or bytes i 0) c.value)) cs

abbrev pub size_of : Region → ℕ
size_of Main = 128
size_of Security = 16

abbrev pub bytes_in : Stored → Region → List ℕ
bytes_in s Main = s.main
bytes_in s Security = s.user

abbrev pub with_bytes : Stored → Region → List ℕ → Stored
with_bytes s Main l = record { part = s.part; slave = s.slave; id = s.id; flags = s.flags; main = l; serial = s.serial; user = s.user }
with_bytes s Security l = record { part = s.part; slave = s.slave; id = s.id; flags = s.flags; main = s.main; serial = s.serial; user = l }

abbrev pub written : (ℕ → ℕ → ℕ → ℕ) → Stored → Write → Stored
written how s w = with_bytes s w.region (changed how (size_of w.region) (bytes_in s w.region) (cells_of w.start w.bytes))

-- ---- the one-way bits, by their places in the flags
abbrev pub with_flags : Stored → ℕ → Stored
with_flags s f = record { part = s.part; slave = s.slave; id = s.id; flags = f; main = s.main; serial = s.serial; user = s.user }

abbrev pub flagged : Stored → ℕ → Stored
flagged s place = with_flags s (with_flag s.flags place)

-- "A one-way bit becomes set if the lowest bit of mask byte 0 is 1; one already set stays set."
abbrev pub flagged_by : ℕ → Stored → ℕ → Stored
flagged_by mask s place = pick (eqb (mask_byte mask 0 % 2) 1) (flagged s place) s

-- ---- "in full where a Wait ended the cycle, by the mixture rule where a Cut did, not yet where it still runs"
abbrev pub in_full : Stored → Deed → Stored
in_full s (page w) = written replaced s w
in_full s locks = flagged s 5
in_full s (makes_rom z) = flagged s z
in_full s freezes = flagged s 4

abbrev pub by_mixture : ℕ → Stored → Deed → Stored
by_mixture mask s (page w) = written (mixed mask) s w
by_mixture mask s locks = flagged_by mask s 5
by_mixture mask s (makes_rom z) = flagged_by mask s z
by_mixture mask s freezes = flagged_by mask s 4

abbrev pub effect : Stored → Deed → Ending → Stored
effect s d (by_wait n) = in_full s d
effect s d (by_cut n mask) = by_mixture mask s d
effect s d runs = s

-- "its loaded value changed by these cycles only, in their order"
unfoldable pub after_all : Stored → List Cycle → Stored
after_all s [] = s
after_all s (c ∷ cs) = after_all (effect s c.deed c.ended) cs

-- ---- a device as the reading knows it: what was loaded, the cycles that ended, and the one that runs
pub record Begun : Type 0 where
  pub begin : ℕ
  pub deed : Deed

pub record Reading : Type 0 where
  pub loaded : Stored
  pub done : List Cycle
  pub running : Option Begun

-- what is stored now: permissions "loaded or set by earlier cycles" are its flags
abbrev pub now : Reading → Stored
now r = after_all r.loaded r.done

abbrev pub is_some : Option Begun → Bool
is_some None = false
is_some (Some b) = true

abbrev pub is_running : Reading → Bool
is_running r = is_some r.running

-- a cycle runs on the wire
unfoldable pub any_runs : List Reading → Bool
any_runs [] = false
any_runs (r ∷ rs) = pick (is_running r) true (any_runs rs)

-- ---- a Null or Wait, number n
abbrev pub begin_at : ℕ → Option Deed → Option Begun
begin_at n None = None
begin_at n (Some d) = Some (record { begin = n; deed = d })

-- what begins there: with "no cycle running on the wire", what the stretch asks for
abbrev pub begins : ℕ → Bool → Option (List ℕ) → Stored → Option Begun
begins n true stretch s = None
begins n false None s = None
begins n false (Some bits) s = begin_at n (sentence s bits)

abbrev pub or_else : Option Begun → Option Begun → Option Begun
or_else (Some b) next = Some b
or_else None next = next

-- "Null then changes nothing in that device"
abbrev pub nulled : ℕ → Bool → Option (List ℕ) → Reading → Reading
nulled n busy stretch r = record { loaded = r.loaded; done = r.done; running = or_else r.running (begins n busy stretch (now r)) }

-- ---- the end of the cycle that runs, if one does
abbrev pub closing : Option Begun → Ending → List Cycle
closing None e = []
closing (Some b) e = record { begin = b.begin; deed = b.deed; ended = e } ∷ []

abbrev pub closed : Ending → Reading → Reading
closed e r = record { loaded = r.loaded; done = r.done ++ closing r.running e; running = None }

-- ---- event number n for one device: "Wait: a Null, then high until any cycle ends"
unfoldable pub read_on : ℕ → Bool → Option (List ℕ) → Event → Reading → Reading
read_on n busy stretch (Bit b) r = r
read_on n busy stretch Null r = nulled n busy stretch r
read_on n busy stretch Wait r = closed (by_wait n) (nulled n busy stretch r)
read_on n busy stretch Reset r = r
read_on n busy stretch (Cut mask) r = closed (by_cut n mask) r

-- ---- all devices on the wire
-- "While a device programs, kinds 0, 1 and 4 are not carried out: .. nothing changes, and the run goes on."
abbrev pub not_carried_out : Event → Bool → Bool
not_carried_out (Bit b) busy = busy
not_carried_out Null busy = false
not_carried_out Wait busy = false
not_carried_out Reset busy = busy
not_carried_out (Cut mask) busy = false

abbrev pub all_on : ℕ → Bool → Option (List ℕ) → Event → List Reading → List Reading
all_on n busy stretch ev rs = pick (not_carried_out ev busy) rs (map (read_on n busy stretch ev) rs)

unfoldable pub read_from : ℕ → Option (List ℕ) → List Reading → List Event → List Reading
read_from n stretch rs [] = rs
read_from n stretch rs (ev ∷ evs) = read_from (suc n) (stretch_after stretch ev) (all_on n (any_runs rs) stretch ev rs) evs

abbrev pub fresh : Stored → Reading
fresh s = record { loaded = s; done = []; running = None }

-- the reading of an event list on loaded devices
abbrev pub reading_of : List Stored → List Event → List Reading
reading_of ss evs = read_from 0 None (map fresh ss) evs

-- a device's cycles in their order; one that still runs is the last
abbrev pub cycles_of : Reading → List Cycle
cycles_of r = r.done ++ closing r.running runs

abbrev pub stored_at_end : List Reading → List Stored
stored_at_end rs = map (λ r. after_all r.loaded (cycles_of r)) rs
