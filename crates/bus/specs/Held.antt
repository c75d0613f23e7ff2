-- How a run holds the devices: heads in an array, gathered pages in another, the other bytes in the bus file itself. What its functions do to these; nothing of
-- this is promised to a caller.
use Rattle.std.specs.Prelude.{ℕ, ◌+◌, ◌*◌, ◌^◌, ◌%◌, ◌<◌, ◌≤◌, ◌≡◌, Bool, false, ◌||◌, List, [], ◌++◌, Option, Some, None, eqb, ltb, length, get_or, set, take, drop}
use Rattle.bits.specs.Words.{pick, is_not}
use Rattle.bits.specs.Bytes.{bit_at, more_of, slave_of}
use Rattle.chip.specs.declared.Speed.TheVariants.{High}
use Rattle.chip.specs.declared.Head.{Head}
use Rattle.chip.specs.declared.Stage.{Stage}
use Rattle.chip.specs.declared.Stage.TheVariants.{Standby, Address, Place, Data, Sending, Programming}
use Rattle.chip.specs.declared.Region.{Region}
use Rattle.chip.specs.declared.Region.TheVariants.{Main, Security}
use Rattle.chip.specs.declared.Command.{Command}
use Rattle.chip.specs.declared.Command.TheVariants.{Page, Lock, Check, Rom, Freeze}
use Rattle.chip.specs.declared.Drive.{Drive}
use Rattle.chip.specs.declared.Drive.TheVariants.{Free, Low, CellBit, IdBit}
use Rattle.chip.specs.declared.Act.{Act}
use Rattle.chip.specs.declared.Act.TheVariants.{Nothing, Put, Program}
use Rattle.chip.specs.declared.Event.{Event}
use Rattle.chip.specs.declared.Event.TheVariants.{Bit, Null, Wait, Reset, Cut}
use Rattle.chip.specs.declared.Framed.{Framed}
use Rattle.chip.specs.Cycle.{heard}
use Rattle.chip.specs.Head.{at}
use Rattle.chip.specs.Stages.{shows, sending_of, past}
use Rattle.chip.specs.Memory.{burnt_to, page_base}
use Rattle.tape.specs.Tape.{events_of}
use Rattle.tape.specs.Promises.{NoFault}
use Rattle.image.specs.Layout.{record_size, id_at, flags_at, main_at, main_size, serial_at, user_at, user_size}
use Rattle.wire.specs.Wire.{busy, masters_level, pulled}
use Rattle.std.specs.declared.ops.Range.{Range}
use Rattle.chip.specs.declared.Byte.{Byte}
use Rattle.bus.specs.declared.Progress.{Progress}

-- ---- who hears an event
-- At most one device is past its device address; it talks, and every other device is in the one stage `others`: standby, or reading its device address. So a run
-- keeps that stage once, and plays an event only on the devices that it does more to than to move them from `others` to `others_after`.

-- the number of a device; past every index where there is none
abbrev pub number : Option ℕ → ℕ
number None = 2 ^ 64
number (Some k) = k

abbrev pub standing : ℕ → Stage → ℕ → Head → Head
standing talker others k h = pick (eqb k talker) h (at h others)

abbrev pub bit_after : Stage → ℕ → Stage
bit_after Standby b = Standby
bit_after (Address n x) b = pick (ltb n 8) (Address (n + 1) (more_of x b)) Standby
bit_after (Place c n x) b = Place c n x
bit_after (Data c t n x) b = Data c t n x
bit_after (Sending s n) b = Sending s n
bit_after (Programming c t) b = Programming c t

abbrev pub others_after : Event → Stage → Stage
others_after (Bit b) s = bit_after s b
others_after Null s = Address 0 0
others_after Wait s = Address 0 0
others_after Reset s = Standby
others_after (Cut m) s = Standby

-- the ninth frame of the device address is due, and the slave address that it calls
abbrev pub ninth_due : Stage → Bool
ninth_due Standby = false
ninth_due (Address n x) = is_not (ltb n 8)
ninth_due (Place c n x) = false
ninth_due (Data c t n x) = false
ninth_due (Sending s n) = false
ninth_due (Programming c t) = false

abbrev pub called : Stage → ℕ
called Standby = 0
called (Address n x) = slave_of x
called (Place c n x) = 0
called (Data c t n x) = 0
called (Sending s n) = 0
called (Programming c t) = 0

abbrev pub span : ℕ → ℕ → Range ℕ
span from to = record { start = from; end = to }

abbrev pub one_of : ℕ → ℕ → Range ℕ
one_of t count = pick (ltb t count) (span t (t + 1)) (span 0 0)

-- the devices that an event is played on: the one that talks, the one that is called, all
abbrev pub span_in : Event → Stage → ℕ → ℕ → ℕ → Range ℕ
span_in (Bit b) others talker named count = pick (ninth_due others) (one_of named count) (one_of talker count)
span_in Null others talker named count = one_of talker count
span_in Wait others talker named count = one_of talker count
span_in Reset others talker named count = span 0 count
span_in (Cut m) others talker named count = span 0 count

unfoldable pub span_of : Event → Bool → Stage → ℕ → ℕ → ℕ → Range ℕ
span_of ev barred others talker named count = pick barred (span 0 0) (span_in ev others talker named count)

-- what an index past the end of the heads reads
abbrev pub blank_head : Head
blank_head = record { part = 0; slave = 0; flags = 0; pointer = 0; speed = High; selector = None; stage = Standby }

-- the slave addresses of heads are below 8, and no two are the same
pub record Differ (heads : List Head) : Type 0 where
  pub low : (k : ℕ) → k < length heads → (get_or heads k blank_head).slave < 8
  pub apart : (i k : ℕ) → i < k → k < length heads → (get_or heads i blank_head).slave ≡ (get_or heads k blank_head).slave → ⊥

-- `who` says where each slave address of heads stands
pub record NamedIn (heads : List Head) (who : List (Option ℕ)) : Type 0 where
  pub long : length who ≡ 8
  pub named : Differ heads → (k : ℕ) → k < length heads → get_or who (get_or heads k blank_head).slave None ≡ Some k

-- ---- what it answers
-- where a region's cell stands in its record
abbrev pub cell_at : Region → ℕ → ℕ
cell_at Main p = main_at + p % 128
cell_at Security p = serial_at + p % 32

-- the byte whose bits a drive shows, by the record that begins at `from`; all ones where the wire is left free
unfoldable pub shown_in : List ℕ → ℕ → Drive → ℕ
shown_in bus from Free = 255
shown_in bus from Low = 0
shown_in bus from (CellBit r p n) = get_or bus (from + cell_at r p) 0
shown_in bus from (IdBit k n) = get_or bus (from + id_at + k % 3) 0

-- the level of a drive, by the byte whose bits it shows
abbrev pub level_by : Drive → ℕ → ℕ
level_by Free x = 1
level_by Low x = 0
level_by (CellBit r p n) x = bit_at x n
level_by (IdBit k n) x = bit_at x n

abbrev pub level_in : List ℕ → ℕ → Drive → ℕ
level_in bus from v = level_by v (shown_in bus from v)

-- ---- frames that only move a byte on
-- A byte under way is how many of its bits came or went, and their value. The frames before its ninth change nothing else, but for the pointer after the eighth bit of
-- a byte that is put out; so a run plays them together.
abbrev pub byte : ℕ → ℕ → Byte
byte n x = record { count = n; bits = x }

-- the byte with one bit more
abbrev pub longer : Byte → ℕ → Byte
longer b bit = byte (b.count + 1) (more_of b.bits bit)

-- the byte of a stage: standby takes any frame, a cycle none
abbrev pub byte_of : Stage → Byte
byte_of Standby = byte 0 0
byte_of (Address n x) = byte n x
byte_of (Place c n x) = byte n x
byte_of (Data c t n x) = byte n x
byte_of (Sending s n) = byte n 0
byte_of (Programming c t) = byte 8 0

-- the stage with another byte
abbrev pub resumed : Stage → Byte → Stage
resumed Standby b = Standby
resumed (Address n x) b = Address b.count b.bits
resumed (Place c n x) b = Place c b.count b.bits
resumed (Data c t n x) b = Data c t b.count b.bits
resumed (Sending s n) b = Sending s b.count
resumed (Programming c t) b = Programming c t

-- "after the eighth bit the pointer becomes one more"
abbrev pub pointed : Head → Stage → ℕ → Head
pointed h Standby k = h
pointed h (Address n x) k = h
pointed h (Place c n x) k = h
pointed h (Data c t n x) k = h
pointed h (Sending s n) k = pick (ltb n 8) (pick (eqb k 8) (sending_of h s 7 0).head h) h
pointed h (Programming c t) k = h

abbrev pub glided : Head → Byte → Head
glided h b = at (pointed h h.stage b.count) (resumed h.stage b)

-- what a stage puts out
abbrev pub driven : Head → Stage → Drive
driven h Standby = Free
driven h (Address n x) = Free
driven h (Place c n x) = Free
driven h (Data c t n x) = Free
driven h (Sending s n) = shows h s 0
driven h (Programming c t) = Free

-- how far a run has come: the place in the event file, the number of answers
abbrev pub progress : ℕ → ℕ → Progress
progress at answered = record { at = at; answered = answered }

-- no fault from that place on, and room for the answers
pub record Room (tape : List ℕ) (p : Progress) (room : ℕ) : Type 0 where
  pub sound : NoFault p.at (drop p.at tape)
  pub left : p.answered + length (events_of (drop p.at tape)) ≤ room

-- bit frames, one after the other: how far they go, the byte, the answers
pub data Frames (tape : List ℕ) (shown : ℕ) (p₀ : Progress) (b₀ : Byte) (answers₀ : List ℕ) : Progress → Byte → List ℕ → Type 0 where
  none : Frames tape shown p₀ b₀ answers₀ p₀ b₀ answers₀
  more : {p : Progress} {b : Byte} {answers : List ℕ} → Frames tape shown p₀ b₀ answers₀ p b answers → b.count < 8 → p.at + 3 ≤ length tape → get_or tape (p.at + 2) 0 < 2
      → Frames tape shown p₀ b₀ answers₀ (progress (p.at + 3) (p.answered + 1)) (longer b (get_or tape (p.at + 2) 0))
      (set answers p.answered (pulled (bit_at shown b.count) (get_or tape (p.at + 2) 0)))

-- frames of the byte of the device that talks, or of the one that all others hear
pub data Glides (count : ℕ) (bus tape : List ℕ) (talker : ℕ) (p : Progress) (others : Stage) (hs : List Head) (answers : List ℕ) : Progress → Stage → List Head → List ℕ → Type 0 where
  own : {p' : Progress} {b : Byte} {answers' : List ℕ} → talker < count
      → Frames tape (shown_in bus (record_size * talker) (driven (get_or hs talker blank_head) (get_or hs talker blank_head).stage)) p (byte_of (get_or hs talker blank_head).stage) answers p' b answers'
      → Glides count bus tape talker p others hs answers p' others (set hs talker (glided (get_or hs talker blank_head) b)) answers'
  apart : {p' : Progress} {b : Byte} {answers' : List ℕ} → count ≤ talker → Frames tape 255 p (byte_of others) answers p' b answers'
      → Glides count bus tape talker p others hs answers p' (resumed others b) hs answers'

-- device j's page
abbrev pub page_in : List (List ℕ) → ℕ → List ℕ
page_in pages j = get_or pages j []

-- a cycle on the cells of a region: `size` bytes of the file from `at` on
unfoldable pub burnt_in : List ℕ → ℕ → ℕ → List ℕ → ℕ → ℕ → ℕ → List ℕ
burnt_in bus at size page p taken mask = take at bus ++ (burnt_to 8 (take size (drop at bus)) (page_base size p) page p taken mask ++ drop size (drop at bus))

-- the end of a cycle on the record that begins at `from`; `flags` are the device's after it
unfoldable pub programmed_in : List ℕ → ℕ → ℕ → List ℕ → Command → ℕ → ℕ → ℕ → List ℕ
programmed_in bus from flags page (Page Main) p taken mask = burnt_in bus (from + main_at) main_size page p taken mask
programmed_in bus from flags page (Page Security) p taken mask = burnt_in bus (from + user_at) user_size page p taken mask
programmed_in bus from flags page Lock p taken mask = set bus (from + flags_at) flags
programmed_in bus from flags page Check p taken mask = set bus (from + flags_at) flags
programmed_in bus from flags page Rom p taken mask = set bus (from + flags_at) flags
programmed_in bus from flags page Freeze p taken mask = set bus (from + flags_at) flags

-- what an act does to the file, to the device's page, and to the pages
unfoldable pub acted_in : List ℕ → ℕ → ℕ → List ℕ → Act → List ℕ
acted_in bus from flags page Nothing = bus
acted_in bus from flags page (Put k x) = bus
acted_in bus from flags page (Program c p taken mask) = programmed_in bus from flags page c p taken mask

unfoldable pub put_to : List ℕ → Act → List ℕ
put_to page Nothing = page
put_to page (Put k x) = set page (k % 8) x
put_to page (Program c p taken mask) = page

abbrev pub put_in : List (List ℕ) → ℕ → Act → List (List ℕ)
put_in pages j a = set pages j (put_to (page_in pages j) a)

-- ---- a pass over devices
-- The devices from one on have had an event, each in its turn: which is next, the heads, pages and file then, the wire's level, who talks, whether one programs.
pub data Played (ev : Event) (talker : ℕ) (others : Stage) (from : ℕ) (hs₀ : List Head) (pages₀ : List (List ℕ)) (bus₀ : List ℕ) : ℕ → List Head → List (List ℕ) → List ℕ → ℕ → ℕ → Bool → Type 0 where
  unplayed : Played ev talker others from hs₀ pages₀ bus₀ from hs₀ pages₀ bus₀ (masters_level ev) (number None) false
  played : {j : ℕ} {hs : List Head} {pages : List (List ℕ)} {bus : List ℕ} {low next : ℕ} {b : Bool} {f : Framed} → Played ev talker others from hs₀ pages₀ bus₀ j hs pages bus low next b
      → f ≡ heard (standing talker others j (get_or hs j blank_head)) ev
      → Played ev talker others from hs₀ pages₀ bus₀ (j + 1) (set hs j f.head) (put_in pages j f.act) (acted_in bus (record_size * j) f.head.flags (page_in pages j) f.act)
      (pulled (level_in bus (record_size * j) f.drive) low) (pick (past f.head.stage) j next) (b || busy f.head.stage)
