-- Heads, pages and the bus file hold a list of devices: what they tell of one of them, and how a turn of one changes them.
use Rattle.std.specs.Prelude.{None}
use Prim.Native.Nat.{ℕ, zero, suc, ◌+◌, ◌*◌, ◌%◌, ◌<◌, ◌≤◌}
use native.Mathlib.Omega.{arith}
use native.Mathlib.Nat.{not-suc-le-zero, le_of_suc-le-suc}
use mathlib.Core.Path.{◌≡◌, refl, sym, ap, ◌∙◌}
use mathlib.Core.List.{List, [], ◌∷◌, ◌++◌, append_assoc, append-nil}
use lib.ListN.{length, get_or, set, take, drop, length-append, length-set}
use lib.Seq.{get_or-set_same, get_or-set_other}
use mathlib.Core.Logic.{inl, inr}
use borrow.Rule.Slice.PartMut.{put_mid}
use Rattle.std.proofs.lemmas.Bool.{cases_eq}
use Rattle.bits.specs.Bytes.{bit_at}
use Rattle.chip.specs.declared.Device.{Device}
use Rattle.chip.specs.declared.Head.{Head}
use Rattle.chip.specs.declared.Speed.TheVariants.{High}
use Rattle.chip.specs.declared.Stage.TheVariants.{Standby}
use Rattle.chip.specs.declared.Region.TheVariants.{Main, Security}
use Rattle.chip.specs.declared.Command.TheVariants.{Page, Lock, Check, Rom, Freeze}
use Rattle.chip.specs.declared.Drive.{Drive}
use Rattle.chip.specs.declared.Drive.TheVariants.{Free, Low, CellBit, IdBit}
use Rattle.chip.specs.declared.Act.{Act}
use Rattle.chip.specs.declared.Act.TheVariants.{Nothing, Put, Program}
use Rattle.chip.specs.declared.Event.{Event}
use Rattle.chip.specs.Cycle.{heard}
use Rattle.chip.specs.Memory.{level_of, page_base, acted}
use Rattle.chip.specs.Take.{head_of, joined, take_of}
use Rattle.chip.specs.Kept.{FlagsAfter}
use Rattle.chip.proofs.KeptLaws.{keeps}
use Rattle.chip.proofs.PageLaws.{burns}
use Rattle.faults.proofs.Chunks.{flat, flat_split, flat_set, Pieces, before, part_is, part_put, part_at, part_set}
use Rattle.image.specs.Layout.{record_size, id_at, flags_at, main_at, main_size, serial_at, user_at, user_size, reserved}
use Rattle.image.specs.Image.{record_of, saved_of}
use Rattle.image.specs.Promises.{Sized}
use Rattle.image.specs.InPlace.{InPlace}
use Rattle.bus.specs.Held.{shown_in, level_in, page_in, burnt_in, programmed_in, acted_in, put_to, put_in}

-- what an index past the end of a list of devices reads
abbrev pub blank : Device
blank = record {
  part = 0;
  slave = 0;
  id = [];
  flags = 0;
  main = [];
  serial = [];
  user = [];
  pointer = 0;
  speed = High;
  selector = None;
  page = [];
  stage = Standby;
}

-- a device whose arrays have their lengths, the page's too
pub record Fits (d : Device) : Type 0 where
  pub sized : Sized d
  pub page : length d.page ≡ 8

pub data AllFit : List Device → Type 0 where
  none : AllFit []
  more : {d : Device} {ds : List Device} → Fits d → AllFit ds → AllFit (d ∷ ds)

pub record Held (n : ℕ) (ds : List Device) (pages : List (List ℕ)) (bus : List ℕ) : Type 0 where
  pub count : length ds ≡ n
  pub room : n ≤ length pages
  pub paged : (k : ℕ) → k < n → page_in pages k ≡ (get_or ds k blank).page
  pub bytes : bus ≡ flat record_of ds
  pub fit : AllFit ds

-- ---- lists of devices that fit
pub fit_at : (ds : List Device) (j : ℕ) (d₀ : Device) → j < length ds → AllFit ds → Fits (get_or ds j d₀)
fit_at [] j d₀ h a = absurd (not-suc-le-zero h)
fit_at (d ∷ ds) zero d₀ h (more f a) = f
fit_at (d ∷ ds) (suc j) d₀ h (more f a) = fit_at ds j d₀ (le_of_suc-le-suc h) a

pub fit_set : (ds : List Device) (j : ℕ) (e : Device) → Fits e → AllFit ds → AllFit (set ds j e)
fit_set [] j e x a = none
fit_set (d ∷ ds) zero e x (more f a) = more x a
fit_set (d ∷ ds) (suc j) e x (more f a) = more f (fit_set ds j e x a)

record_length : (d : Device) → Sized d → length (record_of d) ≡ record_size
unfolding record_of
record_length d s = simp (length-append, s.id, s.main, s.serial, s.user)

pub record_pieces : (ds : List Device) → AllFit ds → Pieces record_of record_size ds
record_pieces [] none = Pieces.none
record_pieces (d ∷ ds) (more f a) = Pieces.more (record_length d f.sized) (record_pieces ds a)

pub saved_flat : (ds : List Device) → saved_of ds ≡ flat record_of ds
unfolding saved_of
saved_flat [] = refl
saved_flat (d ∷ ds) = ap (λ (l : List ℕ). record_of d ++ l) (saved_flat ds)

-- ---- a part of a record: as many bytes as m, after those of a
module _ (ds : List Device) (j : ℕ) (d₀ : Device) (h : j < length ds) (fit : AllFit ds) (a m b : List ℕ) (n k : ℕ) (la : length a ≡ n) (lm : length m ≡ k)
    (r : record_of (get_or ds j d₀) ≡ a ++ (m ++ b)) where
  abbrev front : List ℕ
  front = flat record_of (take j ds)

  abbrev behind : List ℕ
  behind = flat record_of (drop (suc j) ds)

  front_length : length (front ++ a) ≡ record_size * j + n
  front_length = length-append front a ∙ rw (before record_of record_size ds j h (record_pieces ds fit), la) refl

  apart : flat record_of ds ≡ (front ++ a) ++ (m ++ (b ++ behind))
  apart = flat_split record_of ds j d₀ h ∙ rw (r) (simp append_assoc)

  pub piece_is : take k (drop (record_size * j + n) (flat record_of ds)) ≡ m
  piece_is = rw (apart) (part_is (front ++ a) m (b ++ behind) (record_size * j + n) k front_length lm)

  pub piece_at : (i : ℕ) → i < k → get_or (flat record_of ds) (record_size * j + n + i) 0 ≡ get_or m i 0
  piece_at i q = rw (apart) (part_at (front ++ a) m (b ++ behind) (record_size * j + n) k front_length lm i q)

  module _ (e : Device) (m' : List ℕ) (r' : record_of e ≡ a ++ (m' ++ b)) where
    together : (front ++ a) ++ (m' ++ (b ++ behind)) ≡ flat record_of (set ds j e)
    together = sym (flat_set record_of ds j e h ∙ rw (r') (simp append_assoc))

    pub piece_put : put_mid (record_size * j + n) k (flat record_of ds) m' ≡ flat record_of (set ds j e)
    piece_put = rw (apart) (part_put (front ++ a) m (b ++ behind) (record_size * j + n) k front_length lm m') ∙ together

    pub piece_set : (i x : ℕ) → i < k → m' ≡ set m i x → set (flat record_of ds) (record_size * j + n + i) x ≡ flat record_of (set ds j e)
    piece_set i x q w =
        ap (λ (l : List ℕ). set l (record_size * j + n + i) x) apart
        ∙ part_set (front ++ a) m (b ++ behind) (record_size * j + n) k front_length lm i x q
        ∙ ap (λ (l : List ℕ). (front ++ a) ++ (l ++ (b ++ behind))) (sym w)
        ∙ together

-- ---- the fields of a record as such parts
regroup : (a m s r u : List ℕ) → a ++ (m ++ (s ++ (r ++ u))) ≡ (a ++ (m ++ (s ++ r))) ++ (u ++ [])
regroup a m s r u = simp (append_assoc, append-nil)

module _ (d : Device) (s : Sized d) where
  abbrev to_flags : List ℕ
  to_flags = 0x53 ∷ 0x57 ∷ d.part ∷ d.slave ∷ d.id

  abbrev from_main : List ℕ
  from_main = d.main ++ (d.serial ++ (reserved ++ d.user))

  abbrev to_main : List ℕ
  to_main = to_flags ++ (d.flags ∷ [])

  abbrev to_user : List ℕ
  to_user = to_main ++ (d.main ++ (d.serial ++ reserved))

  at_flags : record_of d ≡ to_flags ++ ((d.flags ∷ []) ++ from_main)
  unfolding record_of
  at_flags = refl

  at_main : record_of d ≡ to_main ++ (d.main ++ (d.serial ++ (reserved ++ d.user)))
  at_main = at_flags ∙ sym (append_assoc to_flags (d.flags ∷ []) from_main)

  at_user : record_of d ≡ to_user ++ (d.user ++ [])
  at_user = at_main ∙ regroup to_main d.main d.serial reserved d.user

  flags_length : length to_flags ≡ flags_at
  flags_length = simp s.id

  main_length : length to_main ≡ main_at
  main_length = simp (length-append, s.id)

  user_length : length to_user ≡ user_at
  user_length = simp (length-append, s.id, s.main, s.serial)

-- ---- what the file tells of device j
module _ (ds : List Device) (j : ℕ) (h : j < length ds) (fit : AllFit ds) (back : InPlace) where
  abbrev this : Device
  this = get_or ds j blank

  its : Sized this
  its = (fit_at ds j blank h fit).sized

  record_at_lem : (i : ℕ) → i < record_size → get_or (flat record_of ds) (record_size * j + i) 0 ≡ get_or (record_of this) i 0
  record_at_lem i q =
      ap (λ (k : ℕ). get_or (flat record_of ds) k 0) (omega arith)
      ∙ piece_at ds j blank h fit [] (record_of this) [] 0 record_size refl (record_length this its) (sym (append-nil (record_of this))) i q

  pub level_held : (v : Drive) → level_in (flat record_of ds) (record_size * j) v ≡ level_of this v
  unfolding shown_in level_of
  level_held Free = refl
  level_held Low = refl
  level_held (CellBit Main p n) = ap (λ (x : ℕ). bit_at x n) (record_at_lem (main_at + p % 128) (omega arith) ∙ back.main_read this its (p % 128) (omega arith))
  level_held (CellBit Security p n) = ap (λ (x : ℕ). bit_at x n) (record_at_lem (serial_at + p % 32) (omega arith) ∙ back.security_read this its (p % 32) (omega arith))
  level_held (IdBit k n) =
      ap (λ (x : ℕ). bit_at x n)
      (ap (λ (i : ℕ). get_or (flat record_of ds) i 0) (omega arith) ∙ record_at_lem (id_at + k % 3) (omega arith) ∙ back.id_read this its (k % 3) (omega arith))

-- ---- a turn: device j becomes e
-- a list whose one element changes in a way that its piece does not see
flat_same : (f : Device → List ℕ) (ds : List Device) (j : ℕ) (e : Device) → j < length ds → f e ≡ f (get_or ds j blank) → flat f (set ds j e) ≡ flat f ds
flat_same f ds j e h q = flat_set f ds j e h ∙ rw q (sym (flat_split f ds j blank h))

-- what an act leaves of a device: its page, its lengths
page_acted : (g : Head) (d : Device) (a : Act) → put_to d.page a ≡ (acted (joined g d) a).page
unfolding acted put_to
page_acted g d Nothing = refl
page_acted g d (Put k x) = refl
page_acted g d (Program (Page Main) p t m) = refl
page_acted g d (Program (Page Security) p t m) = refl
page_acted g d (Program Lock p t m) = refl
page_acted g d (Program Check p t m) = refl
page_acted g d (Program Rom p t m) = refl
page_acted g d (Program Freeze p t m) = refl

fits_acted : (g : Head) (d : Device) (a : Act) → Fits d → Fits (acted (joined g d) a)
unfolding acted
fits_acted g d Nothing f = record { sized = record { id = f.sized.id; main = f.sized.main; serial = f.sized.serial; user = f.sized.user }; page = f.page }
fits_acted g d (Put k x) f =
    record { sized = record { id = f.sized.id; main = f.sized.main; serial = f.sized.serial; user = f.sized.user }; page = length-set d.page (k % 8) x ∙ f.page }
fits_acted g d (Program (Page Main) p t m) f =
    record {
      sized = record { id = f.sized.id; main = (burns d.main (page_base main_size p) d.page p t m).long ∙ f.sized.main; serial = f.sized.serial; user = f.sized.user };
      page = f.page;
    }
fits_acted g d (Program (Page Security) p t m) f =
    record {
      sized = record { id = f.sized.id; main = f.sized.main; serial = f.sized.serial; user = (burns d.user (page_base user_size p) d.page p t m).long ∙ f.sized.user };
      page = f.page;
    }
fits_acted g d (Program Lock p t m) f = record { sized = record { id = f.sized.id; main = f.sized.main; serial = f.sized.serial; user = f.sized.user }; page = f.page }
fits_acted g d (Program Check p t m) f = record { sized = record { id = f.sized.id; main = f.sized.main; serial = f.sized.serial; user = f.sized.user }; page = f.page }
fits_acted g d (Program Rom p t m) f = record { sized = record { id = f.sized.id; main = f.sized.main; serial = f.sized.serial; user = f.sized.user }; page = f.page }
fits_acted g d (Program Freeze p t m) f = record { sized = record { id = f.sized.id; main = f.sized.main; serial = f.sized.serial; user = f.sized.user }; page = f.page }

module _ (ds : List Device) (j : ℕ) (h : j < length ds) (fit : AllFit ds) (g : Head) where
  abbrev that : Device
  that = get_or ds j blank

  own : Sized that
  own = (fit_at ds j blank h fit).sized

  module _ (p : g.part ≡ that.part) (s : g.slave ≡ that.slave) where
    -- only the head changed
    record_same : g.flags ≡ that.flags → flat record_of (set ds j (joined g that)) ≡ flat record_of ds
    unfolding record_of
    record_same f = flat_same record_of ds j (joined g that) h (rw (p, s, f) refl)

    main_put : (f : g.flags ≡ that.flags) (q t m : ℕ)
        → burnt_in (flat record_of ds) (record_size * j + main_at) main_size that.page q t m ≡ flat record_of (set ds j (acted (joined g that) (Program (Page Main) q t m)))
    unfolding burnt_in acted
    main_put f q t m =
        let e = acted (joined g that) (Program (Page Main) q t m) in
        let own' = (fits_acted g that (Program (Page Main) q t m) (fit_at ds j blank h fit)).sized in
        rw (piece_is ds j blank h fit (to_main that own) that.main (that.serial ++ (reserved ++ that.user)) main_at main_size (main_length that own) own.main (at_main that own))
        (piece_put ds j blank h fit (to_main that own) that.main (that.serial ++ (reserved ++ that.user)) main_at main_size (main_length that own) own.main (at_main that own)
        e e.main (at_main e own' ∙ rw (p, s, f) refl))

    user_put : (f : g.flags ≡ that.flags) (q t m : ℕ)
        → burnt_in (flat record_of ds) (record_size * j + user_at) user_size that.page q t m ≡ flat record_of (set ds j (acted (joined g that) (Program (Page Security) q t m)))
    unfolding burnt_in acted
    user_put f q t m =
        let e = acted (joined g that) (Program (Page Security) q t m) in
        let own' = (fits_acted g that (Program (Page Security) q t m) (fit_at ds j blank h fit)).sized in
        rw (piece_is ds j blank h fit (to_user that own) that.user [] user_at user_size (user_length that own) own.user (at_user that own))
        (piece_put ds j blank h fit (to_user that own) that.user [] user_at user_size (user_length that own) own.user (at_user that own)
        e e.user (at_user e own' ∙ rw (p, s, f) refl))

    flags_put : set (flat record_of ds) (record_size * j + flags_at) g.flags ≡ flat record_of (set ds j (joined g that))
    flags_put =
        let own' : Sized (joined g that) = record { id = own.id; main = own.main; serial = own.serial; user = own.user } in
        ap (λ (i : ℕ). set (flat record_of ds) i g.flags) (omega arith)
        ∙ piece_set ds j blank h fit (to_flags that own) (that.flags ∷ []) (from_main that own) flags_at 1 (flags_length that own) refl (at_flags that own)
        (joined g that) (g.flags ∷ []) (at_flags (joined g that) own' ∙ rw (p, s) refl) 0 g.flags (omega arith) refl

    file_turn : (a : Act) → FlagsAfter that.flags g.flags a
        → acted_in (flat record_of ds) (record_size * j) g.flags that.page a ≡ flat record_of (set ds j (acted (joined g that) a))
    unfolding acted_in programmed_in acted record_of
    file_turn Nothing f = sym (record_same f)
    file_turn (Put k x) f = sym (flat_same record_of ds j _ h (rw (p, s, f) refl))
    file_turn (Program (Page Main) q t m) f = main_put f q t m
    file_turn (Program (Page Security) q t m) f = user_put f q t m
    file_turn (Program Lock q t m) f = flags_put
    file_turn (Program Check q t m) f = flags_put
    file_turn (Program Rom q t m) f = flags_put
    file_turn (Program Freeze q t m) f = flags_put

-- ---- the pages: device j becomes e
module _ (ds : List Device) (j k : ℕ) (e : Device) (h : j < length ds) where
  page_set : (pages : List (List ℕ)) (page : List ℕ) → j < length pages → page ≡ e.page → page_in pages k ≡ (get_or ds k blank).page
      → page_in (set pages j page) k ≡ (get_or (set ds j e) k blank).page
  page_set pages page l q p = elim (cases_eq k j) [
    | inl z ↦ rw (z, get_or-set_same pages j page [] l, get_or-set_same ds j e blank h) q
    | inr z ↦ rw (get_or-set_other pages j k page [] z, get_or-set_other ds j k e blank z) p
  ]

  page_same : e.page ≡ (get_or ds j blank).page → (get_or ds k blank).page ≡ (get_or (set ds j e) k blank).page
  page_same q = elim (cases_eq k j) [
    | inl z ↦ rw (z, get_or-set_same ds j e blank h) (sym q)
    | inr z ↦ rw (get_or-set_other ds j k e blank z) refl
  ]

-- device j takes an event
module _ (n : ℕ) (ds : List Device) (pages : List (List ℕ)) (bus : List ℕ) (held : Held n ds pages bus) (j : ℕ) (small : j < n) where
  abbrev now : Device
  now = get_or ds j blank

  within : j < length ds
  within = omega (arith, held.count)

  pub level_turn : InPlace → (v : Drive) → level_in bus (record_size * j) v ≡ level_of now v
  level_turn back v = rw held.bytes (level_held ds j within held.fit back v)

  pub turn : (ev : Event)
      → Held n (set ds j (take_of now ev).device) (put_in pages j (heard (head_of now) ev).act)
      (acted_in bus (record_size * j) (heard (head_of now) ev).head.flags (page_in pages j) (heard (head_of now) ev).act)
  unfolding take_of
  turn ev =
      let f = heard (head_of now) ev in
      let x = keeps (head_of now) ev in
      record {
        count = length-set ds j (take_of now ev).device ∙ held.count;
        room = rw (length-set pages j) held.room;
        paged = λ k h.
            let own : put_to (page_in pages j) f.act ≡ (take_of now ev).device.page = rw (held.paged j small) (page_acted f.head now f.act) in
            page_set ds j k (take_of now ev).device within pages _ (omega (arith, held.room)) own (held.paged k h);
        bytes = rw (held.paged j small, held.bytes)
            (file_turn ds j within held.fit f.head x.part x.slave f.act x.flags);
        fit = fit_set ds j (take_of now ev).device (fits_acted f.head now f.act (fit_at ds j blank within held.fit)) held.fit;
      }

  -- device j gets another stage, and nothing else changes
  pub restage : (g : Head) → g.part ≡ now.part → g.slave ≡ now.slave → g.flags ≡ now.flags → Held n (set ds j (joined g now)) pages bus
  restage g p s f =
      let ok = fit_at ds j blank within held.fit in
      record {
        count = length-set ds j (joined g now) ∙ held.count;
        room = held.room;
        paged = λ k h. held.paged k h ∙ page_same ds j k (joined g now) within refl;
        bytes = held.bytes ∙ sym (record_same ds j within held.fit g p s f);
        fit = fit_set ds j (joined g now) (record { sized = record { id = ok.sized.id; main = ok.sized.main; serial = ok.sized.serial; user = ok.sized.user }; page = ok.page }) held.fit;
      }
