-- A device after the bits of a stretch: they leave what is stored alone, nine of them are one byte, and bits left over make no cycle due.
use Prim.Native.Nat.{ℕ, ◌+◌, ◌%◌, ◌<◌}
use native.Mathlib.Omega.{arith}
use mathlib.Core.Path.{◌≡◌, refl, sym, ap, subst, ◌∙◌}
use mathlib.Core.Bool.{Bool, true, false}
use mathlib.Core.List.{List, [], ◌∷◌, ◌++◌}
use Rattle.std.specs.Prelude.{None}
use borrow.Author.Tests.{lt-ltb, ne_eqb}
use lib.Dec.{eqb, ltb}
use lib.ListN.{length, length-set}
use Rattle.bits.specs.Bytes.{more_of, opcode_of, read_of}
use Rattle.chip.specs.declared.Device.{Device}
use Rattle.chip.specs.declared.Head.{Head}
use Rattle.chip.specs.declared.Framed.{Framed}
use Rattle.chip.specs.declared.Event.TheVariants.{Bit}
use Rattle.chip.specs.declared.Command.{Command}
use Rattle.chip.specs.declared.Command.TheVariants.{Page, Lock, Check, Rom, Freeze}
use Rattle.chip.specs.declared.Source.{Source}
use Rattle.chip.specs.declared.Source.TheVariants.{Cells, Id, Register}
use Rattle.chip.specs.declared.Stage.{Stage}
use Rattle.chip.specs.declared.Stage.TheVariants.{Standby, Address, Place, Data, Sending, Programming}
use Rattle.chip.specs.declared.Opcode.{Opcode}
use Rattle.chip.specs.declared.Opcode.TheVariants.{Access, LockRegister, ZoneRegister, FreezeZones, ManufacturerId, StandardSpeed, HighSpeed, Unknown}
use Rattle.chip.specs.declared.Drive.TheVariants.{Low}
use Rattle.chip.specs.declared.Act.{Act}
use Rattle.chip.specs.declared.Act.TheVariants.{Nothing, Put, Program}
use Rattle.chip.specs.Head.{at, silent}
use Rattle.chip.specs.Stages.{named, answers_address, opened, answers_place, caused_by_place, answers_data, caused_by_data, next_byte, framed}
use Rattle.chip.specs.Cycle.{running, due, heard}
use Rattle.chip.specs.Memory.{acted}
use Rattle.chip.specs.Take.{head_of, joined, take_of}
use Rattle.bits.proofs.Choices.{choice}
use Rattle.reading.specs.Stretch.{byte_of, bytes_of}
use Rattle.reading.specs.Demand.{stored_of}

-- ---- a frame carried out on a device, a bit, and the bits of a stretch
abbrev pub staged : Device → Stage → Device
staged d s = joined (at (head_of d) s) d

abbrev pub carried : Device → Framed → Device
carried d f = acted (joined f.head d) f.act

abbrev pub bit_to : Device → ℕ → Device
bit_to d b = carried d (framed (head_of d) d.stage b)

unfoldable pub bits_to : Device → List ℕ → Device
bits_to d [] = d
bits_to d (b ∷ bs) = bits_to (bit_to d b) bs

pub take_bit : (d : Device) (b : ℕ) → (take_of d (Bit b)).device ≡ bit_to d b
unfolding take_of heard
take_bit d b = refl

pub bits_snoc : (d : Device) (bs : List ℕ) (b : ℕ) → bits_to d (bs ++ (b ∷ [])) ≡ bit_to (bits_to d bs) b
unfolding bits_to
bits_snoc d [] b = refl
bits_snoc d (a ∷ bs) b = bits_snoc (bit_to d a) bs b

-- ---- bits leave what is stored alone
pub record Kept (d e : Device) : Type 0 where
  pub stored : stored_of e ≡ stored_of d
  pub page : length e.page ≡ length d.page

abbrev Tame : Act → Type 0
Tame Nothing = Unit {0}
Tame (Put k x) = Unit {0}
Tame (Program c p t m) = ⊥

abbrev Mild : Head → Framed → Type 0
Mild h f = (f.head.part ≡ h.part) × (f.head.slave ≡ h.slave) × (f.head.flags ≡ h.flags) × Tame f.act

mild_opened : (h : Head) (o : Opcode) (rw : Bool) → Mild h (record { head = opened h o rw; drive = Low; act = Nothing })
mild_opened h (Access r) true = (refl, refl, refl, tt)
mild_opened h (Access r) false = (refl, refl, refl, tt)
mild_opened h LockRegister true = (refl, refl, refl, tt)
mild_opened h LockRegister false = (refl, refl, refl, tt)
mild_opened h ZoneRegister true = (refl, refl, refl, tt)
mild_opened h ZoneRegister false = (refl, refl, refl, tt)
mild_opened h FreezeZones true = (refl, refl, refl, tt)
mild_opened h FreezeZones false = (refl, refl, refl, tt)
mild_opened h ManufacturerId rw = (refl, refl, refl, tt)
mild_opened h StandardSpeed true = (refl, refl, refl, tt)
mild_opened h StandardSpeed false = (refl, refl, refl, tt)
mild_opened h HighSpeed true = (refl, refl, refl, tt)
mild_opened h HighSpeed false = (refl, refl, refl, tt)
mild_opened h Unknown rw = (refl, refl, refl, tt)

mild_place : (h : Head) (c : Command) (x : ℕ) → Mild h (caused_by_place h c x)
mild_place h (Page r) x = (refl, refl, refl, tt)
mild_place h Lock x = (refl, refl, refl, tt)
mild_place h Check x = (refl, refl, refl, tt)
mild_place h Rom x = (refl, refl, refl, tt)
mild_place h Freeze x = (refl, refl, refl, tt)

mild_data : (h : Head) (c : Command) (t x : ℕ) → Mild h (caused_by_data h c t x)
mild_data h (Page r) t x = (refl, refl, refl, tt)
mild_data h Lock t x = (refl, refl, refl, tt)
mild_data h Check t x = (refl, refl, refl, tt)
mild_data h Rom t x = (refl, refl, refl, tt)
mild_data h Freeze t x = (refl, refl, refl, tt)

mild : (h : Head) (s : Stage) (b : ℕ) → Mild h (framed h s b)
mild h Standby b = (refl, refl, refl, tt)
mild h (Address n x) b =
    choice (Mild h) (ltb n 8) (refl, refl, refl, tt) (choice (Mild h) (answers_address h x) (mild_opened h (named (opcode_of x)) (read_of x)) (refl, refl, refl, tt))
mild h (Place c n x) b = choice (Mild h) (ltb n 8) (refl, refl, refl, tt) (choice (Mild h) (answers_place h c x) (mild_place h c x) (refl, refl, refl, tt))
mild h (Data c t n x) b = choice (Mild h) (ltb n 8) (refl, refl, refl, tt) (choice (Mild h) (answers_data h c t x) (mild_data h c t x) (refl, refl, refl, tt))
mild h (Sending s n) b =
    choice (Mild h) (ltb n 7) (refl, refl, refl, tt)
    (choice (Mild h) (eqb n 7) (refl, refl, refl, tt) (choice (Mild h) (eqb (b % 2) 0) (refl, refl, refl, tt) (refl, refl, refl, tt)))
mild h (Programming c t) b = (refl, refl, refl, tt)

tame : (d : Device) (h : Head) (a : Act) → h.part ≡ d.part → h.slave ≡ d.slave → h.flags ≡ d.flags → Tame a → Kept d (acted (joined h d) a)
unfolding acted
tame d h Nothing p s f t = record { stored = cc; page = refl }
tame d h (Put k x) p s f t = record { stored = cc; page = length-set d.page (k % 8) x }
tame d h (Program c q n m) p s f t = absurd t

bit_kept : (d : Device) (b : ℕ) → Kept d (bit_to d b)
bit_kept d b =
    let f = framed (head_of d) d.stage b in
    let q = mild (head_of d) d.stage b in
    tame d f.head f.act q.0 q.1 q.2 q.3

pub kept : (d : Device) (bs : List ℕ) → Kept d (bits_to d bs)
unfolding bits_to
kept d [] = record { stored = refl; page = refl }
kept d (b ∷ bs) = let p = bit_kept d b in let q = kept (bit_to d b) bs in record { stored = q.stored ∙ p.stored; page = q.page ∙ p.page }

-- ---- a device in which a Null begins no cycle
pub record NotReady (d : Device) : Type 0 where
  pub undue : due d.stage ≡ None
  pub idle : running d.stage ≡ None

pub not_ready : (d : Device) (s : Stage) → d.stage ≡ s → due s ≡ None → running s ≡ None → NotReady d
not_ready d s e u i = record { undue = ap due e ∙ u; idle = ap running e ∙ i }

-- standby and a byte that is put out last to the next Null or Wait
abbrev pub Quiet : Stage → Type 0
Quiet Standby = Unit {0}
Quiet (Address n x) = ⊥
Quiet (Place c n x) = ⊥
Quiet (Data c t n x) = ⊥
Quiet (Sending s n) = Unit {0}
Quiet (Programming c t) = ⊥

abbrev QuietTo : Device → Framed → Type 0
QuietTo d f = Quiet (carried d f).stage

quiet_next : (s : Source) → Quiet (next_byte s)
quiet_next (Cells r) = tt
quiet_next (Id k) = choice Quiet (ltb k 2) tt tt
quiet_next Register = tt

quiet_bit : (d : Device) (h : Head) (s : Stage) (b : ℕ) → Quiet s → QuietTo d (framed h s b)
unfolding acted
quiet_bit d h Standby b q = tt
quiet_bit d h (Address n x) b q = absurd q
quiet_bit d h (Place c n x) b q = absurd q
quiet_bit d h (Data c t n x) b q = absurd q
quiet_bit d h (Sending s n) b q =
    choice (QuietTo d) (ltb n 7) tt (choice (QuietTo d) (eqb n 7) tt (choice (QuietTo d) (eqb (b % 2) 0) (quiet_next s) tt))
quiet_bit d h (Programming c t) b q = absurd q

quiet_now : (d : Device) (s : Stage) → d.stage ≡ s → Quiet s → NotReady d
quiet_now d Standby e q = not_ready d Standby e refl refl
quiet_now d (Address n x) e q = absurd q
quiet_now d (Place c n x) e q = absurd q
quiet_now d (Data c t n x) e q = absurd q
quiet_now d (Sending s n) e q = not_ready d (Sending s n) e refl refl
quiet_now d (Programming c t) e q = absurd q

pub quiet : (d : Device) (bs : List ℕ) → Quiet d.stage → NotReady (bits_to d bs)
unfolding bits_to
quiet d [] q = quiet_now d d.stage refl q
quiet d (b ∷ bs) q = quiet (bit_to d b) bs (quiet_bit d (head_of d) d.stage b q)

-- ---- a stage that takes a byte: `count` bits came, `byte` is their value
pub record Takes (stage : ℕ → ℕ → Stage) : Type 0 where
  pub shifts : (h : Head) (n x b : ℕ) → ltb n 8 ≡ true → framed h (stage n x) b ≡ silent h (stage (n + 1) (more_of x b))
  pub undue : (n x : ℕ) → eqb n 0 ≡ false → due (stage n x) ≡ None
  pub idle : (n x : ℕ) → running (stage n x) ≡ None

pub takes_address : Takes (λ n x. Address n x)
takes_address = record { shifts = λ h n x b e. rw e refl; undue = λ n x e. refl; idle = λ n x. refl }

pub takes_place : (c : Command) → Takes (λ n x. Place c n x)
takes_place c = record { shifts = λ h n x b e. rw e refl; undue = λ n x e. refl; idle = λ n x. refl }

pub takes_data : (c : Command) (t : ℕ) → Takes (λ n x. Data c t n x)
takes_data c t = record { shifts = λ h n x b e. rw e refl; undue = λ n x e. rw e refl; idle = λ n x. refl }

-- ---- eight bits are a byte
eight : (a b c d e f g h : ℕ) → more_of (more_of (more_of (more_of (more_of (more_of (more_of (more_of 0 a) b) c) d) e) f) g) h ≡ byte_of a b c d e f g h
eight a b c d e f g h = omega arith

pub byte_lt : (a b c d e f g h : ℕ) → byte_of a b c d e f g h < 256
byte_lt a b c d e f g h = omega arith

module _ {stage : ℕ → ℕ → Stage} (takes : Takes stage) (d : Device) where
  one_bit : (n x b : ℕ) (rest : List ℕ) → ltb n 8 ≡ true → bits_to (staged d (stage n x)) (b ∷ rest) ≡ bits_to (staged d (stage (n + 1) (more_of x b))) rest
  unfolding bits_to acted
  one_bit n x b rest e = ap (λ (f : Framed). bits_to (carried d f) rest) (takes.shifts (at (head_of d) (stage n x)) n x b e)

  any_bit : (n x b : ℕ) (rest : List ℕ) → bits_to (staged d (stage n x)) (b ∷ rest) ≡ bits_to (carried d (framed (at (head_of d) (stage n x)) (stage n x) b)) rest
  unfolding bits_to
  any_bit n x b rest = refl

  -- the eight bits of a byte, and the ninth frame
  pub nine_bits : (a b c e f g h i j : ℕ) (rest : List ℕ)
      → bits_to (staged d (stage 0 0)) (a ∷ b ∷ c ∷ e ∷ f ∷ g ∷ h ∷ i ∷ j ∷ rest)
      ≡ bits_to (carried d (framed (at (head_of d) (stage 8 (byte_of a b c e f g h i))) (stage 8 (byte_of a b c e f g h i)) j)) rest
  nine_bits a b c e f g h i j rest =
      one_bit 0 _ a _ refl ∙ one_bit 1 _ b _ refl ∙ one_bit 2 _ c _ refl ∙ one_bit 3 _ e _ refl ∙ one_bit 4 _ f _ refl ∙ one_bit 5 _ g _ refl
      ∙ one_bit 6 _ h _ refl ∙ one_bit 7 _ i _ refl ∙ ap (λ (x : ℕ). bits_to (staged d (stage 8 x)) (j ∷ rest)) (eight a b c e f g h i) ∙ any_bit 8 _ j rest

  -- fewer than nine, and at least one
  pub short : (bs : List ℕ) (n x : ℕ) → 0 < n + length bs → n + length bs < 9 → NotReady (bits_to (staged d (stage n x)) bs)
  unfolding bits_to
  short [] n x p q = not_ready (staged d (stage n x)) (stage n x) refl (takes.undue n x (ne_eqb n 0 (λ e. omega arith))) (takes.idle n x)
  short (b ∷ bs) n x p q = subst NotReady (sym (one_bit n x b bs (lt-ltb n 8 (omega arith)))) (short bs (n + 1) (more_of x b) (omega arith) (omega arith))

-- ---- a list of bits, nine at a time
pub data Nines : List ℕ → Type 0 where
  empty : Nines []
  over : (bs : List ℕ) → 0 < length bs → length bs < 9 → bytes_of bs ≡ None → Nines bs
  nine : (a b c e f g h i j : ℕ) {rest : List ℕ} → Nines rest → Nines (a ∷ b ∷ c ∷ e ∷ f ∷ g ∷ h ∷ i ∷ j ∷ rest)

pub nines : (bs : List ℕ) → Nines bs
unfolding bytes_of
nines [] = empty
nines (a ∷ []) = over (a ∷ []) (omega arith) (omega arith) refl
nines (a ∷ b ∷ []) = over (a ∷ b ∷ []) (omega arith) (omega arith) refl
nines (a ∷ b ∷ c ∷ []) = over (a ∷ b ∷ c ∷ []) (omega arith) (omega arith) refl
nines (a ∷ b ∷ c ∷ e ∷ []) = over (a ∷ b ∷ c ∷ e ∷ []) (omega arith) (omega arith) refl
nines (a ∷ b ∷ c ∷ e ∷ f ∷ []) = over (a ∷ b ∷ c ∷ e ∷ f ∷ []) (omega arith) (omega arith) refl
nines (a ∷ b ∷ c ∷ e ∷ f ∷ g ∷ []) = over (a ∷ b ∷ c ∷ e ∷ f ∷ g ∷ []) (omega arith) (omega arith) refl
nines (a ∷ b ∷ c ∷ e ∷ f ∷ g ∷ h ∷ []) = over (a ∷ b ∷ c ∷ e ∷ f ∷ g ∷ h ∷ []) (omega arith) (omega arith) refl
nines (a ∷ b ∷ c ∷ e ∷ f ∷ g ∷ h ∷ i ∷ []) = over (a ∷ b ∷ c ∷ e ∷ f ∷ g ∷ h ∷ i ∷ []) (omega arith) (omega arith) refl
nines (a ∷ b ∷ c ∷ e ∷ f ∷ g ∷ h ∷ i ∷ j ∷ rest) = nine a b c e f g h i j (nines rest)
