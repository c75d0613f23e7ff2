-- One device: the model after events, and the reading of them.
use Prim.Native.Nat.{ℕ}
use mathlib.Core.Path.{◌≡◌, refl, sym, ap, subst, ◌∙◌}
use mathlib.Core.Bool.{Bool, true, false}
use mathlib.Core.List.{List, [], ◌∷◌, ◌++◌, append-nil}
use Rattle.std.specs.Prelude.{Option, Some, None}
use lib.ListN.{length}
use Rattle.bits.specs.Words.{pick, both, is_not}
use Rattle.chip.specs.declared.Device.{Device}
use Rattle.chip.specs.declared.Head.{Head}
use Rattle.chip.specs.declared.Command.{Command}
use Rattle.chip.specs.declared.Command.TheVariants.{Page, Lock, Check, Rom, Freeze}
use Rattle.chip.specs.declared.Region.TheVariants.{Main, Security}
use Rattle.chip.specs.declared.Stage.{Stage}
use Rattle.chip.specs.declared.Stage.TheVariants.{Standby, Address, Programming}
use Rattle.chip.specs.declared.Event.TheVariants.{Bit, Null, Wait, Reset, Cut}
use Rattle.chip.specs.declared.Cycle.{Cycle}
use Rattle.chip.specs.Cycle.{cycle, running, due, null_of, whole, finished, restarted, reset_of, cut_of, heard}
use Rattle.chip.specs.Memory.{programmed, acted}
use Rattle.chip.specs.Take.{head_of, joined, take_of}
use Rattle.wire.specs.Wire.{is_cycle}
use Rattle.reading.specs.Stretch.{grown, bytes_of}
use Rattle.reading.specs.Grammar.{Stored, Deed, sentence_of, sentence}
use Rattle.reading.specs.Cycles.{Ending, by_wait, by_cut, runs, Cycle as Ended, in_full, by_mixture, effect, after_all, Begun, Reading, now, is_some, begin_at, begins, or_else, nulled, closing, closed, cycles_of}
use Rattle.reading.specs.Demand.{stored_of, programs, would_begin}
use Rattle.reading.specs.Laws.{ended_by}
use Rattle.reading.proofs.Frames.{staged, carried, bit_to, bits_to, take_bit, bits_snoc, kept}
use Rattle.reading.proofs.Sentences.{burn_to, Judged, judged}

-- ---- the relation: a device that waits for a Null; one that heard the bits of a stretch; one that programs
pub record Waits (s : Stored) (d : Device) : Type 0 where
  pub stage : d.stage ≡ Standby
  pub stored : stored_of d ≡ s
  pub page : length d.page ≡ 8

pub record Hears (bs : List ℕ) (s : Stored) (d : Device) : Type 0 where
  pub from : Device
  pub same : d ≡ bits_to (staged from (Address 0 0)) bs
  pub stored : stored_of from ≡ s
  pub page : length from.page ≡ 8

pub record Programs (w : Deed) (s : Stored) (d : Device) : Type 0 where
  pub command : Command
  pub taken : ℕ
  pub stage : d.stage ≡ Programming command taken
  pub stored : stored_of d ≡ s
  pub page : length d.page ≡ 8
  pub cut : (m : ℕ) → stored_of (burn_to d command taken m) ≡ by_mixture m s w
  pub wait : stored_of (burn_to d command taken whole) ≡ in_full s w

abbrev pub Sim : Option Begun → Option (List ℕ) → Stored → Device → Type 0
Sim None None s d = Waits s d
Sim None (Some bs) s d = Hears bs s d
Sim (Some b) stretch s d = Programs b.deed s d

-- ---- what the relation gives
sim_stored : (run : Option Begun) (st : Option (List ℕ)) (s : Stored) (d : Device) → Sim run st s d → stored_of d ≡ s
sim_stored None None s d q = q.stored
sim_stored None (Some bs) s d q = ap stored_of q.same ∙ (kept (staged q.from (Address 0 0)) bs).stored ∙ q.stored
sim_stored (Some b) st s d q = q.stored

sim_page : (run : Option Begun) (st : Option (List ℕ)) (s : Stored) (d : Device) → Sim run st s d → length d.page ≡ 8
sim_page None None s d q = q.page
sim_page None (Some bs) s d q = ap (λ (z : Device). length z.page) q.same ∙ (kept (staged q.from (Address 0 0)) bs).page ∙ q.page
sim_page (Some b) st s d q = q.page

judged_idle : (s : Stored) (e : Device) (o : Option Deed) → Judged s e o → running e.stage ≡ None
judged_idle s e None j = j.idle
judged_idle s e (Some w) j = j.idle

sim_idle : (st : Option (List ℕ)) (s : Stored) (d : Device) → Sim None st s d → running d.stage ≡ None
sim_idle None s d q = ap running q.stage
sim_idle (Some bs) s d q =
    let f = q.from in
    ap (λ (z : Device). running z.stage) q.same ∙ judged_idle (stored_of f) (bits_to (staged f (Address 0 0)) bs) (sentence (stored_of f) bs) (judged bs f q.page)

pub sim_runs : (run : Option Begun) (st : Option (List ℕ)) (s : Stored) (d : Device) → Sim run st s d → programs d ≡ is_some run
sim_runs None st s d q = ap is_cycle (sim_idle st s d q)
sim_runs (Some b) st s d q = ap (λ (z : Stage). is_cycle (running z)) q.stage

-- ---- a bit
as_staged : (d : Device) (z : Stage) → d.stage ≡ z → d ≡ staged d z
as_staged d z e = ap (λ (y : Stage). staged d y) e

pub sim_bit : (st : Option (List ℕ)) (s : Stored) (d : Device) (b : ℕ) → Sim None st s d → Sim None (grown st b) s (take_of d (Bit b)).device
unfolding grown acted
sim_bit None s d b q =
    subst (Waits s) (sym (take_bit d b ∙ ap (λ (z : Device). bit_to z b) (as_staged d Standby q.stage))) (record { stage = refl; stored = q.stored; page = q.page })
sim_bit (Some bs) s d b q =
    record {
      from = q.from;
      same = take_bit d b ∙ ap (λ (z : Device). bit_to z b) q.same ∙ sym (bits_snoc (staged q.from (Address 0 0)) bs b);
      stored = q.stored;
      page = q.page;
    }

-- ---- a Null
abbrev pub null_to : Device → Device
null_to d = (take_of d Null).device

null_by : (d : Device) (b r : Option Cycle) → running d.stage ≡ b → due d.stage ≡ r → null_to d ≡ joined (null_of (head_of d) b r) d
unfolding take_of heard acted
null_by d b r e f =
    ap (λ (z : Option Cycle). joined (null_of (head_of d) z (due d.stage)) d) e ∙ ap (λ (z : Option Cycle). joined (null_of (head_of d) b z) d) f

-- a device that listens from here
listens : (s : Stored) (d e : Device) → e ≡ staged d (Address 0 0) → stored_of d ≡ s → length d.page ≡ 8 → Hears [] s e
unfolding bits_to
listens s d e q t p = record { from = d; same = q; stored = t; page = p }

burn_stage : (d : Device) (y : Stage) (c : Command) (t m : ℕ) → stored_of (burn_to (staged d y) c t m) ≡ stored_of (burn_to d c t m)
burn_stage d y (Page Main) t m = refl
burn_stage d y (Page Security) t m = refl
burn_stage d y Lock t m = refl
burn_stage d y Check t m = refl
burn_stage d y Rom t m = refl
burn_stage d y Freeze t m = refl

judged_null : (n : ℕ) (s : Stored) (d : Device) (o : Option Deed) → Judged s d o → stored_of d ≡ s → length d.page ≡ 8 → Sim (begin_at n o) (Some []) s (null_to d)
judged_null n s d None j t p = listens s d (null_to d) (null_by d None None j.idle j.undue) t p
judged_null n s d (Some w) j t p =
    let c = j.command in
    let k = j.taken in
    let y = Programming c k in
    subst (Programs w s) (sym (null_by d None (cycle c k) j.idle j.now_due))
    (record {
      command = c;
      taken = k;
      stage = refl;
      stored = t;
      page = p;
      cut = λ m. burn_stage d y c k m ∙ j.cut m;
      wait = burn_stage d y c k whole ∙ j.wait;
    })

-- what begins at a Null or Wait, number n, by the stretch that the device heard
abbrev start_of : ℕ → Option Begun → Option (List ℕ) → Stored → Option Begun
start_of n run st s = or_else run (begins n false st s)

sim_null : (n : ℕ) (run : Option Begun) (st : Option (List ℕ)) (s : Stored) (d : Device) → Sim run st s d → Sim (start_of n run st s) (Some []) s (null_to d)
sim_null n None None s d q = listens s d (null_to d) (null_by d None None (ap running q.stage) (ap due q.stage)) q.stored q.page
sim_null n None (Some bs) s d q =
    let e = bits_to (staged q.from (Address 0 0)) bs in
    let k = kept (staged q.from (Address 0 0)) bs in
    subst (λ (z : Device). Sim (begin_at n (sentence s bs)) (Some []) s (null_to z)) (sym q.same)
    (judged_null n s e (sentence s bs) (subst (λ (z : Stored). Judged z e (sentence z bs)) q.stored (judged bs q.from q.page))
    (k.stored ∙ q.stored) (k.page ∙ q.page))
sim_null n (Some b) st s d q =
    subst (Programs b.deed s) (sym (null_by d (cycle q.command q.taken) None (ap running q.stage) (ap due q.stage))) q

-- ---- the end of a cycle
burn_long : (d : Device) (c : Command) (t m : ℕ) → length (burn_to d c t m).page ≡ length d.page
burn_long d (Page Main) t m = refl
burn_long d (Page Security) t m = refl
burn_long d Lock t m = refl
burn_long d Check t m = refl
burn_long d Rom t m = refl
burn_long d Freeze t m = refl

-- a cycle changes no head
program_head : (h : Head) (d : Device) (c : Command) (p t m : ℕ) → programmed (joined h d) c p t m ≡ joined h (programmed d c p t m)
program_head h d (Page Main) p t m = refl
program_head h d (Page Security) p t m = refl
program_head h d Lock p t m = refl
program_head h d Check p t m = refl
program_head h d Rom p t m = refl
program_head h d Freeze p t m = refl

-- ---- a Wait is a Null, and then the end of a cycle
abbrev wait_to : Device → Device
wait_to d = (take_of d Wait).device

abbrev ending : Device → Option Cycle → Device
ending d b = carried d (finished (head_of d) b)

wait_is : (d : Device) → wait_to d ≡ ending (null_to d) (running (null_to d).stage)
unfolding take_of heard acted
wait_is d = refl

end_wait : (n : ℕ) (run : Option Begun) (s : Stored) (d : Device) → Sim run (Some []) s d → Sim None (Some []) (ended_by (by_wait n) run s) (ending d (running d.stage))
unfolding acted
end_wait n None s d q = subst (λ (b : Option Cycle). Hears [] s (ending d b)) (sym (sim_idle (Some []) s d q)) q
end_wait n (Some b) s d q =
    let c = q.command in
    let t = q.taken in
    listens (in_full s b.deed) (burn_to d c t whole) (ending d (running d.stage))
    (ap (λ (z : Stage). ending d (running z)) q.stage ∙ program_head _ d c d.pointer t whole) q.wait (burn_long d c t whole ∙ q.page)

-- ---- a Cut
abbrev cut_to : Device → ℕ → Device
cut_to d m = (take_of d (Cut m)).device

cut_by : (d : Device) (m : ℕ) (b : Option Cycle) → running d.stage ≡ b → cut_to d m ≡ carried d (cut_of (head_of d) b m)
unfolding take_of heard
cut_by d m b e = ap (λ (z : Option Cycle). carried d (cut_of (head_of d) z m)) e

-- a device that waits from here
falls_silent : (s : Stored) (d e : Device) → e ≡ joined (restarted (head_of d)) d → stored_of d ≡ s → length d.page ≡ 8 → Waits s e
falls_silent s d e q t p = record { stage = ap (λ (z : Device). z.stage) q; stored = ap stored_of q ∙ t; page = ap (λ (z : Device). length z.page) q ∙ p }

sim_cut : (n m : ℕ) (run : Option Begun) (st : Option (List ℕ)) (s : Stored) (d : Device) → Sim run st s d → Sim None None (ended_by (by_cut n m) run s) (cut_to d m)
unfolding acted
sim_cut n m None st s d q = falls_silent s d (cut_to d m) (cut_by d m None (sim_idle st s d q)) (sim_stored None st s d q) (sim_page None st s d q)
sim_cut n m (Some b) st s d q =
    let c = q.command in
    let t = q.taken in
    falls_silent (by_mixture m s b.deed) (burn_to d c t m) (cut_to d m)
    (cut_by d m (cycle c t) (ap running q.stage) ∙ program_head _ d c d.pointer t m) (q.cut m) (burn_long d c t m ∙ q.page)

-- ---- a reset
pub sim_reset : (st : Option (List ℕ)) (s : Stored) (d : Device) → Sim None st s d → Sim None None s (take_of d Reset).device
unfolding take_of heard acted
sim_reset st s d q =
    falls_silent s d (take_of d Reset).device (ap (λ (z : Option Cycle). carried d (reset_of (head_of d) z)) (sim_idle st s d q)) (sim_stored None st s d q) (sim_page None st s d q)

-- ---- the reading's own steps
after_snoc : (s : Stored) (cs : List Ended) (c : Ended) → after_all s (cs ++ (c ∷ [])) ≡ effect (after_all s cs) c.deed c.ended
unfolding after_all
after_snoc s [] c = refl
after_snoc s (x ∷ cs) c = after_snoc (effect s x.deed x.ended) cs c

pub after_closing : (s : Stored) (cs : List Ended) (run : Option Begun) (e : Ending) → after_all s (cs ++ closing run e) ≡ ended_by e run (after_all s cs)
after_closing s cs None e = ap (λ (l : List Ended). after_all s l) (append-nil cs)
after_closing s cs (Some b) e = after_snoc s cs _

abbrev pub SimR : Option (List ℕ) → Reading → Device → Type 0
SimR st r d = Sim r.running st (now r) d

-- what a device hears of the stretch: while a cycle runs on the wire, nothing
abbrev pub audible : Bool → Option (List ℕ) → Option (List ℕ)
audible busy st = pick busy (Some []) st

begins_audible : (n : ℕ) (busy : Bool) (st : Option (List ℕ)) (s : Stored) → begins n busy st s ≡ begins n false (audible busy st) s
unfolding sentence sentence_of bytes_of
begins_audible n true st s = refl
begins_audible n false st s = refl

pub read_null : (n : ℕ) (busy : Bool) (st : Option (List ℕ)) (r : Reading) (d : Device) → SimR (audible busy st) r d → SimR (Some []) (nulled n busy st r) (null_to d)
read_null n busy st r d q =
    subst (λ (z : Option Begun). Sim (or_else r.running z) (Some []) (now r) (null_to d)) (sym (begins_audible n busy st (now r)))
    (sim_null n r.running (audible busy st) (now r) d q)

pub read_wait : (n : ℕ) (busy : Bool) (st : Option (List ℕ)) (r : Reading) (d : Device) → SimR (audible busy st) r d
    → SimR (Some []) (closed (by_wait n) (nulled n busy st r)) (wait_to d)
read_wait n busy st r d q =
    let r' = nulled n busy st r in
    subst (λ (z : Device). SimR (Some []) (closed (by_wait n) r') z) (sym (wait_is d))
    (subst (λ (z : Stored). Sim None (Some []) z (ending (null_to d) (running (null_to d).stage))) (sym (after_closing r'.loaded r'.done r'.running (by_wait n)))
    (end_wait n r'.running (now r') (null_to d) (read_null n busy st r d q)))

pub read_cut : (n m : ℕ) (st : Option (List ℕ)) (r : Reading) (d : Device) → SimR st r d → SimR None (closed (by_cut n m) r) (cut_to d m)
read_cut n m st r d q =
    subst (λ (z : Stored). Sim None None z (cut_to d m)) (sym (after_closing r.loaded r.done r.running (by_cut n m))) (sim_cut n m r.running st (now r) d q)

-- a cycle that runs has changed nothing
pub still_now : (r : Reading) → after_all r.loaded (cycles_of r) ≡ now r
still_now r = after_closing r.loaded r.done r.running runs ∙ still r.running
  where
    still : (run : Option Begun) → ended_by runs run (now r) ≡ now r
    still None = refl
    still (Some b) = refl

-- the stored fields are the loaded ones changed by the cycles
pub read_stored : (st : Option (List ℕ)) (r : Reading) (d : Device) → SimR st r d → stored_of d ≡ after_all r.loaded (cycles_of r)
read_stored st r d q = sim_stored r.running st (now r) d q ∙ sym (still_now r)

-- ---- a device begins at a Null or Wait that comes next
begin_calm : (n : ℕ) (st : Option (List ℕ)) (s : Stored) (d : Device) → Sim None st s d → would_begin d ≡ is_some (begins n false st s)
begin_calm n st s d q =
    ap (λ (b : Bool). both (is_not b) (programs (null_to d))) (sim_runs None st s d q)
    ∙ sim_runs (begins n false st s) (Some []) s (null_to d) (sim_null n None st s d q)

begin_running : (b : Begun) (st : Option (List ℕ)) (s : Stored) (d : Device) → Sim (Some b) st s d → would_begin d ≡ false
begin_running b st s d q = ap (λ (t : Bool). both (is_not t) (programs (null_to d))) (sim_runs (Some b) st s d q)

pub read_begins : (n : ℕ) (busy : Bool) (st : Option (List ℕ)) (run : Option Begun) (s : Stored) (d : Device) → (busy ≡ false → is_some run ≡ false) → Sim run (audible busy st) s d
    → would_begin d ≡ is_some (begins n busy st s)
read_begins n busy st None s d c q = begin_calm n (audible busy st) s d q ∙ ap is_some (sym (begins_audible n busy st s))
read_begins n true st (Some b) s d c q = begin_running b (Some []) s d q
read_begins n false st (Some b) s d c q = cc (c refl)
