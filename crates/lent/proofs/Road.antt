-- The record of specs/Road.antt: the refusals change nothing, a done step keeps the table well-formed, and the steps of an event file are its run.
use Prim.Native.Nat.{ℕ, ◌*◌, ◌<◌, ◌≤◌}
use native.Mathlib.Omega.{arith}
use mathlib.Core.Path.{◌≡◌, refl, sym, ap, ◌∙◌}
use mathlib.Core.Bool.{Bool, true, false}
use mathlib.Core.List.{List, [], ◌∷◌, map}
use borrow.Author.Tests.{lt-ltb, le-ltb}
use lib.ListN.{length}
use Rattle.bits.specs.Words.{pick}
use Rattle.chip.specs.declared.Region.TheVariants.{Main, Security}
use Rattle.chip.specs.declared.Command.TheVariants.{Page, Lock, Check, Rom, Freeze}
use Rattle.chip.specs.declared.Act.{Act}
use Rattle.chip.specs.declared.Act.TheVariants.{Nothing, Put, Program}
use Rattle.chip.specs.declared.Device.{Device}
use Rattle.chip.specs.declared.Event.{Event}
use Rattle.chip.specs.declared.Event.TheVariants.{Bit, Null, Wait, Reset, Cut}
use Rattle.chip.specs.Memory.{acted}
use Rattle.chip.specs.Cycle.{heard}
use Rattle.chip.specs.Take.{head_of, joined, take_of}
use Rattle.chip.proofs.PageLaws.{burns}
use Rattle.tape.specs.Tape.{kind_event, events_of}
use Rattle.tape.specs.Written.{Good, AllGood}
use Rattle.tape.specs.Promises.{Bytes}
use Rattle.tape.proofs.Promised as tape-laws
use Rattle.wire.specs.Wire.{any_busy, barred, table_of, next_of, answer_of, last_of, answers_of}
use Rattle.wire.proofs.Tables.{length_after}
use Rattle.image.specs.Layout.{most_records, record_size}
use Rattle.image.specs.Scan.{bus_fault}
use Rattle.image.specs.Image.{devices_of, saved_of}
use Rattle.image.specs.Promises.{Sized, AllSized}
use Rattle.image.specs.Promises.AllSized.{none as none-sized, more as more-sized}
use Rattle.image.proofs.Promised.{promised}
use Rattle.image.proofs.Lists.{laid_all}
use Rattle.image.proofs.Forth.{all_sized}
use Rattle.table.specs.WellFormed.{well_formed}
use Rattle.table.proofs.Kept.{kept}
use Rattle.std.specs.Prelude.{Result, Ok}
use Rattle.faults.specs.declared.Refusal.{Refusal}
use Rattle.faults.specs.Faults.{number_in, number_by}
use Rattle.faults.proofs.FaultLaws.{refused_by, number_stays, held_by}
use Rattle.lent.specs.Step.{answer_byte_of, last_kind, step_check, step_number, stepped_of, step_answer}
use Rattle.lent.specs.Save.{save_number, save_answer, saved_room}
use Rattle.lent.proofs.Numbers.{many, save_done}
use Rattle.lent.proofs.Steps.{answered, stepped, kind_done}
use Rattle.lent.specs.Road.{kind_of, mask_of, steps_of, step_answers, Steps, Road}

-- ---- one step, one save
step_many : (ds : List Device) (kind : ℕ) → most_records < length ds → step_number ds kind ≡ 15
unfolding step_check
step_many ds kind h = rw (← many ds h) refl

save_many : (ds : List Device) (room : ℕ) → most_records < length ds → save_number ds room ≡ 15
unfolding save_answer
save_many ds room h = rw (← many ds h) refl

step_refused : (ds : List Device) (kind mask : ℕ) → (step_number ds kind ≡ 0 → ⊥) → (number_by (step_answer ds kind mask) ≡ step_number ds kind) × (stepped_of ds kind mask ≡ ds)
unfolding step_answer stepped_of
step_refused ds kind mask f = (number_stays (step_check ds kind) _, rw (refused_by (step_check ds kind) f) refl)

save_refused : (ds : List Device) (room : List ℕ) → (save_number ds (length room) ≡ 0 → ⊥) → (number_by (save_answer ds (length room)) ≡ save_number ds (length room)) × (saved_room ds room ≡ room)
unfolding saved_room
save_refused ds room f = (refl, rw (refused_by (save_answer ds (length room)) f) refl)

step_done : (ds : List Device) (kind mask : ℕ) → step_number ds kind ≡ 0 → (number_by (step_answer ds kind mask) ≡ 0) × (answer_byte_of (step_answer ds kind mask) ≡ answer_of ds (kind_event kind mask))
step_done ds kind mask e = rw (answered ds kind mask e) (refl, refl)

number_good : (ds : List Device) (kind : ℕ) → step_number ds kind ≡ 0 → well_formed ds ≡ true
unfolding step_check
number_good ds kind e = (held_by (well_formed ds) _ _ e).0

step_kept : (ds : List Device) (kind mask : ℕ) → step_number ds kind ≡ 0 → well_formed (stepped_of ds kind mask) ≡ true
step_kept ds kind mask e = rw (stepped ds kind mask e) (kept.step ds (kind_event kind mask) (number_good ds kind e))

event_is : (ev : Event) → Good ev → (kind_of ev ≤ last_kind) × (kind_event (kind_of ev) (mask_of ev) ≡ ev)
unfolding kind_event
event_is (Bit b) g = (omega (arith, g), rw (lt-ltb b 2 g) refl)
event_is Null g = (omega arith, refl)
event_is Wait g = (omega arith, refl)
event_is Reset g = (omega arith, refl)
event_is (Cut mask) g = (omega arith, refl)

-- ---- a step for each event
module _ (ds : List Device) (ev : Event) (w : well_formed ds ≡ true) (g : Good ev) where
  number : step_number ds (kind_of ev) ≡ 0
  number = kind_done ds (kind_of ev) w (event_is ev g).0

  one_step : stepped_of ds (kind_of ev) (mask_of ev) ≡ next_of ds ev
  one_step = stepped ds (kind_of ev) (mask_of ev) number ∙ ap (next_of ds) (event_is ev g).1

  one_answer : step_answer ds (kind_of ev) (mask_of ev) ≡ Ok (answer_of ds ev)
  one_answer = answered ds (kind_of ev) (mask_of ev) number ∙ ap (λ (e : Event). Ok (answer_of ds e)) (event_is ev g).1

all_steps : (ds : List Device) (evs : List Event) → well_formed ds ≡ true → AllGood evs → steps_of ds evs ≡ last_of ds evs
unfolding steps_of last_of
all_steps ds [] w g = refl
all_steps ds (ev ∷ evs) w g = rw (one_step ds ev w g.0) (all_steps (next_of ds ev) evs (kept.step ds ev w) g.1)

all_answers : (ds : List Device) (evs : List Event) → well_formed ds ≡ true → AllGood evs → step_answers ds evs ≡ map Ok (answers_of ds evs)
unfolding step_answers answers_of
all_answers ds [] w g = refl
all_answers ds (ev ∷ evs) w g =
    rw (one_step ds ev w g.0, one_answer ds ev w g.0) (ap (λ (l : List (Result ℕ Refusal)). Ok (answer_of ds ev) ∷ l) (all_answers (next_of ds ev) evs (kept.step ds ev w) g.1))

-- ---- the arrays of the devices keep their lengths, so that the saved file keeps its own
acts_sized : (d : Device) (a : Act) → Sized d → Sized (acted d a)
unfolding acted
acts_sized d Nothing s = s
acts_sized d (Put k x) s = record { id = s.id; main = s.main; serial = s.serial; user = s.user }
acts_sized d (Program (Page Main) p t m) s = record { id = s.id; main = (burns d.main _ d.page p t m).long ∙ s.main; serial = s.serial; user = s.user }
acts_sized d (Program (Page Security) p t m) s = record { id = s.id; main = s.main; serial = s.serial; user = (burns d.user _ d.page p t m).long ∙ s.user }
acts_sized d (Program Lock p t m) s = s
acts_sized d (Program Check p t m) s = s
acts_sized d (Program Rom p t m) s = s
acts_sized d (Program Freeze p t m) s = s

take_sized : (d : Device) (ev : Event) → Sized d → Sized (take_of d ev).device
unfolding take_of
take_sized d ev s = acts_sized (joined (heard (head_of d) ev).head d) (heard (head_of d) ev).act (record { id = s.id; main = s.main; serial = s.serial; user = s.user })

table_sized : (ds : List Device) (ev : Event) → AllSized ds → AllSized (table_of ds ev)
unfolding table_of
table_sized [] ev none-sized = none-sized
table_sized (d ∷ ds) ev (more-sized s r) = more-sized (take_sized d ev s) (table_sized ds ev r)

next_sized : (ds : List Device) (ev : Event) → AllSized ds → (length (next_of ds ev) ≡ length ds) × AllSized (next_of ds ev)
unfolding next_of
next_sized ds ev s = go (barred ev (any_busy ds))
  where
    go : (b : Bool) → (length (pick b ds (table_of ds ev)) ≡ length ds) × AllSized (pick b ds (table_of ds ev))
    go true = (refl, s)
    go false = (length_after ds ev, table_sized ds ev s)

last_sized : (ds : List Device) (evs : List Event) → AllSized ds → (length (last_of ds evs) ≡ length ds) × AllSized (last_of ds evs)
unfolding last_of
last_sized ds [] s = (refl, s)
last_sized ds (ev ∷ evs) s =
    let n = next_sized ds ev s in
    let r = last_sized (next_of ds ev) evs n.1 in
    (r.0 ∙ n.0, r.1)

-- ---- a run
module _ (bus tape : List ℕ) (e : number_in (bus_fault bus) ≡ 0) (b : Bytes tape) where
  abbrev ds : List Device
  ds = devices_of bus

  abbrev last : List Device
  last = last_of ds (events_of tape)

  good : AllGood (events_of tape)
  good = (tape-laws.promised).good tape b

  at_end : (length last ≡ length ds) × AllSized last
  at_end = last_sized ds (events_of tape) (all_sized (promised.rising bus e))

  file_long : length (saved_of last) ≡ length bus
  file_long =
      let s = promised.saved_length ds (all_sized (promised.rising bus e)) in
      let l = ap length (promised.same_bytes bus e) in
      let n = at_end.0 in
      let z = promised.saved_length last at_end.1 in
      omega (arith, s, l, n, z)

  module _ (room : List ℕ) (h : length room ≡ length bus) where
    number_none : save_number last (length room) ≡ 0
    unfolding save_answer
    number_none =
        let z = promised.saved_length last at_end.1 in
        let f = file_long in
        rw (kept.run ds (events_of tape) (kept.load bus e), le-ltb (length room) (record_size * length last) (omega (arith, z, f, h))) refl

    saved_done : save_answer last (length room) ≡ Ok tt
    saved_done = sym (save_done last room number_none).0

    saved_file : saved_room last room ≡ saved_of last
    saved_file = sym (save_done last room number_none).1 ∙ laid_all room (saved_of last) (h ∙ sym file_long)

  steps_are : steps_of ds (events_of tape) ≡ last
  steps_are = all_steps ds (events_of tape) (kept.load bus e) good

  played : Steps bus tape
  played = record {
    answers = all_answers ds (events_of tape) (kept.load bus e) good;
    devices = steps_are;
    done = λ room h. rw steps_are (saved_done room h);
    file = λ room h. rw steps_are (saved_file room h);
  }

pub road : Road
road = record {
  step_many = step_many;
  save_many = save_many;
  step_refused = step_refused;
  save_refused = save_refused;
  step_done = step_done;
  step_kept = step_kept;
  event_is = event_is;
  run = played;
}
