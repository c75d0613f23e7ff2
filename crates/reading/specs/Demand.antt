-- Demand 3: the run of the model and the reading of its events agree, device by device.
use Rattle.std.specs.Prelude.{◌≡◌, Bool, List, [], ◌∷◌, map, length}
use Rattle.bits.specs.Words.{both, is_not}
use Rattle.chip.specs.declared.Device.{Device}
use Rattle.chip.specs.declared.Event.{Event}
use Rattle.chip.specs.declared.Event.TheVariants.{Null}
use Rattle.chip.specs.declared.Stage.TheVariants.{Standby}
use Rattle.chip.specs.Take.{take_of}
use Rattle.wire.specs.Wire.{busy, last_of}
use Rattle.reading.specs.Stretch.{stretch_of}
use Rattle.reading.specs.Grammar.{Stored}
use Rattle.reading.specs.Cycles.{Reading, now, is_some, is_running, any_runs, begins, reading_of, stored_at_end}

-- ---- the model's side
abbrev pub stored_of : Device → Stored
stored_of d = record { part = d.part; slave = d.slave; id = d.id; flags = d.flags; main = d.main; serial = d.serial; user = d.user }

abbrev pub programs : Device → Bool
programs d = busy d.stage

-- it does not program, and a Null would make it do so; a Wait is "a Null, then high until any cycle ends"
abbrev pub would_begin : Device → Bool
would_begin d = both (is_not (programs d)) (programs (take_of d Null).device)

-- as a load leaves a table: "bits are ignored until a Null or Wait"
pub data Loaded : List Device → Type 0 where
  no_device : Loaded []
  one_more : {d : Device} {ds : List Device} → d.stage ≡ Standby → length d.page ≡ 8 → Loaded ds → Loaded (d ∷ ds)

-- ---- the reading's side
-- the events read on what the devices had stored
abbrev pub readings_of : List Device → List Event → List Reading
readings_of ds evs = reading_of (map stored_of ds) evs

-- at a Null or Wait that comes next, the stretch would be a sentence that a device begins a cycle with
abbrev pub sentence_now : List Event → List Reading → Reading → Bool
sentence_now past rs r = is_some (begins (length past) (any_runs rs) (stretch_of past) (now r))

-- ---- for any events, so at each point of a run
pub record Demand3 (ds : List Device) (evs : List Event) : Type 0 where
  -- "At the end each byte and lock of every device is its loaded value changed by these cycles only, in their order"
  pub stored : map stored_of (last_of ds evs) ≡ stored_at_end (readings_of ds evs)
  -- a device programs exactly where one of its cycles began and has not ended
  pub programming : map programs (last_of ds evs) ≡ map is_running (readings_of ds evs)
  -- "a device begins to program at a Null or Wait" that comes next "exactly when the bits since the last Null or Wait .. form a sentence"
  pub beginning : map would_begin (last_of ds evs) ≡ map (sentence_now evs (readings_of ds evs)) (readings_of ds evs)
