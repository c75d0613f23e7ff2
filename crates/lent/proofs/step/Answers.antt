-- The step of a well-formed table and a known kind, by whether the event is carried out.
use Rattle.std.proofs.Common.{◌≡◌, true, false, arith}
use Rattle.tape.specs.Tape.{kind_event}
use Rattle.wire.specs.Wire.{any_busy, barred}
use Rattle.lent.proofs.Steps.{left_alone, carried_out}
use Rattle.lent.proofs.step.Goals as goal

pub returns-then-barred : goal.returns-then-barred
returns-then-barred c =
    let b : barred (kind_event c.args.kind c.args.mask) (any_busy c.args.table.now) ≡ true = simp (c.barred.ensures, c.event_of-ev.ensures, c.in_ok-busy.ensures.1) at c.if-barred.true in
    left_alone c.args.table.now c.args.kind c.args.mask c.in_ok-busy.ensures.0 (omega arith) b

pub returns : goal.returns
returns c =
    let b : barred (kind_event c.args.kind c.args.mask) (any_busy c.args.table.now) ≡ false = simp (c.barred.ensures, c.event_of-ev.ensures, c.in_ok-busy.ensures.1) at c.if-barred.false in
    let r = carried_out c.args.table.now c.args.kind c.args.mask c.in_ok-busy.ensures.0 (omega arith) b in
    simp (c.replied.ensures, c.take_all-level.ensures.level, c.take_all-level.ensures.devices, c.event_of-ev.ensures) r
