-- The refusals in their order by what `load` and `scan_tape` say, and a good run by what `play` says.
use Rattle.std.proofs.Common.{◌∙◌, rules}
use Rattle.bus.proofs.Answers.{load_sound, load_table, load_few, scan_sound, scan_count, refused_bus, refused_tape, refused_room, done}
use Rattle.bus.proofs.run.Goals as goal

pub returns-in_err-loaded : goal.returns-in_err-loaded
returns-in_err-loaded c =
    let a = c.args in
    let e = refused_bus a.bus.now a.tape.now a.answers.now _ c.in_err-loaded.ensures in
    record { value = search (rules, e.value); bus_after = e.bus_after; answers_after = e.answers_after; reading = e.reading }

pub returns-in_err-events : goal.returns-in_err-events
returns-in_err-events c =
    let a = c.args in
    let e = refused_tape a.bus.now a.tape.now a.answers.now _ c.in_ok-loaded.ensures _ c.in_err-events.ensures in
    record { value = search (rules, e.value); bus_after = e.bus_after; answers_after = e.answers_after; reading = e.reading }

pub returns-then-lacks_room : goal.returns-then-lacks_room
returns-then-lacks_room c =
    let a = c.args in
    let e = refused_room a.bus.now a.tape.now a.answers.now _ c.in_ok-loaded.ensures _ c.in_ok-events.ensures c.if-lacks_room.true in
    record { value = rw c.at.ensures e.value; bus_after = e.bus_after; answers_after = e.answers_after; reading = e.reading }

pub play-refused-requires : goal.play-refused-requires
play-refused-requires c =
    let bus = c.args.bus.now in
    let tape = c.args.tape.now in
    let loads = c.in_ok-loaded.ensures in
    let scans = c.in_ok-events.ensures in
    (load_sound bus _ loads, load_table bus _ loads, scan_sound tape _ scans, rw (← scan_count tape _ scans) c.if-lacks_room.false, load_few bus _ loads)

pub returns : goal.returns
returns c =
    let a = c.args in
    let p = c.play-refused.ensures in
    let e = done a.bus.now a.tape.now a.answers.now _ c.in_ok-loaded.ensures _ c.in_ok-events.ensures c.if-lacks_room.false in
    record { value = rw p.value e.value; bus_after = p.bus_after ∙ e.bus_after; answers_after = p.answers_after ∙ e.answers_after; reading = p.bus_after ∙ e.reading }
