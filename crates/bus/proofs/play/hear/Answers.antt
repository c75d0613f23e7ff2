-- Each turn is one device more.
use Rattle.std.proofs.Common.{◌≡◌, ◌*◌, refl, rules, arith}
use Rattle.image.specs.Layout.{record_size}
use Rattle.bus.specs.Held.{unplayed, played}
use Rattle.bus.proofs.play.hear.Goals as goal

pub loop-j-init : goal.loop-j-init
loop-j-init c = record { file = refl; played = rw c.masters_level-level.ensures unplayed }

pub loop-j-preserved : goal.loop-j-preserved
loop-j-preserved c =
    let inv = c.loop-j.invariant in
    let from : c.loop-j.j * 168 ≡ record_size * c.loop-j.j = omega arith in
    record {
      file = search rules;
      played = rw (c.pulled-level.ensures, c.level.ensures, c.shown-shown.ensures, c.act.ensures.bytes, c.act.ensures.page, c.talks-talker.ensures, c.busy-busy.ensures, from) (played inv.played (rw c.standing.ensures at c.hears-framed.ensures));
    }
