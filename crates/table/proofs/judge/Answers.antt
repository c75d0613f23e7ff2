-- One more device is seen, and at the end all of them: what the pass says is the verdict (Surveyed.antt).
use Rattle.std.proofs.Common.{◌≡◌, length, arith}
use Rattle.table.specs.Survey.{seen_all}
use Rattle.table.proofs.Surveyed.{seen_more, all_seen, verdict_is}
use Rattle.table.proofs.judge.Goals as goal

pub loop-device-init : goal.loop-device-init
unfolding seen_all
loop-device-init c = c.none-survey.ensures

pub loop-device-preserved : goal.loop-device-preserved
loop-device-preserved c = rw (c.with-survey.ensures, c.head.ensures, c.loop-device.invariant) (seen_more _ _ _ _ c.loop-device-test.true)

pub returns : goal.returns
returns c =
    let e : c.loop-device.device-index ≡ length c.args.table.now = omega arith in
    let all = rw (e, all_seen) at c.loop-device.invariant in
    rw (← verdict_is c.args.table.now, ← all) c.verdict.ensures
