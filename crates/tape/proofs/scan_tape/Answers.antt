use Rattle.std.proofs.Common.{sym, ◌∙◌, arith, rules}
use Rattle.tape.proofs.ScanLaws.{passed_more, passed_plain, scan_bad, scan_done, fits}
use Rattle.tape.proofs.scan_tape.Goals as goal

pub returns-in_err-event_fault : goal.returns-in_err-event_fault
returns-in_err-event_fault c =
    let i = c.loop-at.invariant in
    let bad = scan_bad _ _ _ _ c.loop-at-test.true i.2 i.3 (sym c.in_err-event_fault.was ∙ c.event_fault.ensures) in
    search (rules, bad)

pub loop-at-preserved : goal.loop-at-preserved
loop-at-preserved c =
    let i = c.loop-at.invariant in
    let w = fits _ _ _ c.loop-at-test.true (sym c.in_ok-event_fault.was ∙ c.event_fault.ensures) in
    let p = c.plain_ahead-plain.ensures in (
      p.inside,
      omega (arith, c.size_of-at.ensures, i.1),
      i.2,
      passed_plain _ _ _ _ p (rw c.size_of-at.ensures (passed_more _ _ _ c.loop-at-test.true i.3 w.sound)),
    )

pub returns : goal.returns
returns c = let i = c.loop-at.invariant in scan_done _ _ _ c.loop-at-test.false i.2 i.3
