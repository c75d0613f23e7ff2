use Rattle.std.proofs.Common.{◌∙◌, sym}
use Rattle.image.proofs.Records.{scanned_more}
use Rattle.image.proofs.scan.bus_fault.Goals as goal

pub loop-k-preserved : goal.loop-k-preserved
loop-k-preserved c =
    let w = c.in-Some.ensures.steps in
    let v = c.loop-k.invariant in
    let z = sym c.record_fault.ensures ∙ c.in_ok-record_fault.was in
    (w.0.0 ∙ v.0, rw w.2 (scanned_more _ _ _ _ _ _ v.1 w.0.1.0 (w.0.1.1 ∙ v.0) (rw w.1 at z)))
