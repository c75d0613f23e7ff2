-- Each way is its case of the definition, by the test that leads to it.
use Rattle.bits.proofs.ZoneLaws.{zone_is}
use borrow.Author.Tests.{eq-eqb, ne_eqb}
use Rattle.bits.proofs.zone_of.Goals as goal

pub returns-then-low-eq1 : goal.returns-then-low-eq1
returns-then-low-eq1 c = simp (eq-eqb _ _ c.if-low-eq1.true) at (zone_is c.args.byte)

pub returns-else-low-eq1 : goal.returns-else-low-eq1
returns-else-low-eq1 c = simp (ne_eqb _ _ c.if-low-eq1.false) at (zone_is c.args.byte)
