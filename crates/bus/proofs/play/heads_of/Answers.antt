-- Each element is the head of the device that stands there.
use Rattle.std.proofs.Common.{rules}
use Rattle.chip.specs.Take.{head_of}
use Rattle.bus.proofs.Copies.{mapped}
use Rattle.bus.proofs.Held.{blank}
use Rattle.bus.proofs.play.heads_of.Goals as goal

pub returns : goal.returns
returns c = mapped _ head_of blank (λ p x y q k. search rules) _ _ _ 8 (search rules) c.map.ensures.items
