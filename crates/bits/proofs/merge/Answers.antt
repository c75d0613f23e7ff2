use Rattle.std.proofs.Common.{arith, ◌-◌}
use Rattle.bits.specs.Bytes.{merged}
use Rattle.bits.proofs.MergeLaws.{merge_is}
use Rattle.bits.proofs.merge.Goals as goal

pub returns : goal.returns
unfolding merged
returns c = merge_is 8 c.args.old c.args.new c.args.mask (255 - c.args.mask) (omega arith) (omega arith) (omega arith)
