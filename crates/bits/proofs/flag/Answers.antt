use Rattle.std.proofs.Common.{refl, ◌%◌, ◌/◌, ◌^◌}
use lib.Bits.{and_mask}
use Rattle.bits.specs.Bytes.{has_flag}
use Rattle.bits.proofs.flag.Goals as goal

pub returns : goal.returns
unfolding has_flag
returns c = rw (and_mask (c.args.flags / 2 ^ (c.args.place % 8)) 1) refl
