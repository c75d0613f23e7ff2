-- The shifted one stays in a byte, and an or with it sets that flag alone.
use Rattle.std.proofs.Common.{◌≡◌, ◌*◌, ◌%◌, ◌^◌, ◌∙◌, arith}
use lib.Pow.{shl_exact}
use Rattle.bits.specs.Bytes.{has_flag, with_flag}
use Rattle.bits.proofs.FlagLaws.{or_flag}
use Rattle.bits.proofs.with_flag.Goals as goal

pub returns : goal.returns
unfolding with_flag has_flag
returns c =
    let k = c.args.place % 8 in
    let e : 1 * 2 ^ k % 256 ≡ 2 ^ k = shl_exact 1 k 8 (omega arith) (omega arith) ∙ omega arith in
    rw e (or_flag k c.args.flags)
