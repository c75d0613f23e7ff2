use Rattle.std.proofs.Common.{◌∙◌, arith}
use Rattle.tape.proofs.MaskLaws.{mask_is}
use Rattle.tape.proofs.mask_of.Goals as goal

pub returns : goal.returns
returns c = c.from_le_bytes.ensures ∙ mask_is c.args.left.now c.loop-k.byte-items (λ k q. c.loop-k.invariant k (omega (arith, c.loop-k-test.array_long)))
