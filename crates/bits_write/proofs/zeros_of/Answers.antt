-- `bits_write::zeros_of` meets its contract: 2^z <= v + 1 < 2^(z + 1) for the binary logarithm z of v + 1, and for no other z.
-- Assumes nothing.
use native.Mathlib.Omega.{arith}
use Rattle.coding.proofs.CodesLaws.{zeros_of-one, zeros_of-range}
use Rattle.bits_write.proofs.zeros_of.Goals as goal

pub returns : goal.returns
returns c =
    let v = c.args.v in
    omega (arith, zeros_of-one v c.ilog2.result c.requires (omega arith) (omega arith), zeros_of-range v c.requires)
