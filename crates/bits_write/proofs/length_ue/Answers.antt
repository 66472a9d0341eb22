-- `bits_write::length_ue` meets its contract: the code of `v` has its zeros, a one, and as many bits again.
-- Assumes nothing.
use native.Mathlib.Omega.{arith}
use Rattle.coding.proofs.CodesLaws.{ue-length}
use Rattle.bits_write.proofs.length_ue.Goals as goal

pub returns : goal.returns
returns c = omega (arith, ue-length c.args.v)
