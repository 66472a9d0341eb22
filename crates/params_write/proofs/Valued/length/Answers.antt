-- `params_write::Valued::length` meets its contract: u(width) has width bits.
-- Assumes nothing.
use mathlib.Core.Path.{sym}
use native.Mathlib.Omega.{arith}
use Rattle.coding.proofs.CodesLaws.{unsigned_bits-length}
use Rattle.params_write.proofs.Valued.length.Goals as goal

pub returns-in-Unsigned : goal.returns-in-Unsigned
returns-in-Unsigned c =
    let few = rw c.in-Unsigned.is at c.args.self.in_range.2 in
    rw c.in-Unsigned.is (sym (unsigned_bits-length c.in-Unsigned.width c.args.self.value), omega arith)
