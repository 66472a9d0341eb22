-- `params_write::Valued::write` meets its contract: there is room for the width bits of u(width).
-- Assumes nothing.
use native.Mathlib.Omega.{arith}
use Rattle.coding.proofs.CodesLaws.{unsigned_bits-length}
use Rattle.params_write.proofs.Valued.write.Goals as goal

pub write_u-requires : goal.write_u-requires
write_u-requires c =
    let few = rw c.in-Unsigned.is at c.args.self.in_range.2 in
    let room = rw (c.in-Unsigned.is, unsigned_bits-length) at c.requires in
    (omega arith, room.0, room.1)
