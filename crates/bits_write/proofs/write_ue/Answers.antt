-- `bits_write::write_ue` meets its contract: the code of `v` is a 0 in z bits and then v + 1 in z + 1 bits, with z its zeros.
-- Assumes nothing.
use native.Mathlib.Omega.{arith}
use Rattle.coding.proofs.CodesLaws.{unsigned_bits-length, ue-length, ue-parts}
use Rattle.coding.proofs.PutBitsLaws.{put_bits-append}
use Rattle.bits_write.proofs.write_ue.Goals as goal

pub write_u-requires-2 : goal.write_u-requires-2
write_u-requires-2 c = omega (arith, ue-length c.args.v)

pub returns : goal.returns
returns c =
    rw (ue-parts c.args.v c.requires.0, put_bits-append, unsigned_bits-length, ← c.zeros_of-z.ensures.0, ← c.write_u.ensures, ← c.write_u-2.ensures)
