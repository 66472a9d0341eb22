-- `bits_write::write_u` meets its contract: one bit more of the `w` bits is stored behind those that are written.
-- Assumes nothing.
use mathlib.Core.Path.{refl}
use Rattle.coding.specs.Codes.{unsigned_bits, put_bits}
use Rattle.coding.proofs.CodesLaws.{unsigned_bits-length, unsigned_bits-more}
use Rattle.coding.proofs.PutBitsLaws.{put_bits-append}
use Rattle.bits_write.proofs.write_u.Goals as goal

pub loop-i-init : goal.loop-i-init
unfolding unsigned_bits put_bits
loop-i-init c = refl

pub loop-i-preserved : goal.loop-i-preserved
unfolding put_bits
loop-i-preserved c =
    let args = c.args in
    rw (c.put_bit.ensures, unsigned_bits-more args.w args.v c.loop-i.i c.loop-i-test.true, put_bits-append, unsigned_bits-length, ← c.loop-i.invariant)
