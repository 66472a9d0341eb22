-- `bits_write::put_bit` meets its contract: the unit is the power of two at the bit's place in its byte; adding the new bit's unit and then taking
-- the old bit's stays within the byte. Assumes nothing.
use Prim.Native.Nat.{◌-◌, ◌%◌}
use native.Mathlib.Omega.{arith}
use borrow.Author.Rules.{rules}
use Rattle.std.proofs.lemmas.Nat.{one_shl}
use Rattle.rules.specs.Width.{word_bits}
use Rattle.coding.proofs.PutBitsLaws.{with_bit-lt}
use Rattle.bits_write.proofs.put_bit.Goals as goal

pub overflow_cast-bytes : goal.overflow_cast-bytes
overflow_cast-bytes c =
    let k = 7 - c.args.p % 8 in
    rw (one_shl k word_bits (omega arith)) (record { fits = with_bit-lt c.from-byte.result k c.args.b 8 (search rules) (search rules) (search rules) })
