-- `bits_write::write_u` meets its contract. The loop's invariant: the first `i` of the `w` bits are written, which are those of v / 2^(w - i).
-- Assumes nothing.
use Prim.Native.Nat.{◌-◌, ◌/◌, ◌^◌}
use mathlib.Core.Path.{◌≡◌}
use Rattle.coding.specs.Codes.{unsigned_bits, put_bits}
use Rattle.bits_write.proofs.write_u.Given as goal

abbrev pub invariant-loop-i : goal.invariant-loop-i
invariant-loop-i l = l.bytes ≡ put_bits l.initial.bytes l.p (unsigned_bits l.i (l.v / 2 ^ (l.w - l.i)))
