-- `bits_read::unsigned` meets its contract. The loop's invariant: `v` is the value of the `i` bits passed, and below 2^i.
-- Assumes nothing.
use Prim.Native.Nat.{◌^◌, ◌<◌}
use mathlib.Core.Path.{◌≡◌}
use Rattle.coding.specs.Codes.{bits_of, unsigned as unsigned_of}
use Rattle.bits_read.proofs.unsigned.Given as goal

abbrev pub invariant-loop-i : goal.invariant-loop-i
invariant-loop-i l = record { is : l.v ≡ unsigned_of (bits_of l.bytes) l.p l.i; below : l.v < 2 ^ l.i }
