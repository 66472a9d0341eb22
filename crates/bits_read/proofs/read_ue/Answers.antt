-- `bits_read::read_ue` meets its contract: past the end no zero is counted.
-- Assumes nothing.
use Prim.Native.Nat.{ℕ, ◌-◌, min, ◌<◌}
use native.Mathlib.Omega.{arith}
use mathlib.Core.Path.{◌≡◌, sym}
use Rattle.rules.specs.Limits.{zeros_max}
use Rattle.coding.specs.Codes.{Bits, bits_of, ended, zeros_from, read_code, ue}
use Rattle.coding.proofs.CodesLaws.{got_within-past}
use Rattle.bits_read.proofs.read_ue.Goals as goal

outside : (x : Bits) (p : ℕ) → x.end < p → ended p ≡ read_code x ue p
unfolding zeros_from
outside x p h =
    let none : min zeros_max (x.end - p) ≡ 0 = omega arith in
    sym (rw none (got_within-past x p _ _ (omega arith)))

pub returns-then-end-p : goal.returns-then-end-p
returns-then-end-p c = outside (bits_of c.args.bytes.now) _ (omega arith)
