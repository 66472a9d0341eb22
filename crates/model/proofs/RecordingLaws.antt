-- What rising ticks give. Definitions: specs/Recording.antt.
--     distance-split   ticks from i to l are those from i to j and from j to l
--     distance-le      ticks between two pictures are at most the span
--     within-near      within the limits every picture is near the first
-- Assumes nothing.
use Prim.Native.Nat.{ℕ, zero, suc, ◌+◌, ◌-◌, ◌≤◌, ◌<◌}
use native.Mathlib.Omega.{arith}
use mathlib.Core.Path.{◌≡◌}
use Rattle.rules.specs.Limits.{span_max}
use Rattle.model.specs.Recording.{Recording, Recorded, Within, pictures, distance, span}
use Rattle.terms.proofs.NumbersLaws.{rising-le}

pub distance-split : {k : Recording} → Recorded k → {i j l : ℕ} → i ≤ j → j ≤ l → l < pictures k → distance k i l ≡ distance k i j + distance k j l
distance-split {k} rec {i} {j} {l} h h' g = omega (arith, rising-le k.ticks rec.rising i j h (omega arith), rising-le k.ticks rec.rising j l h' g)

pub distance-le : {k : Recording} → Recorded k → {i j : ℕ} → i ≤ j → j < pictures k → distance k i j ≤ span k
distance-le {k} rec {i} {j} h g =
    omega (arith, rising-le k.ticks rec.rising 0 i (omega arith) (omega arith), rising-le k.ticks rec.rising j (pictures k - 1) (omega arith) (omega arith))

pub within-near : {k : Recording} → Within k → (i : ℕ) → i < pictures k → distance k 0 i ≤ span_max
within-near w zero h = omega arith
within-near w (suc i) h = w.near i h
