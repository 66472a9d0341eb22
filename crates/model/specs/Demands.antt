-- Demands 2 and 3 as propositions over the definitions. What must be believed of them is read here; they are proved in
-- proofs/Demand2.antt and proofs/Demand3.antt, for lists and numbers of any size. Variable rate only.
--     Demand2         a bucket holds the recording exactly when both figures are at least the least
--     LeastHolds      the least bucket holds
--     BufferTight     one bit less of buffer is late at some picture, or no bucket
--     FullnessTight   one bit less of fullness is late at some picture, or no bucket
--     GrowingHolds    growing B, or F within B, never turns "holds" into late
--     allowed         demand 3's allowance, times TS x (Rb - Ra), from TS, NU x span and the three rate differences
--     allowance       the same for a recording and two rows
--     Allowed         an excess below the allowance
--     Demand3Holds    the interpolated bucket holds the recording at r
--     Demand3Excess   and exceeds each least figure at r by less than the allowance
-- Assumes nothing.
use Rattle.std.specs.Prelude.{ℕ, ◌+◌, ◌-◌, ◌*◌, ◌≤◌, ◌<◌, ◌≡◌, ◌↔◌}
use Rattle.model.specs.Recording.{Recording, Recorded, span}
use Rattle.model.specs.Arrival.{bucket, verdict_of, holds}
use Rattle.model.specs.Least.{least_buffer, least_fullness, least_bucket}
use Rattle.model.specs.Lookup.{blend}

-- "A bucket with fullness no larger than its buffer is judged to hold the recording exactly when both are at least those two figures"
abbrev pub Demand2 : Type 0
Demand2 =
    (k : Recording) → Recorded k → (rate b f : ℕ) → 1 ≤ f → f ≤ b
    → (verdict_of k (bucket rate b f) ≡ holds) ↔ ((least_buffer k rate ≤ b) × (least_fullness k rate ≤ f))

abbrev pub LeastHolds : Type 0
LeastHolds = (k : Recording) → Recorded k → (rate : ℕ) → verdict_of k (least_bucket k rate) ≡ holds

-- "one bit less must be late or no bucket"
abbrev pub BufferTight : Type 0
BufferTight =
    (k : Recording) → Recorded k → (rate b f : ℕ) → 1 ≤ f → f ≤ b → b < least_buffer k rate
    → ¬ (verdict_of k (bucket rate b f) ≡ holds)

abbrev pub FullnessTight : Type 0
FullnessTight =
    (k : Recording) → Recorded k → (rate b f : ℕ) → 1 ≤ f → f ≤ b → f < least_fullness k rate
    → ¬ (verdict_of k (bucket rate b f) ≡ holds)

abbrev pub GrowingHolds : Type 0
GrowingHolds =
    (k : Recording) → Recorded k → (rate b f b' f' : ℕ) → 1 ≤ f → f ≤ b → b ≤ b' → f ≤ f' → f' ≤ b'
    → verdict_of k (bucket rate b f) ≡ holds → verdict_of k (bucket rate b' f') ≡ holds

-- "2 x TS x (Rb - Ra) + NU x (last tick - first tick) x (r - Ra) x (Rb - r)"; d is Rb - Ra, p is r - Ra, q is Rb - r
abbrev pub allowed : (ts t d p q : ℕ) → ℕ
allowed ts t d p q = 2 * ts * d + t * p * q

abbrev pub allowance : Recording → (ra rb r : ℕ) → ℕ
allowance k ra rb r = allowed k.ts (k.nu * span k) (rb - ra) (r - ra) (rb - r)

-- "excess x TS x (Rb - Ra) is below" the allowance
abbrev pub Allowed : Recording → (ra rb r excess : ℕ) → Type 0
Allowed k ra rb r excess = excess * k.ts * (rb - ra) < allowance k ra rb r

-- the figure X between two rows of least figures, X at a rate being x
abbrev pub between : (x : ℕ → ℕ) (ra rb r : ℕ) → ℕ
between x ra rb r = blend ra rb (x ra) (x rb) r

-- "buffer and fullness interpolated straight and rounded up hold the recording at r"
abbrev pub Demand3Holds : Type 0
Demand3Holds =
    (k : Recording) → Recorded k → (ra rb r : ℕ) → ra < rb → ra ≤ r → r ≤ rb
    → (between (least_fullness k) ra rb r ≤ between (least_buffer k) ra rb r)
    × (least_buffer k r ≤ between (least_buffer k) ra rb r)
    × (least_fullness k r ≤ between (least_fullness k) ra rb r)
    × (verdict_of k (bucket r (between (least_buffer k) ra rb r) (between (least_fullness k) ra rb r)) ≡ holds)

-- "each exceeds the least figure at r by less than 2 bits plus the duration in seconds (first removal to last) times (r-a)(b-r)/(b-a), in
-- exact arithmetic"
abbrev pub Demand3Excess : Type 0
Demand3Excess =
    (k : Recording) → Recorded k → (ra rb r : ℕ) → ra < rb → ra ≤ r → r ≤ rb
    → Allowed k ra rb r (between (least_buffer k) ra rb r - least_buffer k r)
    × Allowed k ra rb r (between (least_fullness k) ra rb r - least_fullness k r)
