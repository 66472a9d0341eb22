-- What the least figures are. Definitions: specs/Least.antt.
--     bits_before-mono        more pictures have no fewer bits
--     bits_before-le          n pictures of at most m bits have at most n x m
--     need-le                 TS x b covers a span's need exactly when, with its ticks, it covers its bits
--     least_fullness-le       least F is at most f exactly when TS x f covers the need of every span from picture 0
--     least_buffer-le         least B is at most b exactly when TS x b covers the need of every span
--     least_fullness-buffer   least F is at most least B
--     least_fullness-some     least F is at least 1, and so is least B
--     least_buffer-limit      within the limits least B, and so least F, is at most the bucket limit
-- Assumes nothing.
use Prim.Native.Nat.{ℕ, zero, suc, ◌+◌, ◌*◌, ◌≤◌, ◌<◌, zero-le}
use native.Mathlib.Nat.{le_refl, le_trans, le_of_eq, le_step, le_antisymm, lt_of_not-le, eq-or-lt_of_le, suc-le-suc_iff, mul-le-mul, mul-le-mul_left, mul-sub, mul-zero, sub-zero, sub_self, add-sub_cancel_left}
use native.Mathlib.Omega.{arith}
use mathlib.Core.Path.{◌≡◌, ap}
use mathlib.Core.Logic.{◌↔◌, ⊎_elim}
use Rattle.rules.specs.Limits.{pictures_max, size_max, bucket_max}
use Rattle.rules.proofs.Fits.{bits-fits}
use Rattle.terms.specs.Numbers.{largest}
use Rattle.model.specs.Recording.{Recording, Recorded, pictures, size, tick, distance}
use Rattle.model.specs.Least.{bits_before, need, fullness_need, buffer_need, least_fullness, least_buffer}
use Rattle.terms.proofs.NumbersLaws.{round_up-le, round_up-mono, largest-above, largest-le}

pub bits_before-mono : (k : Recording) (i j : ℕ) → i ≤ j → bits_before k i ≤ bits_before k j
unfolding bits_before
bits_before-mono k i zero h = le_of_eq (ap (bits_before k) (le_antisymm h zero-le))
bits_before-mono k i (suc j) h =
    ⊎_elim (λ e. le_of_eq (ap (bits_before k) e)) (λ l. omega (arith, bits_before-mono k i j (suc-le-suc_iff.0 l)))
    (eq-or-lt_of_le h)

pub bits_before-le : (k : Recording) (m n : ℕ) → ((i : ℕ) → i < n → size k i ≤ m) → bits_before k n ≤ n * m
unfolding bits_before
bits_before-le k m zero h = omega arith
bits_before-le k m (suc n) h = omega (arith, bits_before-le k m n (λ i g. h i (omega arith)), h n (le_refl (suc n)))

pub need-le : (k : Recording) (rate i j y : ℕ) → i ≤ suc j → (need k rate i j ≤ y) ↔ (k.ts * bits_before k (suc j) ≤ y + k.ts * bits_before k i + rate * k.nu * distance k i j)
need-le k rate i j y before =
    let g : bits_before k i ≤ bits_before k (suc j) = bits_before-mono k i (suc j) before in
    let e = mul-sub k.ts (bits_before k (suc j)) (bits_before k i) in
    (λ h. omega (arith, e, mul-le-mul_left k.ts g), λ h. omega (arith, e, mul-le-mul_left k.ts g))

pub need-self : (k : Recording) (rate i : ℕ) → need k rate i i ≡ k.ts * size k i
unfolding bits_before
need-self k rate i = rw (add-sub_cancel_left (bits_before k i) (size k i), sub_self (tick k i), mul-zero, sub-zero)

pub least_fullness-le : (k : Recording) (rate f : ℕ) → 1 ≤ k.ts → (least_fullness k rate ≤ f) ↔ ((j : ℕ) → j < pictures k → need k rate 0 j ≤ k.ts * f)
least_fullness-le k rate f ht = (
  λ h j g. le_trans (largest-above (λ j. need k rate 0 j) (pictures k) g) ((round_up-le k.ts (fullness_need k rate) f ht).0 h),
  λ h. (round_up-le k.ts (fullness_need k rate) f ht).1 (largest-le (λ j. need k rate 0 j) (pictures k) h),
)

pub need-le-buffer_need : (k : Recording) (rate i j : ℕ) → i ≤ j → j < pictures k → need k rate i j ≤ buffer_need k rate
need-le-buffer_need k rate i j h g =
    le_trans (largest-above (λ i. need k rate i j) (suc j) (suc-le-suc_iff.1 h))
    (largest-above (λ j. largest (λ i. need k rate i j) (suc j)) (pictures k) g)

pub least_buffer-le : (k : Recording) (rate b : ℕ) → 1 ≤ k.ts → (least_buffer k rate ≤ b) ↔ ((i j : ℕ) → i ≤ j → j < pictures k → need k rate i j ≤ k.ts * b)
least_buffer-le k rate b ht = (
  λ h i j g g'. le_trans (need-le-buffer_need k rate i j g g') ((round_up-le k.ts (buffer_need k rate) b ht).0 h),
  λ h. (round_up-le k.ts (buffer_need k rate) b ht).1
      (largest-le _ (pictures k) (λ j g'. largest-le (λ i. need k rate i j) (suc j) (λ i g. h i j (suc-le-suc_iff.0 g) g'))),
)

pub least_fullness-buffer : (k : Recording) (rate : ℕ) → 1 ≤ k.ts → least_fullness k rate ≤ least_buffer k rate
least_fullness-buffer k rate ht =
    round_up-mono k.ts ht (largest-le (λ j. need k rate 0 j) (pictures k) (λ j g. need-le-buffer_need k rate 0 j zero-le g))

pub least_fullness-some : {k : Recording} (rate : ℕ) → Recorded k → 1 ≤ least_fullness k rate
least_fullness-some {k} rate rec =
    lt_of_not-le λ h.
    let g : need k rate 0 0 ≤ k.ts * 0 = (least_fullness-le k rate 0 rec.ticking).0 h 0 rec.some in
    omega (arith, need-self k rate 0, mul-le-mul rec.ticking (rec.sized 0 rec.some))

pub least_buffer-limit : {k : Recording} (rate : ℕ) → Recorded k → pictures k ≤ pictures_max → ((i : ℕ) → i < pictures k → size k i ≤ size_max) → least_buffer k rate ≤ bucket_max
least_buffer-limit {k} rate rec hn hs =
    (least_buffer-le k rate bucket_max rec.ticking).1
    (λ i j h g.
    (need-le k rate i j (k.ts * bucket_max) (le_step h)).1
    (omega (arith, mul-le-mul_left k.ts (bits-fits {n = suc j} (le_trans g hn) (bits_before-le k size_max (suc j) (λ l e. hs l (le_trans e g)))).0)))
