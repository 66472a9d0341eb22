-- The steps, picture by picture, give the least figures' own needs. Definitions: specs/Needs.antt, specs/Least.antt.
--     needs_below-total      all bits so far
--     needs_below-level      the largest need of a span that ends at the last picture
--     needs_below-buffer     the largest need of any span so far
--     needs_below-fullness   the largest need of a span from picture 0 so far
--     tick_before-more       one picture on, the tick before is this picture's
--     tick_before-between    it is at least the first tick, and at most its own picture's
--     needs_below-more       and the needs are one step further
--     needs_below-covers     all bits so far cover every need
--     needs_below-limit      and within the limits a buffer of the largest size covers them
--     needs_below-least      after the last picture these are the needs of the least figures
-- Assumes nothing.
use Prim.Native.Nat.{ℕ, zero, suc, ◌+◌, ◌-◌, ◌*◌, ◌≤◌, ◌<◌, max, zero-le}
use native.Mathlib.Nat.{le_refl, le_trans, le_step, le_of_lt, le_antisymm, lt-suc_self, zero-lt-suc, suc-le-suc_iff, eq-or-lt_of_le, mul-zero, mul-add, mul-le-mul_left, sub-zero, zero-max}
use native.Mathlib.Decide.{dec_le}
use native.Mathlib.Numerals.{add-one}
use native.Mathlib.Omega.{arith}
use mathlib.Core.Path.{◌≡◌, refl, sym, ap, ◌∙◌}
use mathlib.Core.Logic.{⊎_elim}
use Rattle.rules.specs.Limits.{size_max, bucket_max}
use Rattle.rules.proofs.Fits.{bits-fits}
use Rattle.terms.specs.Numbers.{largest}
use Rattle.model.specs.Recording.{Recording, Recorded, Within, pictures, size, tick, distance}
use Rattle.model.specs.Least.{bits_before, bits_from_to, need, fullness_need, buffer_need}
use Rattle.model.specs.Needs.{needs_step, tick_before, needs_below}
use Rattle.terms.proofs.NumbersLaws.{rising-le, largest-above, largest-le, largest-attained}
use Rattle.model.proofs.RecordingLaws.{distance-split}
use Rattle.model.proofs.LeastLaws.{bits_before-mono, bits_before-le, need-self}

pub needs_below-total : (k : Recording) (rate n : ℕ) → (needs_below k rate n).total ≡ k.ts * bits_before k n
unfolding needs_below bits_before
needs_below-total k rate zero = sym (mul-zero k.ts)
needs_below-total k rate (suc n) = rw (needs_below-total k rate n, mul-add)

from-zero : (k : Recording) (n : ℕ) → k.ts * bits_before k n + k.ts * size k n ≡ k.ts * bits_from_to k 0 n
unfolding bits_before
from-zero k n = rw (sub-zero, mul-add)

pub needs_below-fullness : (k : Recording) (rate n : ℕ) → (needs_below k rate n).fullness ≡ largest (λ j. need k rate 0 j) n
unfolding needs_below largest
needs_below-fullness k rate zero = refl
needs_below-fullness k rate (suc n) =
    rw (needs_below-fullness k rate n, needs_below-total k rate n)
    (ap (λ x. max (largest (λ j. need k rate 0 j) n) (x - rate * k.nu * distance k 0 n)) (from-zero k n))

-- one picture more, for a span that goes on to it
need-step : {k : Recording} → Recorded k → (rate i j : ℕ) → i ≤ j → suc j < pictures k
    → need k rate i (suc j) ≡ k.ts * bits_from_to k i j + k.ts * size k (suc j) - (rate * k.nu * distance k i j + rate * k.nu * distance k j (suc j))
unfolding bits_before
need-step {k} rec rate i j h g =
    let bits : bits_from_to k i (suc j) ≡ bits_from_to k i j + size k (suc j) = omega (arith, bits_before-mono k i (suc j) (le_step h)) in
    rw (bits, distance-split rec h (le_step (le_refl j)) g, mul-add k.ts, mul-add (rate * k.nu))

-- what a level of x at picture j becomes at the next one
abbrev after : (k : Recording) (rate j x : ℕ) → ℕ
after k rate j x = x - rate * k.nu * distance k j (suc j) + k.ts * size k (suc j)

module _ (k : Recording) (rec : Recorded k) (rate j : ℕ) (g : suc j < pictures k) where
  after-above : (i : ℕ) → i < suc (suc j) → need k rate i (suc j) ≤ after k rate j (largest (λ i. need k rate i j) (suc j))
  after-above i h =
      ⊎_elim
      (λ e. omega (arith, ap (λ i. need k rate i (suc j)) e, need-self k rate (suc j)))
      (λ l. omega (arith, need-step rec rate i j (suc-le-suc_iff.0 l) g, largest-above (λ i. need k rate i j) (suc j) l))
      (eq-or-lt_of_le (suc-le-suc_iff.0 h))

  after-attained : after k rate j (largest (λ i. need k rate i j) (suc j)) ≤ largest (λ i. need k rate i (suc j)) (suc (suc j))
  after-attained =
      let (i, h, e) = largest-attained (λ i. need k rate i j) (suc j) (zero-lt-suc j) in
      let last = largest-above (λ i. need k rate i (suc j)) (suc (suc j)) (lt-suc_self (suc j)) in
      let on = largest-above (λ i. need k rate i (suc j)) (suc (suc j)) (le_step h) in
      elim (dec_le (largest (λ i. need k rate i j) (suc j)) (rate * k.nu * distance k j (suc j))) [
        | yes l ↦ omega (arith, last, need-self k rate (suc j))
        | no l ↦ omega (arith, on, need-step rec rate i j (suc-le-suc_iff.0 h) g, e)
      ]

  level-step : after k rate j (largest (λ i. need k rate i j) (suc j)) ≡ largest (λ i. need k rate i (suc j)) (suc (suc j))
  level-step = le_antisymm after-attained (largest-le (λ i. need k rate i (suc j)) (suc (suc j)) after-above)

pub needs_below-level : (k : Recording) → Recorded k → (rate j : ℕ) → j < pictures k → (needs_below k rate (suc j)).level ≡ largest (λ i. need k rate i j) (suc j)
unfolding needs_below
needs_below-level k rec rate zero h = unfold largest in (omega (arith, need-self k rate 0, zero-max (need k rate 0 0)))
needs_below-level k rec rate (suc j) h = ap (after k rate j) (needs_below-level k rec rate j (le_of_lt h)) ∙ level-step k rec rate j h

pub needs_below-buffer : (k : Recording) → Recorded k → (rate n : ℕ) → n ≤ pictures k → (needs_below k rate n).buffer ≡ largest (λ j. largest (λ i. need k rate i j) (suc j)) n
unfolding needs_below largest
needs_below-buffer k rec rate zero h = refl
needs_below-buffer k rec rate (suc n) h =
    rw (needs_below-buffer k rec rate n (le_of_lt h)) (ap (max (largest (λ j. largest (λ i. need k rate i j) (suc j)) n)) (needs_below-level k rec rate n h))

pub tick_before-more : (k : Recording) (n : ℕ) → tick_before k (n + 1) ≡ tick k n
tick_before-more k n = rw add-one

pub tick_before-between : {k : Recording} → Recorded k → (n : ℕ) → n < pictures k → (tick k 0 ≤ tick_before k n) × (tick_before k n ≤ tick k n)
tick_before-between rec zero h = (le_refl _, le_refl _)
tick_before-between {k} rec (suc n) h = (rising-le k.ticks rec.rising 0 n zero-le (le_of_lt h), le_of_lt (rec.rising n h))

pub needs_below-more : (k : Recording) (rate n : ℕ)
    → needs_below k rate (n + 1) ≡ needs_step (needs_below k rate n) (k.ts * size k n) (rate * k.nu * (tick k n - tick_before k n)) (rate * k.nu * distance k 0 n)
unfolding needs_below
needs_below-more k rate n = rw add-one

pub needs_below-covers : (k : Recording) (rate n : ℕ)
    → ((needs_below k rate n).level ≤ (needs_below k rate n).total)
    × ((needs_below k rate n).buffer ≤ (needs_below k rate n).total)
    × ((needs_below k rate n).fullness ≤ (needs_below k rate n).total)
unfolding needs_below
needs_below-covers k rate zero = (le_refl 0, le_refl 0, le_refl 0)
needs_below-covers k rate (suc n) =
    let (level, buffer, fullness) = needs_below-covers k rate n in
    (omega arith, omega arith, omega arith)

pub needs_below-limit : {k : Recording} → Within k → (rate : ℕ) {n : ℕ} → n ≤ pictures k → (needs_below k rate n).total ≤ k.ts * bucket_max
needs_below-limit {k} w rate {n} h =
    rw (needs_below-total k rate n)
    (mul-le-mul_left k.ts (bits-fits {n = n} (le_trans h w.few) (bits_before-le k size_max n (λ i g. w.small i (le_trans g h)))).0)

pub needs_below-least : (k : Recording) → Recorded k → (rate : ℕ)
    → ((needs_below k rate (pictures k)).buffer ≡ buffer_need k rate) × ((needs_below k rate (pictures k)).fullness ≡ fullness_need k rate)
needs_below-least k rec rate = (needs_below-buffer k rec rate (pictures k) (le_refl (pictures k)), needs_below-fullness k rate (pictures k))
