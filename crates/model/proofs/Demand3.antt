-- Demand 3, from one fact of a figure as the rate grows: it is the largest of straight lines that fall. Statements: specs/Demands.antt.
--     Lines            a figure over the rate that does not rise, falls by at most t for each bit per second, and lies on or
--                      below its chords
--     need-lines       what one span needs is such a figure, t being NU x the span of the recording
--     largest-lines    so is the largest of such figures
--     chord-le         interpolated and rounded up it is at least the figure between
--     excess-lt        and exceeds it by less than the allowance
--     demand3-holds    the interpolated bucket holds the recording at r
--     demand3-excess   and exceeds each least figure at r by less than the allowance
-- Assumes nothing.
use Prim.Native.Nat.{ℕ, suc, ◌+◌, ◌-◌, ◌*◌, ◌≤◌, ◌<◌, zero-le}
use native.Mathlib.Nat.{le_trans, le_of_lt, mul-le-mul_left, mul-le-mul_right, le_of_mul-le-mul_left, sub-eq-zero_of_le, mul-zero, mul_assoc, add-mul, add-sub_of_le, add-le-add, sub-le-sub_left, suc-le-suc_iff}
use native.Mathlib.Decide.{dec_le}
use native.Mathlib.Omega.{arith}
use mathlib.Core.Path.{◌≡◌, sym, ap, ◌∙◌, subst, subst⁻¹}
use Rattle.terms.specs.Numbers.{round_up, largest}
use Rattle.model.specs.Recording.{Recording, Recorded, pictures, distance, span}
use Rattle.model.specs.Least.{bits_from_to, need, fullness_need, buffer_need, least_fullness, least_buffer}
use Rattle.model.specs.Demands.{allowed, between, Demand3Holds, Demand3Excess}
use Rattle.terms.proofs.NumbersLaws.{round_up-le, round_up-above, round_up-lt, round_up-mono, largest-above, largest-le, largest-scaled}
use Rattle.model.proofs.RecordingLaws.{distance-le}
use Rattle.model.proofs.LeastLaws.{least_fullness-buffer, least_fullness-some}
use Rattle.model.proofs.LookupLaws.{blend-above, blend-lt}
use Rattle.model.proofs.Demand2.{demand2}

pub record Lines (m : ℕ → ℕ) (t : ℕ) : Type 0 where
  pub falls : {a r : ℕ} → a ≤ r → m r ≤ m a
  pub slope : {a r : ℕ} → a ≤ r → m a ≤ m r + (r - a) * t
  pub chord : {a r b : ℕ} → a ≤ r → r ≤ b → (r - a + (b - r)) * m r ≤ (b - r) * m a + (r - a) * m b

-- three points of a line, the last no lower than the line goes on
line-chord : (p q x y z : ℕ) → y ≤ z + q * x → (p + q) * y ≤ q * (y + p * x) + p * z
line-chord p q x y z h = omega (arith, mul-le-mul_left p h)

rate-split : {a r : ℕ} (x : ℕ) → a ≤ r → r * x ≡ a * x + (r - a) * x
rate-split {a} {r} x h = ap (λ y. y * x) (sym (add-sub_of_le h)) ∙ add-mul a (r - a) x

-- a line that falls by x, stopping at 0
line-lines : (c x t : ℕ) → x ≤ t → Lines (λ r. c - r * x) t
line-lines c x t h =
    record {
      falls = λ lo. sub-le-sub_left (mul-le-mul_right x lo) c;
      slope = λ {a} {r} lo. omega (arith, rate-split x lo, mul-le-mul_left (r - a) h);
      chord =
          λ {a} {r} {b} lo hi.
          elim (dec_le c (r * x)) [
            | yes g ↦ rw (sub-eq-zero_of_le g, mul-zero) zero-le
            | no g ↦
                let e : c - a * x ≡ c - r * x + (r - a) * x = omega (arith, rate-split x lo) in
                rw e (line-chord (r - a) (b - r) x (c - r * x) (c - b * x) (omega (arith, rate-split x hi)))
          ];
    }

need-lines : {k : Recording} → Recorded k → {i j : ℕ} → i ≤ j → j < pictures k → Lines (λ r. need k r i j) (k.nu * span k)
need-lines {k} rec {i} {j} h g =
    let lines = line-lines (k.ts * bits_from_to k i j) (k.nu * distance k i j) (k.nu * span k) (mul-le-mul_left k.nu (distance-le rec h g)) in
    simp (mul_assoc) lines

largest-lines : (f : ℕ → ℕ → ℕ) (n t : ℕ) → ((i : ℕ) → i < n → Lines (f i) t) → Lines (λ r. largest (λ i. f i r) n) t
largest-lines f n t h =
    record {
      falls = λ {a} lo. largest-le _ n (λ i g. le_trans ((h i g).falls lo) (largest-above (λ i. f i a) n g));
      slope = λ {a} {r} lo. largest-le _ n (λ i g. omega (arith, (h i g).slope lo, largest-above (λ i. f i r) n g));
      chord =
          λ {a} {r} {b} lo hi.
          largest-scaled (r - a + (b - r)) _ n
          (λ i g.
          le_trans ((h i g).chord lo hi)
          (add-le-add
          (mul-le-mul_left (b - r) (largest-above (λ i. f i a) n g))
          (mul-le-mul_left (r - a) (largest-above (λ i. f i b) n g))));
    }

-- The next two take plain numbers: the needs x, y and z at the rates a, r and b, with r - a = p and b - r = q; the figures x', y'
-- and z', which are they divided by TS and rounded up; and the interpolated figure, of which only its two bounds count.
chord-le : (ts p q x y z x' z' up : ℕ) → 0 < p + q → (p + q) * y ≤ q * x + p * z → x ≤ ts * x' → z ≤ ts * z'
    → x' * q + z' * p ≤ (p + q) * up → y ≤ ts * up
chord-le ts p q x y z x' z' up apart chord hx hz above =
    le_of_mul-le-mul_left (omega (arith, mul-le-mul_left q hx, mul-le-mul_left p hz, mul-le-mul_left ts above)) apart

excess-lt : (ts p q x y z t x' y' z' e : ℕ) → 1 ≤ ts → x ≤ y + p * t → z ≤ y → ts * x' < x + ts → ts * z' < z + ts → y ≤ ts * y'
    → (p + q) * (y' + e) < x' * q + z' * p + (p + q) → e * ts * (p + q) < allowed ts t (p + q) p q
excess-lt ts p q x y z t x' y' z' e ticking hx hz hx' hz' hy' below =
    omega (
      arith,
      mul-le-mul_left q hx,
      mul-le-mul_left p hz,
      mul-le-mul_left q (le_of_lt hx'),
      mul-le-mul_left p (le_of_lt hz'),
      mul-le-mul_left (p + q) hy',
      mul-le-mul_left ts below,
    )

-- the law for X = B and X = F: m r is what X needs at the rate r, round_up (m r) ts the least X there
module _ (m : ℕ → ℕ) (t ts : ℕ) (lines : Lines m t) (ticking : 1 ≤ ts) (ra rb r : ℕ) (apart : ra < rb) (lo : ra ≤ r) (hi : r ≤ rb) where
  rates-split : rb - ra ≡ r - ra + (rb - r)
  rates-split = omega arith

  figure-holds : round_up (m r) ts ≤ between (λ r. round_up (m r) ts) ra rb r
  figure-holds =
      let up = between (λ r. round_up (m r) ts) ra rb r in
      (round_up-le ts (m r) up ticking).1
      (chord-le ts (r - ra) (rb - r) (m ra) (m r) (m rb) (round_up (m ra) ts) (round_up (m rb) ts) up (omega arith)
      (lines.chord lo hi)
      (round_up-above ts (m ra) ticking)
      (round_up-above ts (m rb) ticking)
      (subst (λ d. round_up (m ra) ts * (rb - r) + round_up (m rb) ts * (r - ra) ≤ d * up) rates-split
      (blend-above ra rb (round_up (m ra) ts) (round_up (m rb) ts) r apart)))

  figure-excess : (between (λ r. round_up (m r) ts) ra rb r - round_up (m r) ts) * ts * (rb - ra) < allowed ts t (rb - ra) (r - ra) (rb - r)
  figure-excess =
      let up = between (λ r. round_up (m r) ts) ra rb r in
      let e = up - round_up (m r) ts in
      subst⁻¹ (λ d. e * ts * d < allowed ts t d (r - ra) (rb - r)) rates-split
      (excess-lt ts (r - ra) (rb - r) (m ra) (m r) (m rb) t (round_up (m ra) ts) (round_up (m r) ts) (round_up (m rb) ts) e ticking
      (lines.slope lo)
      (lines.falls hi)
      (round_up-lt ts (m ra) ticking)
      (round_up-lt ts (m rb) ticking)
      (round_up-above ts (m r) ticking)
      (rw (add-sub_of_le figure-holds)
      (subst (λ d. d * up < round_up (m ra) ts * (rb - r) + round_up (m rb) ts * (r - ra) + d) rates-split
      (blend-lt ra rb (round_up (m ra) ts) (round_up (m rb) ts) r apart))))

fullness_need-lines : {k : Recording} → Recorded k → Lines (fullness_need k) (k.nu * span k)
fullness_need-lines {k} rec = largest-lines (λ j r. need k r 0 j) (pictures k) (k.nu * span k) (λ j g. need-lines rec zero-le g)

buffer_need-lines : {k : Recording} → Recorded k → Lines (buffer_need k) (k.nu * span k)
buffer_need-lines {k} rec =
    largest-lines (λ j r. largest (λ i. need k r i j) (suc j)) (pictures k) (k.nu * span k)
    (λ j g. largest-lines (λ i r. need k r i j) (suc j) (k.nu * span k) (λ i h. need-lines rec (suc-le-suc_iff.0 h) g))

pub demand3-holds : Demand3Holds
demand3-holds k rec ra rb r apart lo hi =
    let holds_b = figure-holds (buffer_need k) (k.nu * span k) k.ts (buffer_need-lines rec) rec.ticking ra rb r apart lo hi in
    let holds_f = figure-holds (fullness_need k) (k.nu * span k) k.ts (fullness_need-lines rec) rec.ticking ra rb r apart lo hi in
    let within =
    round_up-mono (rb - ra) (omega arith)
    (add-le-add
    (mul-le-mul_right (rb - r) (least_fullness-buffer k ra rec.ticking))
    (mul-le-mul_right (r - ra) (least_fullness-buffer k rb rec.ticking))) in (
      within,
      holds_b,
      holds_f,
      (demand2 k rec r (between (least_buffer k) ra rb r) (between (least_fullness k) ra rb r) (le_trans (least_fullness-some r rec) holds_f) within).1
          (holds_b, holds_f),
    )

pub demand3-excess : Demand3Excess
demand3-excess k rec ra rb r apart lo hi = (
  figure-excess (buffer_need k) (k.nu * span k) k.ts (buffer_need-lines rec) rec.ticking ra rb r apart lo hi,
  figure-excess (fullness_need k) (k.nu * span k) k.ts (fullness_need-lines rec) rec.ticking ra rb r apart lo hi,
)
