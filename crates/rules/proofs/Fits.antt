-- Every product, sum and rounding-up of the planner fits the machine word, from the limits alone.
-- Each law takes numbers within their limits; its last step is a comparison that is computed from the limits.
--     product-fits      a product of two numbers, from a bound on each
--     bits-fits         the sizes of a whole recording, added up, are at most a buffer, and fit
--     units-fits        TS x bits: a picture, a sum of sizes, a buffer or a fullness in units
--     tick_units-fits   R x NU x d: ticks in units; NU x d and R x NU with it
--     removal-fits      TS x F + R x NU x d
--     end-fits          units of all bits before, ticks in units, and one more picture
--     round_up-fits     a least figure's term, with TS - 1 added before the division
--     growth-fits       (R1 - r) x NU x span with TS - 1 added, and the answer below the first row
--     row_rate-fits     (value + 1) x 2^(6 + scale)
--     row_size-fits     (value + 1) x 2^(4 + scale)
--     position-fits     8 x bytes: the position after the last bit that counts
--     blend-le          an interpolation's sum with its rounding-up, from a bound on both figures
--     blend-fits        the same for two buckets, at every rate difference
--     blend-tight       figures twice as large as blend_widest would not fit
-- Definitions: specs/Limits.antt, specs/Width.antt. Assumes nothing.
use Prim.Native.Nat.{ℕ, ◌+◌, ◌-◌, ◌*◌, ◌^◌, ◌≤◌, ◌<◌}
use native.Mathlib.Nat.{le_trans, lt_of_le_of_lt, le_of_lt, mul-le-mul, mul-le-mul_left, mul-le-mul_right, pow-le-pow_right}
use native.Mathlib.Omega.{arith}
use lib.Dec.{lit<, lit≤}
use Rattle.rules.specs.Limits.{pictures_max, size_max, span_max, ts_max, nu_max, rate_max, bucket_max, value_max, scale_width, rate_shift, size_shift, bytes_max}
use Rattle.rules.specs.Width.{word_bits, Word, blend_widest}

pub product-fits : {a b m n : ℕ} → a ≤ m → b ≤ n → Word (m * n) → Word (a * b)
product-fits ha hb h = lt_of_le_of_lt (mul-le-mul ha hb) h

pub bits-fits : {n x : ℕ} → n ≤ pictures_max → x ≤ n * size_max → (x ≤ bucket_max) × Word x
bits-fits {n} {x} hn hx =
    let h : x ≤ pictures_max * size_max = le_trans hx (mul-le-mul_right size_max hn) in
    (le_trans h (lit≤ tt), lt_of_le_of_lt h (lit< tt))

pub units-fits : {ts x : ℕ} → ts ≤ ts_max → x ≤ bucket_max → Word (ts * x)
units-fits ht hx = product-fits ht hx (lit< tt)

pub tick_units-le : {r nu d : ℕ} → r ≤ rate_max → nu ≤ nu_max → d ≤ span_max → r * nu * d ≤ rate_max * nu_max * span_max
tick_units-le hr hn hd = mul-le-mul (mul-le-mul hr hn) hd

pub tick_units-fits : {r nu d : ℕ} → r ≤ rate_max → nu ≤ nu_max → d ≤ span_max → Word (r * nu) × Word (nu * d) × Word (r * nu * d)
tick_units-fits hr hn hd =
    (product-fits hr hn (lit< tt), product-fits hn hd (lit< tt), lt_of_le_of_lt (tick_units-le hr hn hd) (lit< tt))

pub removal-fits : {ts f r nu d : ℕ} → ts ≤ ts_max → f ≤ bucket_max → r ≤ rate_max → nu ≤ nu_max → d ≤ span_max → Word (ts * f + r * nu * d)
removal-fits ht hf hr hn hd = omega (arith, mul-le-mul ht hf, tick_units-le hr hn hd)

pub end-fits : {ts x y z : ℕ} → ts ≤ ts_max → x ≤ bucket_max → y ≤ rate_max * nu_max * span_max → z ≤ size_max → Word (ts * x + y + ts * z)
end-fits ht hx hy hz = omega (arith, mul-le-mul ht hx, mul-le-mul ht hz)

pub round_up-fits : {ts x y : ℕ} → ts ≤ ts_max → x ≤ bucket_max → y ≤ ts * x → Word (y + (ts - 1))
round_up-fits ht hx hy = omega (arith, mul-le-mul ht hx)

pub growth-fits : {p nu d ts x : ℕ} → p < rate_max → nu ≤ nu_max → d ≤ span_max → ts ≤ ts_max → x ≤ bucket_max → Word (p * nu * d + (ts - 1) + x)
growth-fits hp hn hd ht hx = omega (arith, tick_units-le (le_of_lt hp) hn hd)

scaled-le : (k : ℕ) {v s : ℕ} → v ≤ value_max → s < 2 ^ scale_width → (v + 1) * 2 ^ (k + s) ≤ (value_max + 1) * 2 ^ (k + (2 ^ scale_width - 1))
scaled-le k {v} {s} hv hs = mul-le-mul (omega (arith, hv)) (pow-le-pow_right (lit< tt) (omega (arith, hs)))

pub row_rate-fits : {v s : ℕ} → v ≤ value_max → s < 2 ^ scale_width → Word ((v + 1) * 2 ^ (rate_shift + s))
row_rate-fits hv hs = lt_of_le_of_lt (scaled-le rate_shift hv hs) (lit< tt)

pub row_size-fits : {v s : ℕ} → v ≤ value_max → s < 2 ^ scale_width → Word ((v + 1) * 2 ^ (size_shift + s))
row_size-fits hv hs = lt_of_le_of_lt (scaled-le size_shift hv hs) (lit< tt)

pub position-fits : {n : ℕ} → n ≤ bytes_max → Word (8 * n)
position-fits h = lt_of_le_of_lt (mul-le-mul_left 8 h) (lit< tt)

pub blend-le : (m p q : ℕ) {x y : ℕ} → x ≤ m → y ≤ m → 0 < p + q → p + q < rate_max → x * q + y * p + (p + q - 1) ≤ m * (rate_max - 1) + (rate_max - 2)
blend-le m p q {x} {y} hx hy h0 h =
    let h' : p + q ≤ rate_max - 1 = omega arith in
    omega (arith, mul-le-mul_right q hx, mul-le-mul_right p hy, mul-le-mul_left m h')

pub blend-fits : (p q : ℕ) {x y : ℕ} → x ≤ bucket_max → y ≤ bucket_max → 0 < p + q → p + q < rate_max → Word (x * q + y * p + (p + q - 1))
blend-fits p q hx hy h0 h =
    let wide : bucket_max ≤ blend_widest = lit≤ tt in
    lt_of_le_of_lt (blend-le blend_widest p q (le_trans hx wide) (le_trans hy wide) h0 h) (lit< tt)

pub blend-tight : 2 ^ word_bits ≤ 2 * blend_widest * (rate_max - 1) + (rate_max - 2)
blend-tight = lit≤ tt
