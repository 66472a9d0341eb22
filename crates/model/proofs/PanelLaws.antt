-- What a quotient of two whole numbers is as a double. Definitions: specs/Panel.antt.
--     quotient-nearest    it is the double nearest to the fraction: one rounding
--     quotient-whole      a whole-number quotient is exact
--     quotient-positive   it is finite and above 0: never a NaN, an infinity, a zero or negative
--     ten-seconds         10000 bits at 1000 bits per second take exactly 10.0 seconds
-- Assumes nothing.
use Prim.Native.Nat.{ℕ, ◌*◌, ◌^◌, ◌≤◌}
use native.Mathlib.Nat.{mul-pos, mul-one, mul-le-mul}
use native.Mathlib.Omega.{arith}
use mathlib.Core.Path.{◌≡◌, sym, ap, ◌∙◌}
use mathlib.Core.Bool.{true, false}
use lib.Dec.{T, ltb→lt, lit<, lit≤}
use lib.IntN.{pos}
use lib.Ieee.{Float, nan, inf, fin, Format, binary64, round, div, of_int}
use lib.Ieee.Exact.{HasValue}
use lib.Ieee.Back.{round_whole}
use lib.Ieee.Scale.{round_same}
use lib.Ieee.Order.{round_mono}
use lib.Ieee.Positive.{num, den, positive, den_pos, value→cross, positive_of_value, between}
use borrow.Author.Tests.{ne_eqb}
use Rattle.model.specs.Panel.{quotient}

-- the quotient of two positive values is their fraction, rounded once
div-is : (f : Format) (x y : Float) → T (positive x) → T (positive y) → div f x y ≡ round f false (num x * den y) (num y * den x)
unfolding div
div-is f nan y p q = absurd p
div-is f (inf s) y p q = absurd p
div-is f (fin true m e) y p q = absurd p
div-is f (fin false m e) nan p q = absurd q
div-is f (fin false m e) (inf t) p q = absurd q
div-is f (fin false m e) (fin true n d) p q = absurd q
div-is f (fin false m e) (fin false n d) p q = rw (ne_eqb n 0 (λ z. omega (arith, ltb→lt 0 n q)))

-- the smallest and the largest fraction of two numbers from 1 to 2^53, rounded
ends : T (positive (round binary64 false 1 (2 ^ 53))) × T (positive (round binary64 false (2 ^ 53) 1))
unfolding round
ends = (tt, tt)

module _ (x r : ℕ) (hx : 1 ≤ x) (hx' : x ≤ 2 ^ 53) (hr : 1 ≤ r) (hr' : r ≤ 2 ^ 53) where
  whole : (n : ℕ) → n ≤ 2 ^ 53 → HasValue (of_int binary64 (pos n)) false n 1
  unfolding of_int
  whole n h = round_whole binary64 false n h

  held : (n : ℕ) → 1 ≤ n → n ≤ 2 ^ 53 → T (positive (of_int binary64 (pos n)))
  held n h h' = positive_of_value (of_int binary64 (pos n)) n 1 (whole n h') h

  cross : (n : ℕ) → n ≤ 2 ^ 53 → num (of_int binary64 (pos n)) ≡ n * den (of_int binary64 (pos n))
  cross n h = sym (mul-one _) ∙ value→cross (of_int binary64 (pos n)) n 1 (whole n h)

  pub quotient-nearest : quotient x r ≡ round binary64 false x r
  quotient-nearest =
      let a = of_int binary64 (pos x) in
      let b = of_int binary64 (pos r) in
      div-is binary64 a b (held x hx hx') (held r hr hr')
      ∙ round_same binary64 false (num a * den b) (num b * den a) x r (rw (cross r hr') (mul-pos (mul-pos hr (den_pos b)) (den_pos a))) hr
      (ap (λ n. n * den b * r) (cross x hx') ∙ omega arith ∙ ap (λ n. x * (n * den a)) (sym (cross r hr')))

  pub quotient-positive : T (positive (quotient x r))
  quotient-positive =
      rw quotient-nearest
      (between (round binary64 false 1 (2 ^ 53)) (round binary64 false x r) (round binary64 false (2 ^ 53) 1) ends.0 ends.1
      (round_mono binary64 1 (2 ^ 53) x r (lit< tt) hr (omega arith))
      (round_mono binary64 x r (2 ^ 53) 1 hr (lit< tt) (omega arith)))

pub quotient-whole : (q r : ℕ) → 1 ≤ q → 1 ≤ r → q * r ≤ 2 ^ 53 → r ≤ 2 ^ 53 → quotient (q * r) r ≡ of_int binary64 (pos q)
unfolding of_int
quotient-whole q r hq hr most hr' =
    quotient-nearest (q * r) r (mul-le-mul hq hr) most hr hr' ∙ round_same binary64 false (q * r) r q 1 hr (lit< tt) (mul-one (q * r))

pub ten-seconds : quotient 10000 1000 ≡ of_int binary64 (pos 10)
ten-seconds = quotient-whole 10 1000 (lit≤ tt) (lit≤ tt) (lit≤ tt) (lit≤ tt)
