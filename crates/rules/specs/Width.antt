-- The width in which the planner computes.
--     word_bits      bits of the machine word that every product, sum and rounding-up is formed in
--     Word           a number that fits it
--     blend_widest   the largest figure for which an interpolation still fits: twice it does not
-- Laws: proofs/Fits.antt. Assumes nothing.
use Rattle.std.specs.Prelude.{ℕ, ◌^◌, ◌<◌}

abbrev pub word_bits : ℕ
word_bits = 64

abbrev pub Word : ℕ → Type 0
Word x = x < 2 ^ word_bits

abbrev pub blend_widest : ℕ
blend_widest = 2 ^ 37
