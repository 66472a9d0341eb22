-- What is true of words in a list of bytes. Definitions: specs/Words.antt.
--     word_at-back    the bytes of a word are that word
-- Assumes nothing.
use Prim.Native.Nat.{ℕ, ◌^◌, ◌<◌}
use native.Mathlib.Omega.{arith}
use mathlib.Core.Path.{◌≡◌}
use Rattle.terms.specs.Words.{word_at, word_bytes}

pub word_at-back : (x : ℕ) → x < 2 ^ 32 → word_at (word_bytes x) 0 ≡ x
word_at-back x h = omega arith
