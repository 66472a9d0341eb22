-- A list to which words were written. Definitions: terms/specs/Words.antt.
--     words-front   it has these words at its front
--     words-fit     and room for them
--     words-more    and when the next word is stored behind them, that one too
--     stored        what the check needs of this, for `read_words`
-- Assumes nothing.
use Prim.Native.Nat.{ℕ, ◌+◌, ◌*◌, ◌≤◌, ◌<◌}
use mathlib.Core.Path.{◌≡◌}
use mathlib.Core.List.{List}
use lib.ListN.{length, take, set}
use Rattle.terms.specs.Numbers.{written}
use Rattle.terms.specs.Words.{word_at, words_at}
use Rattle.terms.proofs.NumbersLaws.{list_of-length, written-front, written-fits, written-list_of}

module _ (bytes : List ℕ) (from n : ℕ) (l₀ l : List ℕ) (e : l ≡ written l₀ 0 (words_at bytes from n)) where
  pub words-front : take n l ≡ words_at bytes from n
  words-front = written-front l₀ l (words_at bytes from n) n e (list_of-length _ n)

  pub words-fit : (n ≤ length l) × (n ≡ length (take n l))
  words-fit = written-fits l₀ l (words_at bytes from n) n e (list_of-length _ n)

pub words-more : (bytes : List ℕ) (from n : ℕ) (l₀ l : List ℕ) (x : ℕ) → l ≡ written l₀ 0 (words_at bytes from n) → x ≡ word_at bytes (from + 4 * n) → n < length l₀
    → set l n x ≡ written l₀ 0 (words_at bytes from (n + 1))
words-more bytes from n l₀ l x e next h = rw (e, next) (written-list_of l₀ _ n h)

pub ruleset stored = (words-more)
