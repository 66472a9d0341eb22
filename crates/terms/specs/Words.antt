-- Words of 32 bits in a list of bytes (document 01, "The sheet and the printed table").
--     word_at      the word at a byte: four bytes, the lowest first
--     words_at     n words from a byte on
--     word_bytes   the four bytes of a word
-- Laws: proofs/WordsLaws.antt. Assumes nothing.
use Rattle.std.specs.Prelude.{ℕ, ◌+◌, ◌*◌, ◌/◌, ◌%◌, List, [], ◌∷◌, get_or}
use Rattle.terms.specs.Numbers.{list_of}

-- "Words are little-endian u32."
abbrev pub word_at : (bytes : List ℕ) (i : ℕ) → ℕ
word_at bytes i =
    get_or bytes i 0 + 256 * (get_or bytes (i + 1) 0 + 256 * (get_or bytes (i + 2) 0 + 256 * get_or bytes (i + 3) 0))

abbrev pub words_at : (bytes : List ℕ) (i n : ℕ) → List ℕ
words_at bytes i n = list_of (λ k. word_at bytes (i + 4 * k)) n

abbrev pub word_bytes : ℕ → List ℕ
word_bytes x = x % 256 ∷ x / 256 % 256 ∷ x / 256 / 256 % 256 ∷ x / 256 / 256 / 256 % 256 ∷ []
