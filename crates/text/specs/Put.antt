-- Putting bytes into a lent list, one text behind the other.
--     Room   a list has room for xs from entry at on
--     Put    the list l has become l', with xs from entry at on and all else kept, and next is the entry behind xs
-- Laws: proofs/PutLaws.antt. Assumes nothing.
use Rattle.std.specs.Prelude.{ℕ, ◌+◌, ◌≤◌, ◌≡◌, List, length}
use Rattle.terms.specs.Numbers.{written}

abbrev pub Room : (l : List ℕ) (at : ℕ) (xs : List ℕ) → Type 0
Room l at xs = at + length xs ≤ length l

abbrev pub Put : (l : List ℕ) (at : ℕ) (xs l' : List ℕ) (next : ℕ) → Type 0
Put l at xs l' next = (l' ≡ written l at xs) × (next ≡ at + length xs)
