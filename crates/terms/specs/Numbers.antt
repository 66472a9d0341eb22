-- The arithmetic that document 01's sentences are made of, over natural numbers. Subtraction stops at 0.
--     round_up   a quotient, rounded up
--     largest    the largest of n numbers
--     outside    a number lies outside a range
--     Rising     the first n entries of a list rise strictly
--     list_of    n numbers as a list
--     written    a list in which some entries were written and all others kept
--     filled     a list whose first entries were stored one by one, as far as it reaches
-- Laws: proofs/NumbersLaws.antt, proofs/FilledLaws.antt. Assumes nothing.
use Rattle.std.specs.Prelude.{ℕ, zero, suc, ◌+◌, ◌-◌, ◌/◌, ◌<◌, max, Bool, ◌||◌, List, [], ◌∷◌, ◌++◌, ltb, length, get_or, take, drop, set}

-- x divided by d, rounded up
abbrev pub round_up : (x d : ℕ) → ℕ
round_up x d = (x + (d - 1)) / d

-- the largest of f 0 to f (n - 1), and 0 of none
unfoldable pub largest : (f : ℕ → ℕ) (n : ℕ) → ℕ
largest f zero = 0
largest f (suc n) = max (largest f n) (f n)

-- x lies outside lo to hi
abbrev pub outside : (lo hi x : ℕ) → Bool
outside lo hi x = ltb x lo || ltb hi x

abbrev pub Rising : (l : List ℕ) (n : ℕ) → Type 0
Rising l n = (i : ℕ) → suc i < n → get_or l i 0 < get_or l (suc i) 0

-- the list of f 0 to f (n - 1)
unfoldable pub list_of : {A : Type 0} (f : ℕ → A) (n : ℕ) → List A
list_of f zero = []
list_of f (suc n) = list_of f n ++ (f n ∷ [])

-- the list l with xs from entry at on; what stands before and after xs stays
abbrev pub written : (l : List ℕ) (at : ℕ) (xs : List ℕ) → List ℕ
written l at xs = take at l ++ (xs ++ drop (at + length xs) l)

-- the list l with f 0 to f (n - 1) stored in its first n entries; what lies past its end is not stored
unfoldable pub filled : (l : List ℕ) (f : ℕ → ℕ) (n : ℕ) → List ℕ
filled l f zero = l
filled l f (suc n) = set (filled l f n) n (f n)
