-- What an operation answers, and which refusal it gives where several apply (document 01, "When the planner says no").
--     Answer        the value, or a refusal: its number and its place
--     Judgement     an answer with no value: passed, or a refusal
--     refuse_if     the refusal, if the test is true
--     first_fault   the refusal at the first of n places that is at fault
--     NoneBad       none of the first i places is at fault
--     FirstBad      the first of n places that is at fault, or n where none is
--     lower         of two judgements the refusal with the lower number; of equal numbers the first
--     lowest        of several judgements the refusal with the lowest number; of equal numbers the first
--     first         of several judgements the first refusal
--     answer_with   the value, unless the judgement is a refusal
--     written_if    a lent list afterwards: written, unless the judgement is a refusal
--     room_check    8   a lent list has too little room from the given entry on
-- Which judgements an operation takes, and when each refuses: model/specs/Faults.antt, coding/specs/Params.antt, layout/specs/Sheet.antt.
-- Laws: proofs/AnswersLaws.antt. Assumes nothing.
use Rattle.std.specs.Prelude.{ℕ, zero, suc, ◌+◌, ◌≤◌, ◌<◌, ◌≡◌, Bool, true, false, cond, List, [], ◌∷◌, ltb, length}
use Rattle.rules.specs.Refusals as refusal
use Rattle.terms.specs.Numbers.{written}

pub data Answer (A : Type 0) : Type 0 where
  given : A → Answer A
  refused : (number place : ℕ) → Answer A

abbrev pub Judgement : Type 0
Judgement = Answer (Unit {0})

abbrev pub passed : Judgement
passed = given tt

unfoldable pub refuse_if : Bool → (number place : ℕ) → Judgement
refuse_if bad number place = cond bad (refused number place) passed

-- a, or b where a passed
abbrev pub or_else : Judgement → Judgement → Judgement
or_else (given a) b = b
or_else (refused number place) b = refused number place

unfoldable pub first_fault : (number : ℕ) (bad : ℕ → Bool) (n : ℕ) → Judgement
first_fault number bad zero = passed
first_fault number bad (suc n) = or_else (first_fault number bad n) (refuse_if (bad n) number n)

-- none of the first i places is at fault
abbrev pub NoneBad : (bad : ℕ → Bool) (i : ℕ) → Type 0
NoneBad bad i = (j : ℕ) → j < i → bad j ≡ false

pub record FirstBad (bad : ℕ → Bool) (n i : ℕ) : Type 0 where
  pub within : i ≤ n
  pub fault : i < n → bad i ≡ true
  pub before : NoneBad bad i

-- the one with the lower number; a where they are equal
abbrev pub lower : Judgement → Judgement → Judgement
lower (given a) b = b
lower (refused m i) (given b) = refused m i
lower (refused m i) (refused n j) = cond (ltb n m) (refused n j) (refused m i)

-- "Several at once: the lowest"
unfoldable pub lowest : List Judgement → Judgement
lowest [] = passed
lowest (a ∷ more) = lower a (lowest more)

unfoldable pub first : List Judgement → Judgement
first [] = passed
first (a ∷ more) = or_else a (first more)

abbrev pub answer_with : {A : Type 0} → Judgement → A → Answer A
answer_with (given a) x = given x
answer_with (refused number place) x = refused number place

-- "Results are zero on refusal and no lent list changes."
abbrev pub written_if : Judgement → (l : List ℕ) (at : ℕ) (xs : List ℕ) → List ℕ
written_if (given a) l at xs = written l at xs
written_if (refused number place) l at xs = l

-- "a lent output has too little room from the given entry or bit on, a start past its end included"
abbrev pub room_check : (l : List ℕ) (at n : ℕ) → Judgement
room_check l at n = refuse_if (ltb (length l) (at + n)) refusal.room 0
