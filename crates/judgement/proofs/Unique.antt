-- What a promise on a Result allows is one Result.
--     refusals           the refusals, by their numbers from 1 on, each at any place
--     refusal-one        no two refusals have the same number and the same place
--     answer_by-one      no two Results say the same, where no two values do
--     judgement_of-one   no two judgements say the same
-- Assumes nothing.
use Prim.Native.Nat.{ℕ, ◌-◌}
use native.Mathlib.Omega.{arith}
use mathlib.Core.Path.{◌≡◌, refl, sym, ap, ap₂, ◌∙◌}
use mathlib.Core.List.{List, [], ◌∷◌}
use lib.ListN.{get_or}
use Rattle.std.specs.Prelude.{Result, Ok, Err}
use Rattle.terms.specs.Answers as answers
use Rattle.judgement.specs.Outcome.{number_of, place_of, answer_by, judgement_of}
use Rattle.judgement.specs.declared.Refusal.{Refusal}
use Rattle.judgement.specs.declared.Refusal.TheVariants.{Pictures, Lengths, Clock, Size, Tick, Rate, Bucket, Room, Short, Field, Constant, Sheet, Limit}

refusals : List (ℕ → Refusal)
refusals =
    (λ i. Pictures)
    ∷ (λ i. Lengths)
    ∷ (λ i. Clock)
    ∷ Size
    ∷ Tick
    ∷ Rate
    ∷ Bucket
    ∷ (λ i. Room)
    ∷ (λ i. Short)
    ∷ Field
    ∷ Constant
    ∷ (λ i. Sheet)
    ∷ (λ i. Limit)
    ∷ []

refusal : (number place : ℕ) → Refusal
refusal number place = get_or refusals (number - 1) (λ i. Limit) place

refusal-back : (r : Refusal) → refusal (number_of r) (place_of r) ≡ r
unfolding refusal refusals
refusal-back Pictures = refl
refusal-back Lengths = refl
refusal-back Clock = refl
refusal-back (Size i) = refl
refusal-back (Tick i) = refl
refusal-back (Rate i) = refl
refusal-back (Bucket i) = refl
refusal-back Room = refl
refusal-back Short = refl
refusal-back (Field i) = refl
refusal-back (Constant i) = refl
refusal-back Sheet = refl
refusal-back Limit = refl

pub refusal-one : (r s : Refusal) → number_of r ≡ number_of s → place_of r ≡ place_of s → r ≡ s
refusal-one r s e p = sym (refusal-back r) ∙ ap₂ refusal e p ∙ refusal-back s

number_in : {B : Type 0} → answers.Answer B → ℕ
number_in (answers.given b) = 0
number_in (answers.refused n i) = n

place_in : {B : Type 0} → answers.Answer B → ℕ
place_in (answers.given b) = 0
place_in (answers.refused n i) = i

value_in : {B : Type 0} → B → answers.Answer B → B
value_in d (answers.given b) = b
value_in d (answers.refused n i) = d

pub answer_by-one : {A B : Type 0} (f : A → B) → ((x y : A) → f x ≡ f y → x ≡ y)
    → (v w : Result A Refusal) → answer_by f v ≡ answer_by f w → v ≡ w
unfolding value_in number_in place_in
answer_by-one f one (Ok x) (Ok y) e = ap Ok (one x y (ap (value_in (f x)) e))
answer_by-one f one (Ok x) (Err s) e = let z : ◌≡◌ {A = ℕ} 0 1 = cc in absurd (omega arith)
answer_by-one f one (Err r) (Ok y) e = let z : ◌≡◌ {A = ℕ} 0 1 = cc in absurd (omega arith)
answer_by-one f one (Err r) (Err s) e = ap Err (refusal-one r s (ap number_in e) (ap place_in e))

pub judgement_of-one : (v w : Result (Unit {0}) Refusal) → judgement_of v ≡ judgement_of w → v ≡ w
judgement_of-one v w e = answer_by-one (λ _. tt) (λ x y _. refl) v w e
