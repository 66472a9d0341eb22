-- Steps that may refuse, each taken by a `?`: what is returned where one refuses, and what is left to judge where it passes.
--     stopped         what a `?` returns is the refusal that it met
--     refuses         then the step's judgement is that refusal
--     stop            then what is returned says what the first of the judgements left says
--     pass            a step that passes leaves the judgements after it
--     passes          and of a step that passes it passes
--     stop-answer     as `stop`, of an answer with a value
--     on_ok           what follows from passing holds where nothing is refused
--     judged_by       the judgement in an answer is its outcome's
--     last            the last judgement left is the outcome
-- Assumes nothing.
use mathlib.Core.Path.{◌≡◌, refl, sym, ap, ◌∙◌}
use mathlib.Core.List.{List, [], ◌∷◌}
use Rattle.std.specs.Prelude.{Result, Ok, Err}
use Rattle.std.specs.Result.{IsErrAnd, OnOk}
use Rattle.terms.specs.Answers.{Answer, Judgement, given, refused, passed, first, answer_with}
use Rattle.terms.proofs.AnswersLaws.{skip, here, answer-refused}
use Rattle.judgement.specs.Outcome.{number_of, place_of, answer_by, judgement_of}
use Rattle.judgement.specs.declared.Refusal.{Refusal}

pub stopped : {A : Type 0} (out : Result A Refusal) (e : Refusal) → IsErrAnd out (λ y. y ≡ e) → out ≡ Err e
stopped (Err y) e left = ap Err left
stopped (Ok x) e left = absurd left

pub refuses : {A : Type 0} (r : Result A Refusal) (e : Refusal) {j : Judgement} → judgement_of r ≡ j → r ≡ Err e
    → j ≡ refused (number_of e) (place_of e)
refuses r e says was = sym says ∙ ap judgement_of was

pub passes : {A : Type 0} (r : Result A Refusal) (x : A) {j : Judgement} → judgement_of r ≡ j → r ≡ Ok x → j ≡ passed
passes r x says was = sym says ∙ ap judgement_of was

pub stop : {A B : Type 0} (r : Result A Refusal) (out : Result B Refusal) (e : Refusal) {j : Judgement} (js : List Judgement)
    → judgement_of r ≡ j → r ≡ Err e → IsErrAnd out (λ y. y ≡ e) → judgement_of out ≡ first (j ∷ js)
stop r out e js says was left = ap judgement_of (stopped out e left) ∙ sym (here js (refuses r e says was))

pub pass : {A : Type 0} (r : Result A Refusal) (x : A) {j : Judgement} (js : List Judgement) → judgement_of r ≡ j → r ≡ Ok x
    → first (j ∷ js) ≡ first js
pass r x js says was = skip js (passes r x says was)

pub stop-answer : {A B C : Type 0} (f : B → C) (r : Result A Refusal) (out : Result B Refusal) (e : Refusal) {j : Judgement} (js : List Judgement) (v : C)
    → judgement_of r ≡ j → r ≡ Err e → IsErrAnd out (λ y. y ≡ e) → answer_by f out ≡ answer_with (first (j ∷ js)) v
stop-answer f r out e js v says was left =
    ap (answer_by f) (stopped out e left) ∙ sym (answer-refused v (here js (refuses r e says was)))

pub on_ok : {A P : Type 0} (r : Result A Refusal) {j : Judgement} → judgement_of r ≡ j → (j ≡ passed → P) → OnOk r P
on_ok (Ok x) says gives = gives (sym says)
on_ok (Err e) says gives = tt

-- an answer without its value
erased : {B : Type 0} → Answer B → Judgement
erased (given b) = passed
erased (refused n i) = refused n i

erased-result : {A B : Type 0} (f : A → B) (r : Result A Refusal) → erased (answer_by f r) ≡ judgement_of r
unfolding erased
erased-result f (Ok x) = refl
erased-result f (Err e) = refl

erased-outcome : {B : Type 0} (j : Judgement) (v : B) → erased (answer_with j v) ≡ j
unfolding erased
erased-outcome (given tt) v = refl
erased-outcome (refused n i) v = refl

pub judged_by : {A B : Type 0} (f : A → B) (r : Result A Refusal) (j : Judgement) (v : B) → answer_by f r ≡ answer_with j v → judgement_of r ≡ j
judged_by f r j v e = sym (erased-result f r) ∙ ap erased e ∙ erased-outcome j v

pub last : (j : Judgement) → first (j ∷ []) ≡ j
unfolding first
last (given tt) = refl
last (refused n i) = refl
