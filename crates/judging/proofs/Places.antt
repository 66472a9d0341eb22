-- A list judged place by place, up to a place i before which none is at fault.
--     first_met    where place i is at fault, the refusal stands there
--     none_met     where place i is the end, there is none
--     either       one of two tests is enough
-- Assumes nothing.
use Prim.Native.Nat.{ℕ, ◌≤◌, ◌<◌}
use native.Mathlib.Nat.{lt_of_lt_of_le}
use mathlib.Core.Path.{◌≡◌, sym}
use mathlib.Core.Bool.{Bool, true, false, ◌||◌}
use mathlib.Core.Logic.{◌⊎◌, inl, inr}
use Rattle.terms.specs.Answers.{Judgement, refused, passed, first_fault, NoneBad}
use Rattle.terms.proofs.AnswersLaws.{first_bad-here, first_fault-found, first_fault-passed}

module _ (n : ℕ) {bad : ℕ → Bool} {m i : ℕ} (before : NoneBad bad i) where
  pub first_met : i < m → bad i ≡ true → ◌≡◌ {A = Judgement} (refused n i) (first_fault n bad m)
  first_met h fault = sym (first_fault-found n bad m i (first_bad-here bad m i before h fault) h)

  pub none_met : m ≤ i → ◌≡◌ {A = Judgement} passed (first_fault n bad m)
  none_met end = sym ((first_fault-passed n bad m).1 (λ j g. before j (lt_of_lt_of_le g end)))

pub either : {a b : Bool} → (a ≡ true) ⊎ ((a ≡ false) × (b ≡ true)) → (a || b) ≡ true
either (inl e) = rw e
either (inr h) = rw h.0 h.1
