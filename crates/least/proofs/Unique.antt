-- Two outcomes that a promise allows are equal, the lists afterwards included. Promises: specs/Promises.antt.
--     figures_of-one    no two answers say the same
--     least-unique, table-unique
-- Assumes nothing.
use Prim.Native.Nat.{ℕ}
use mathlib.Core.Path.{◌≡◌, sym, ap, ◌∙◌}
use mathlib.Core.List.{List}
use Rattle.std.specs.Prelude.{Result}
use Rattle.model.specs.Recording.{Recording}
use Rattle.model.specs.Outcomes as outcomes
use Rattle.judgement.specs.declared.Refusal.{Refusal}
use Rattle.judgement.proofs.Unique.{answer_by-one, judgement_of-one}
use Rattle.recording.specs.Given.{bucket_of}
use Rattle.recording.specs.declared.Bucket.{Bucket}
use Rattle.recording.proofs.Unique.{bucket_of-one}
use Rattle.least.specs.Outcome.{figures_of}
use Rattle.least.specs.Promises.{LeastPromise, TablePromise}

figures_of-one : (v w : Result Bucket Refusal) → figures_of v ≡ figures_of w → v ≡ w
figures_of-one v w e = answer_by-one bucket_of bucket_of-one v w e

pub least-unique : (k : Recording) (rate : ℕ) (v w : Result Bucket Refusal) → LeastPromise k rate v → LeastPromise k rate w → v ≡ w
least-unique k rate v w p q = figures_of-one v w (p ∙ sym q)

pub table-unique : (k : Recording) (rates : List ℕ) (at : ℕ) (l m : List ℕ) (v w : Result (Unit {0}) Refusal) (b f b' f' : List ℕ)
    → TablePromise k rates at l m v b f → TablePromise k rates at l m w b' f' → (v ≡ w) × (b ≡ b') × (f ≡ f')
table-unique k rates at l m v w b f b' f' p q =
    let same = p ∙ sym q in
    (judgement_of-one v w (ap (λ (o : outcomes.Tabled). o.answer) same), ap (λ (o : outcomes.Tabled). o.buffers) same, ap (λ (o : outcomes.Tabled). o.fullnesses) same)
