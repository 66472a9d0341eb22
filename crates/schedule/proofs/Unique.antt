-- Two outcomes that a promise allows are equal, the lists afterwards included. Promises: specs/Promises.antt.
--     verdict_of-one     no two verdicts say the same
--     answer_of-one      no two answers say the same
--     verdict-unique, schedule-unique
-- Assumes nothing.
use Prim.Native.Nat.{ℕ}
use mathlib.Core.Path.{◌≡◌, refl, sym, ap, ◌∙◌}
use mathlib.Core.List.{List}
use Rattle.std.specs.Prelude.{Result}
use Rattle.model.specs.Recording.{Recording}
use Rattle.model.specs.Arrival.{Bucket}
use Rattle.model.specs.Outcomes as outcomes
use Rattle.judgement.specs.declared.Refusal.{Refusal}
use Rattle.judgement.proofs.Unique.{answer_by-one}
use Rattle.schedule.specs.Outcome.{verdict_of, answer_of}
use Rattle.schedule.specs.Promises.{VerdictPromise, SchedulePromise}
use Rattle.schedule.specs.declared.Verdict.{Verdict}
use Rattle.schedule.specs.declared.Verdict.TheVariants as verdict

verdict_of-one : (v w : Verdict) → verdict_of v ≡ verdict_of w → v ≡ w
verdict_of-one verdict.Holds verdict.Holds e = refl
verdict_of-one verdict.Holds (verdict.Late p' u') e = cc
verdict_of-one (verdict.Late p u) verdict.Holds e = cc
verdict_of-one (verdict.Late p u) (verdict.Late p' u') e = cc

pub answer_of-one : (v w : Result Verdict Refusal) → answer_of v ≡ answer_of w → v ≡ w
answer_of-one = answer_by-one verdict_of verdict_of-one

pub verdict-unique : (k : Recording) (u : Bucket) (v w : Result Verdict Refusal) → VerdictPromise k u v → VerdictPromise k u w → v ≡ w
verdict-unique k u v w p q = answer_of-one v w (p ∙ sym q)

pub schedule-unique : (k : Recording) (u : Bucket) (at : ℕ) (l m : List ℕ) (v w : Result Verdict Refusal) (s e s' e' : List ℕ)
    → SchedulePromise k u at l m v s e → SchedulePromise k u at l m w s' e' → (v ≡ w) × (s ≡ s') × (e ≡ e')
schedule-unique k u at l m v w s e s' e' p q =
    let same = p ∙ sym q in
    (answer_of-one v w (ap (λ (o : outcomes.Scheduled). o.answer) same), ap (λ (o : outcomes.Scheduled). o.starts) same, ap (λ (o : outcomes.Scheduled). o.ends) same)
