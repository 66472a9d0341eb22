-- The pair that the planner's own `least` gives is the least in whole bits, by the planner's own verdict. Statement: specs/Demand2.antt.
--     demand2-least    it gets "holds", and any bucket with less of either is late or no bucket
-- Assumes nothing.
use Prim.Native.Nat.{ℕ, ◌≤◌}
use native.Mathlib.Omega.{arith}
use mathlib.Core.Path.{◌≡◌, refl, sym, ap, ◌∙◌}
use mathlib.Core.Bool.{Bool, true, false}
use mathlib.Core.Logic.{inl, inr}
use Rattle.std.specs.Prelude.{Result, Ok, Err}
use Rattle.rules.specs.Refusals as refusal
use Rattle.terms.specs.Answers.{given, refused, passed}
use Rattle.model.specs.Recording.{Recording}
use Rattle.model.specs.Arrival.{bucket, verdict_of}
use Rattle.model.specs.Least.{least_bucket}
use Rattle.model.specs.Faults.{bad_bucket, bad_rate}
use Rattle.model.specs.Outcomes.{judge_outcome, verdict_outcome}
use Rattle.terms.proofs.AnswersLaws.{skip, here, test-false, test-true, answer-refused}
use Rattle.model.proofs.FaultsLaws.{judge_outcome-within, within-recorded, verdict_faults-first}
use Rattle.model.proofs.Demand2.{least-holds}
use Rattle.judgement.specs.declared.Refusal.{Refusal}
use Rattle.judgement.specs.declared.Refusal.TheVariants.{Bucket}
use Rattle.schedule.specs.Outcome.{answer_of}
use Rattle.schedule.specs.Promises.{VerdictPromise}
use Rattle.schedule.specs.declared.Verdict.{Verdict}
use Rattle.schedule.specs.declared.Verdict.TheVariants.{Holds, Late}
use Rattle.schedule.proofs.Unique.{answer_of-one}
use Rattle.least.specs.Promises.{LeastPromise}
use Rattle.demands.specs.Given.{figures}
use Rattle.demands.specs.Demand2.{LateOrNone, Demand2Least}
use Rattle.demands.proofs.Promised.{least-promised, least-bucket, verdict-promised}
use Rattle.demands.proofs.Demand2.{demand2-answers}

-- a verdict on a bucket is late, where it is not "holds"
late-said : (k : Recording) (rate b f : ℕ) (v : Result Verdict Refusal) → answer_of v ≡ given (verdict_of k (bucket rate b f)) → ¬ (v ≡ Ok Holds) → LateOrNone v
late-said k rate b f (Ok Holds) e h = absurd (h refl)
late-said k rate b f (Ok (Late picture units)) e h = inl (picture, units, refl)
late-said k rate b f (Err r) e h = let z : ◌≡◌ {A = ℕ} 0 1 = cc in absurd (omega arith)

-- what is no bucket is refused for that alone, where recording and rate are not
none-said : (k : Recording) (rate b f : ℕ) → judge_outcome k ≡ passed → bad_rate rate ≡ false → bad_bucket b f ≡ true
    → verdict_outcome k (bucket rate b f) ≡ refused refusal.bucket 0
none-said k rate b f judged rated bad =
    answer-refused _ (verdict_faults-first k (bucket rate b f) ∙ rw judged (skip _ (test-false refusal.rate 0 rated) ∙ here _ (test-true refusal.bucket 0 bad)))

module _ (k : Recording) (rate b f : ℕ) (p : LeastPromise k rate (figures rate b f)) where
  -- a bucket, or none
  less-if : (b' f' : ℕ) → ¬ ((b ≤ b') × (f ≤ f')) → (v : Result Verdict Refusal) → VerdictPromise k (bucket rate b' f') v → (bad : Bool) → bad_bucket b' f' ≡ bad → LateOrNone v
  less-if b' f' short v q true bad =
      let said = least-promised k rate b f p in
      inr (answer_of-one v (Err (Bucket 0)) (q ∙ none-said k rate b' f' said.judged said.rated bad))
  less-if b' f' short v q false ok =
      let said = least-promised k rate b f p in
      late-said k rate b' f' v (q ∙ verdict-promised k (bucket rate b' f') said.judged said.rated ok)
      (λ e. short ((demand2-answers k rate b' f' b f v ok q p).0 e))

  less : (b' f' : ℕ) → ¬ ((b ≤ b') × (f ≤ f')) → (v : Result Verdict Refusal) → VerdictPromise k (bucket rate b' f') v → LateOrNone v
  less b' f' short v q = less-if b' f' short v q (bad_bucket b' f') refl

pub demand2-least : Demand2Least
demand2-least k rate b f p =
    let said = least-promised k rate b f p in
    let w = (judge_outcome-within k).0 said.judged in
    let ok = least-bucket k w rate in
    record {
      least = p;
      is_bucket = rw (said.buffer, said.fullness) ok;
      holds = rw (said.buffer, said.fullness) (sym (verdict-promised k (least_bucket k rate) said.judged said.rated ok ∙ ap given (least-holds k (within-recorded w) rate)));
      less_b = λ b' f' h. less k rate b f p b' f' (λ both. omega (arith, both.0));
      less_f = λ b' f' h. less k rate b f p b' f' (λ both. omega (arith, both.1));
    }
