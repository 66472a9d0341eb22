-- Demand 2 about the planner's own verdicts. Statements: specs/Demand2.antt; over the definitions: model/proofs/Demand2.antt.
--     demand2-answers      the verdict on a bucket is "holds" exactly when both figures are at least the planner's own least
--     demand2-schedule     a schedule's verdict that is no refusal is the verdict on its bucket
--     demand2-row          and so is a variable row's
--     demand2-params-row   on the bucket with the rate and the size that `params_row` gives
-- Assumes nothing.
use Prim.Native.Nat.{ℕ}
use mathlib.Core.Path.{◌≡◌, refl, sym, ap, ◌∙◌}
use mathlib.Core.Logic.Iff
use mathlib.Core.Logic.{◌↔◌}
use Rattle.std.specs.Prelude.{Result, Ok, Err}
use Rattle.rules.specs.Limits.{bucket_max}
use Rattle.rules.specs.Refusals as refusal
use Rattle.terms.specs.Numbers.{outside}
use Rattle.terms.specs.Answers.{Judgement, given, passed, lowest, first, answer_with}
use Rattle.model.specs.Recording.{Recording}
use Rattle.model.specs.Arrival as arrival
use Rattle.model.specs.Arrival.{Bucket, bucket, holds, verdict_of}
use Rattle.model.specs.Faults.{bad_bucket, recording_faults, seconds_faults, verdict_faults, schedule_faults}
use Rattle.row_verdict.specs.RowVerdict.{row_bucket, row_verdict_faults}
use Rattle.coding.specs.Params.{Row, row_rate, row_size, params_row_faults}
use Rattle.params.specs.Outcome.{params_of}
use Rattle.params.specs.declared.Params.{Params}
use Rattle.row_verdict.specs.Promises.{RowPromise}
use Rattle.terms.proofs.NumbersLaws.{or-false, outside-false}
use Rattle.terms.proofs.AnswersLaws.{refuse_if-passed, first-passed, lowest-each, lowest-passed, answer-given, answer-passed}
use Rattle.model.proofs.FaultsLaws.{judge_outcome-within, within-recorded}
use Rattle.model.proofs.Demand2.{demand2}
use Rattle.judgement.specs.declared.Refusal.{Refusal}
use Rattle.schedule.specs.Outcome.{answer_of}
use Rattle.schedule.specs.declared.Verdict.{Verdict}
use Rattle.schedule.specs.declared.Verdict.TheVariants.{Holds, Late}
use Rattle.schedule.proofs.Unique.{answer_of-one}
use Rattle.least.specs.Promises.{LeastPromise}
use Rattle.demands.specs.Given.{figures}
use Rattle.demands.specs.Demand2.{Exactly, Judged, Demand2Answers, Demand2Schedule, Demand2Row, Demand2ParamsRow}
use Rattle.demands.proofs.Promised.{least-promised, verdict-promised}

-- the code's "holds" is the definition's
holds-said : (k : Recording) (u : Bucket) (v : Result Verdict Refusal) → answer_of v ≡ given (verdict_of k u) → (v ≡ Ok Holds) ↔ (verdict_of k u ≡ holds)
holds-said k u v p = (
  λ e. let said : given (verdict_of k u) ≡ given holds = sym p ∙ ap answer_of e in cc,
  λ e. answer_of-one v (Ok Holds) (p ∙ ap given e),
)

pub demand2-answers : Demand2Answers
demand2-answers k rate b f least_b least_f v ok pv pl =
    let said = least-promised k rate least_b least_f pl in
    let u = bucket rate b f in
    let (inside, full) = (or-false (outside 1 bucket_max b) (outside 1 b f)).0 ok in
    let (some, within) = (outside-false 1 b f).0 full in
    let rec = within-recorded ((judge_outcome-within k).0 said.judged) in
    rw (said.buffer, said.fullness)
    (Iff.trans (holds-said k u v (pv ∙ verdict-promised k u said.judged said.rated ok)) (demand2 k rec rate b f some within))

-- a verdict that is no refusal is the definition's, and its judgement has passed
judged-passed : (j : Judgement) (x : arrival.Verdict) (v : Result Verdict Refusal) → Judged v → answer_of v ≡ answer_with j x → (j ≡ passed) × (answer_of v ≡ given x)
judged-passed j x (Ok Holds) h e = let (ok, same) = answer-passed j x holds (sym e) in (ok, ap given (sym same))
judged-passed j x (Ok (Late picture units)) h e = let (ok, same) = answer-passed j x (arrival.late picture units) (sym e) in (ok, ap given (sym same))
judged-passed j x (Err r) h e = absurd (h r refl)

-- what passes for a verdict has a bucket, so that demand 2 speaks of it
same-sentence : (k : Recording) (rate b f least_b least_f : ℕ) (v : Result Verdict Refusal) → lowest (verdict_faults k (bucket rate b f)) ≡ passed
    → answer_of v ≡ given (verdict_of k (bucket rate b f)) → LeastPromise k rate (figures rate least_b least_f) → Exactly v b f least_b least_f
same-sentence k rate b f least_b least_f v ok said least =
    let u = bucket rate b f in
    let (_, parts) = lowest-each (recording_faults k) (seconds_faults u) ok in
    let (_, (whole, _)) = (lowest-passed (seconds_faults u)).0 parts in
    demand2-answers k rate b f least_b least_f v ((refuse_if-passed (bad_bucket b f) refusal.bucket 0).0 whole) (said ∙ sym (answer-given (verdict_of k u) ok)) least

pub demand2-schedule : Demand2Schedule
demand2-schedule k rate b f at least_b least_f l m starts ends v p judged least =
    let u = bucket rate b f in
    let (ok, said) = judged-passed (lowest (schedule_faults k u at l m)) (verdict_of k u) v judged (ap (λ o. o.answer) p) in
    same-sentence k rate b f least_b least_f v (lowest-each (verdict_faults k u) _ ok).0 said least

-- a row's verdict that is no refusal is the verdict on the row's bucket
row-said : (k : Recording) (params : Params) (row f : ℕ) (v : Result Verdict Refusal) → RowPromise k params row f v → Judged v
    → let u = row_bucket (params_of params) row f in (lowest (verdict_faults k u) ≡ passed) × (answer_of v ≡ given (verdict_of k u))
row-said k params row f v p judged =
    let q = params_of params in
    let u = row_bucket q row f in
    let (ok, said) = judged-passed (first (row_verdict_faults k q row f)) (verdict_of k u) v judged p in
    let (_, (_, (rest, _))) = (first-passed (row_verdict_faults k q row f)).0 ok in
    ((lowest-each (verdict_faults k u) _ rest).0, said)

pub demand2-row : Demand2Row
demand2-row k params row f least_b least_f v p variable judged least =
    let u = row_bucket (params_of params) row f in
    let (ok, said) = row-said k params row f v p judged in
    same-sentence k u.rate u.buffer f least_b least_f v ok said least

pub demand2-params-row : Demand2ParamsRow
demand2-params-row k params row f rate size v p judged figures =
    let q = params_of params in
    let u = row_bucket q row f in
    let (ok, said) = row-said k params row f v p judged in
    let (_, same) = answer-passed (first (params_row_faults q row)) (record { rate = row_rate q row; size = row_size q row }) (record { rate = rate; size = size }) (sym figures) in
    rw (← ap (λ (t : Row). t.rate) same, ← ap (λ (t : Row). t.size) same) (said ∙ sym (answer-given (verdict_of k u) ok))
