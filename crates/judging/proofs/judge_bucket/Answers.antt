-- `judging::judge_bucket` meets its contract: the rate is judged first, then the bucket.
-- Assumes nothing.
use mathlib.Core.Path.{sym, ◌∙◌}
use Rattle.terms.proofs.AnswersLaws.{none, lowest-first}
use Rattle.model.proofs.FaultsLaws.{seconds_faults-ascending}
use Rattle.judgement.proofs.Steps.{stop, pass, on_ok, last}
use Rattle.recording.specs.Given.{bucket_of}
use Rattle.judging.proofs.Limits.{bucket-within}
use Rattle.judging.proofs.judge_bucket.Goals as goal

pub returns-in_err-judge_rate-clause-judges : goal.returns-in_err-judge_rate-clause-judges
returns-in_err-judge_rate-clause-judges c =
    stop _ _ _ _ c.judge_rate.ensures.judges c.in_err-judge_rate.was c.from_residual.ensures.1
    ∙ sym (lowest-first (seconds_faults-ascending (bucket_of c.args.bucket) none))

pub returns : goal.returns
returns c =
    let u = bucket_of c.args.bucket in
    let steps = lowest-first (seconds_faults-ascending u none) ∙ pass _ _ _ c.judge_rate.ensures.judges c.in_ok-judge_rate.was ∙ last _ in
    let judges = rw c.is_bad_bucket.ensures at c.refuse_if.ensures ∙ sym steps in
    record { judges = judges; within = on_ok _ judges (bucket-within u) }
