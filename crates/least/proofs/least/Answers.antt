-- `least::least` meets its contract: a refusal, or else the least figures.
-- Assumes nothing.
use mathlib.Core.Path.{sym, ap, ◌∙◌}
use Rattle.terms.specs.Answers.{given}
use Rattle.terms.proofs.AnswersLaws.{answer-given}
use Rattle.model.specs.Recording.{Recording}
use Rattle.model.specs.Least.{least_bucket}
use Rattle.judgement.proofs.Steps.{pass, passes, stop-answer, last}
use Rattle.recording.specs.Given.{recording_of, bucket_of}
use Rattle.least.proofs.OutcomeLaws.{least-steps}
use Rattle.least.proofs.least.Goals as goal

pub returns-in_err-judged : goal.returns-in_err-judged
returns-in_err-judged c =
    let k : Recording = recording_of c.args.recording in
    rw (least-steps k c.args.rate)
    (stop-answer bucket_of _ _ _ _ _ c.judged.ensures.judges c.in_err-judged.was c.from_residual.ensures.1)

pub returns-in_err-judge_rate : goal.returns-in_err-judge_rate
returns-in_err-judge_rate c =
    let k : Recording = recording_of c.args.recording in
    rw (least-steps k c.args.rate, pass _ _ _ c.judged.ensures.judges c.in_ok-judged.was)
    (stop-answer bucket_of _ _ _ _ _ c.judge_rate.ensures.judges c.in_err-judge_rate.was c.from_residual-in_err-judge_rate.ensures.1)

pub returns : goal.returns
returns c =
    let k : Recording = recording_of c.args.recording in
    let steps = least-steps k c.args.rate ∙ pass _ _ _ c.judged.ensures.judges c.in_ok-judged.was ∙ last _ ∙ passes _ _ c.judge_rate.ensures.judges c.in_ok-judge_rate.was in
    ap given (c.least_at.ensures ∙ ap (λ k. least_bucket k c.args.rate) c.in_ok-judged.ensures.same) ∙ sym (answer-given (least_bucket k c.args.rate) steps)
