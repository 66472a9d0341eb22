-- `row_verdict::row_verdict` meets its contract: the refusal of the record, of the row's number, of `bucket_verdict` or of a constant rate, in
-- this order, or else the bucket's verdict (RowLaws). Assumes nothing.
use mathlib.Core.Path.{sym, ap, ◌∙◌}
use Rattle.terms.proofs.AnswersLaws.{answer-given}
use Rattle.model.specs.Recording.{Recording}
use Rattle.model.specs.Arrival as arrival
use Rattle.model.specs.Outcomes.{verdict_outcome}
use Rattle.params.specs.Outcome.{params_of}
use Rattle.judgement.proofs.Steps.{pass, passes, stop-answer, judged_by, last}
use Rattle.recording.specs.Given.{recording_of}
use Rattle.schedule.specs.Outcome.{verdict_of, answer_of}
use Rattle.row_verdict.specs.Outcome.{row_of}
use Rattle.row_verdict.specs.RowVerdict.{row_bucket}
use Rattle.row_verdict.proofs.RowLaws.{row-given, row-first}
use Rattle.row_verdict.proofs.row_verdict.Goals as goal

pub returns-in_err-rate : goal.returns-in_err-rate
returns-in_err-rate c =
    let k : Recording = recording_of c.args.recording in
    let p = params_of c.args.params in
    rw (row-first p c.args.row k c.args.fullness)
    (stop-answer verdict_of _ _ _ _ _ (judged_by row_of _ _ _ c.params_row.ensures.figures) c.in_err-rate.was c.from_residual.ensures.1)

pub returns-in_err-verdict : goal.returns-in_err-verdict
returns-in_err-verdict c =
    let k : Recording = recording_of c.args.recording in
    let p = params_of c.args.params in
    let f = c.args.fullness in
    let says = c.bucket_verdict.ensures ∙ ap (verdict_outcome k) (row-given p c.args.row _ f c.in_ok-rate.ensures.figures) in
    rw (row-first p c.args.row k f, pass _ _ _ (judged_by row_of _ _ _ c.params_row.ensures.figures) c.in_ok-rate.was)
    (stop-answer verdict_of _ _ _ _ _ (judged_by verdict_of _ _ _ says) c.in_err-verdict.was c.from_residual-in_err-verdict.ensures.1)

pub returns-in_err-refuse_if : goal.returns-in_err-refuse_if
returns-in_err-refuse_if c =
    let k : Recording = recording_of c.args.recording in
    let p = params_of c.args.params in
    let f = c.args.fullness in
    let says = c.bucket_verdict.ensures ∙ ap (verdict_outcome k) (row-given p c.args.row _ f c.in_ok-rate.ensures.figures) in
    rw (
      row-first p c.args.row k f,
      pass _ _ _ (judged_by row_of _ _ _ c.params_row.ensures.figures) c.in_ok-rate.was,
      pass _ _ _ (judged_by verdict_of _ _ _ says) c.in_ok-verdict.was,
    )
    (stop-answer verdict_of _ _ _ _ _ c.refuse_if.ensures c.in_err-refuse_if.was c.from_residual-in_err-refuse_if.ensures.1)

pub returns : goal.returns
returns c =
    let k : Recording = recording_of c.args.recording in
    let p = params_of c.args.params in
    let f = c.args.fullness in
    let u = row_bucket p c.args.row f in
    let says = c.bucket_verdict.ensures ∙ ap (verdict_outcome k) (row-given p c.args.row _ f c.in_ok-rate.ensures.figures) in
    let steps =
    row-first p c.args.row k f
    ∙ pass _ _ _ (judged_by row_of _ _ _ c.params_row.ensures.figures) c.in_ok-rate.was
    ∙ pass _ _ _ (judged_by verdict_of _ _ _ says) c.in_ok-verdict.was
    ∙ last _
    ∙ passes _ _ c.refuse_if.ensures c.in_ok-refuse_if.was
    in
    sym (ap answer_of c.in_ok-verdict.was)
    ∙ says
    ∙ answer-given (arrival.verdict_of k u) (passes _ _ (judged_by verdict_of _ _ _ says) c.in_ok-verdict.was)
    ∙ sym (answer-given (arrival.verdict_of k u) steps)
