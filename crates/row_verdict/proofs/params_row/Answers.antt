-- `row_verdict::params_row` meets its contract: the refusal of the record or of the row's number, in this order, or else the row's rate and
-- size (RowLaws). Assumes nothing.
use native.Mathlib.Omega.{arith}
use mathlib.Core.Path.{sym, ap, ◌∙◌}
use mathlib.Core.Bool.{not}
use mathlib.Core.List.{[]}
use borrow.Author.Tests.{lt-ltb, le-ltb}
use Rattle.rules.specs.Refusals as refusal
use Rattle.terms.proofs.AnswersLaws.{test-false, test-true, skip, here, answer-given, answer-refused}
use Rattle.params.specs.Outcome.{params_of}
use Rattle.judgement.proofs.Steps.{stop-answer, passes, last}
use Rattle.row_verdict.specs.Outcome.{row_of}
use Rattle.row_verdict.proofs.RowLaws.{rate-fits, size-fits}
use Rattle.row_verdict.proofs.params_row.Goals as goal

pub returns-in_err-judge_params-clause-figures : goal.returns-in_err-judge_params-clause-figures
returns-in_err-judge_params-clause-figures c =
    stop-answer row_of _ _ _ _ _ c.judge_params.ensures.judges c.in_err-judge_params.was c.from_residual.ensures.1

pub returns-then-params-row-clause-figures : goal.returns-then-params-row-clause-figures
returns-then-params-row-clause-figures c =
    let judged = passes _ _ c.judge_params.ensures.judges c.in_ok-judge_params.was in
    sym (answer-refused _ (skip _ judged ∙ here [] (test-true refusal.rate 0 (ap not (le-ltb _ _ (omega (arith, c.if-params-row.true)))))))

pub scaled-requires : goal.scaled-requires
scaled-requires c =
    rate-fits (params_of c.args.params) c.args.row (passes _ _ c.judge_params.ensures.judges c.in_ok-judge_params.was) c.if-params-row.false

pub scaled-requires-2 : goal.scaled-requires-2
scaled-requires-2 c =
    size-fits (params_of c.args.params) c.args.row (passes _ _ c.judge_params.ensures.judges c.in_ok-judge_params.was) c.if-params-row.false

pub returns-clause-figures : goal.returns-clause-figures
returns-clause-figures c =
    let judged = passes _ _ c.judge_params.ensures.judges c.in_ok-judge_params.was in
    rw (c.scaled.ensures, c.scaled-2.ensures)
    (sym (answer-given _ (skip _ judged ∙ last _ ∙ test-false refusal.rate 0 (ap not (lt-ltb _ _ c.if-params-row.false)))))
