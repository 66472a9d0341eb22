-- `panel::panel` meets its contract: a refusal, or else the reading by the definition's comparison.
-- Assumes nothing.
use native.Mathlib.Omega.{arith}
use mathlib.Core.Path.{sym, ◌∙◌}
use Rattle.judgement.proofs.Steps.{stop, pass, passes}
use Rattle.recording.specs.Given.{bucket_of}
use Rattle.panel.proofs.JudgeLaws.{seconds-exact, panel-refused, panel-given}
use Rattle.panel.proofs.panel.Goals as goal

pub returns-in_err-judge_bucket : goal.returns-in_err-judge_bucket
returns-in_err-judge_bucket c =
    let left = c.from_residual.ensures.1 in
    panel-refused (bucket_of c.args.bucket) c.args.limit _ _ left (stop _ _ _ _ c.judge_bucket.ensures.judges c.in_err-judge_bucket.was left)

pub returns-in_err-refuse_if : goal.returns-in_err-refuse_if
returns-in_err-refuse_if c =
    let left = c.from_residual-in_err-refuse_if.ensures.1 in
    let sound = pass _ _ _ c.judge_bucket.ensures.judges c.in_ok-judge_bucket.was in
    panel-refused (bucket_of c.args.bucket) c.args.limit _ _ left
    (stop _ _ _ _ (rw c.is_bad_limit.ensures at c.refuse_if.ensures) c.in_err-refuse_if.was left ∙ sym sound)

pub quotient-wait-requires : goal.quotient-wait-requires
quotient-wait-requires c = omega (arith, seconds-exact (bucket_of c.args.bucket) (passes _ _ c.judge_bucket.ensures.judges c.in_ok-judge_bucket.was))

pub returns-then-wait-limit : goal.returns-then-wait-limit
returns-then-wait-limit c =
    panel-given (bucket_of c.args.bucket) c.args.limit _ (passes _ _ c.judge_bucket.ensures.judges c.in_ok-judge_bucket.was)
    (passes _ _ (rw c.is_bad_limit.ensures at c.refuse_if.ensures) c.in_ok-refuse_if.was)
    c.quotient-wait.ensures
    c.if-wait-limit.true

pub returns-else-wait-limit : goal.returns-else-wait-limit
returns-else-wait-limit c =
    panel-given (bucket_of c.args.bucket) c.args.limit _ (passes _ _ c.judge_bucket.ensures.judges c.in_ok-judge_bucket.was)
    (passes _ _ (rw c.is_bad_limit.ensures at c.refuse_if.ensures) c.in_ok-refuse_if.was)
    c.quotient-wait.ensures
    c.if-wait-limit.false
