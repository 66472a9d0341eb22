-- `lookup::judge_rows` meets its contract: a row that is refused is the first, and at the end of the lists there was none.
-- Assumes nothing.
use mathlib.Core.Path.{sym, ◌∙◌}
use Rattle.judging.proofs.Places.{first_met, none_met}
use Rattle.lookup.proofs.judge_rows.Goals as goal

pub returns-then-is_bad_bucket : goal.returns-then-is_bad_bucket
returns-then-is_bad_bucket c =
    first_met _ c.loop-i.invariant c.loop-i-test.true (sym c.is_bad_bucket.ensures ∙ c.if-is_bad_bucket.true)

pub returns : goal.returns
returns c = none_met _ c.loop-i.invariant c.loop-i-test.false
