-- `judging::judge_rate` meets its contract: a rate that passes is no larger than the largest.
-- Assumes nothing.
use Rattle.judgement.proofs.Steps.{on_ok}
use Rattle.judging.proofs.Limits.{rate-within}
use Rattle.judging.proofs.judge_rate.Goals as goal

pub returns-clause-within : goal.returns-clause-within
returns-clause-within c = on_ok _ (rw c.is_bad_rate.ensures at c.refuse_if.ensures) (rate-within c.args.rate)
