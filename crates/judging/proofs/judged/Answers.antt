-- `judging::judged` meets its contract: a recording that passes keeps every limit.
-- Assumes nothing.
use Rattle.model.proofs.FaultsLaws.{judge_outcome-within}
use Rattle.judgement.proofs.Steps.{passes}
use Rattle.recording.specs.Given.{recording_of}
use Rattle.judging.proofs.judged.Goals as goal

pub invariant_of-result : goal.invariant_of-result
invariant_of-result c =
    record { within = (judge_outcome-within (recording_of c.args.recording)).0 (passes _ _ c.judge.ensures c.in_ok-judge.was) }
