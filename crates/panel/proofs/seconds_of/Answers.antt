-- `panel::seconds_of` meets its contract: the figures of a bucket that passes are held exactly.
-- Assumes nothing.
use native.Mathlib.Omega.{arith}
use Rattle.judgement.proofs.Steps.{passes}
use Rattle.recording.specs.Given.{bucket_of}
use Rattle.panel.proofs.JudgeLaws.{seconds-exact}
use Rattle.panel.proofs.seconds_of.Goals as goal

pub quotient-requires : goal.quotient-requires
quotient-requires c = omega (arith, seconds-exact (bucket_of c.args.bucket) (passes _ _ c.judge_bucket.ensures.judges c.in_ok-judge_bucket.was))

pub quotient-requires-2 : goal.quotient-requires-2
quotient-requires-2 c = omega (arith, seconds-exact (bucket_of c.args.bucket) (passes _ _ c.judge_bucket.ensures.judges c.in_ok-judge_bucket.was))
