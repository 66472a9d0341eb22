-- `schedule::judge` meets its contract: the recording is judged first, then the bucket.
-- Assumes nothing.
use mathlib.Core.Path.{sym, ◌∙◌}
use Rattle.model.specs.Recording.{Recording}
use Rattle.judgement.proofs.Steps.{stop, pass, passes}
use Rattle.recording.specs.Given.{recording_of, bucket_of}
use Rattle.schedule.proofs.OutcomeLaws.{verdict-first, verdict-passed}
use Rattle.schedule.proofs.judge.Goals as goal

pub returns-in_err-judged-clause-judges : goal.returns-in_err-judged-clause-judges
returns-in_err-judged-clause-judges c =
    let k : Recording = recording_of c.args.recording in
    stop _ _ _ _ c.judged.ensures.judges c.in_err-judged.was c.from_residual.ensures.1 ∙ sym (verdict-first k (bucket_of c.args.bucket))

pub returns-in_err-judged_bucket-clause-judges : goal.returns-in_err-judged_bucket-clause-judges
returns-in_err-judged_bucket-clause-judges c =
    let k : Recording = recording_of c.args.recording in
    stop _ _ _ _ c.judged_bucket.ensures.judges c.in_err-judged_bucket.was c.from_residual-in_err-judged_bucket.ensures.1
    ∙ sym (verdict-first k (bucket_of c.args.bucket) ∙ pass _ _ _ c.judged.ensures.judges c.in_ok-judged.was)

pub returns-clause-judges : goal.returns-clause-judges
returns-clause-judges c =
    let k : Recording = recording_of c.args.recording in
    sym
    (verdict-passed k (bucket_of c.args.bucket) (passes _ _ c.judged.ensures.judges c.in_ok-judged.was)
    (passes _ _ c.judged_bucket.ensures.judges c.in_ok-judged_bucket.was))
