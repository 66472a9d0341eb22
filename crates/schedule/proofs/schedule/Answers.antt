-- `schedule::schedule` meets its contract: a refusal, or else what `run` answers and stores in the entries that it is lent of each list.
-- Assumes nothing.
use mathlib.Core.Path.{sym, ◌∙◌}
use Rattle.model.specs.Recording.{Recording}
use Rattle.judgement.proofs.Steps.{stop, pass, passes}
use Rattle.recording.specs.Given.{recording_of, bucket_of}
use Rattle.schedule.proofs.OutcomeLaws.{schedule-refused, schedule-given}
use Rattle.schedule.proofs.schedule.Goals as goal

pub returns-in_err-judged : goal.returns-in_err-judged
returns-in_err-judged c =
    let k : Recording = recording_of c.args.recording in
    let left = c.from_residual.ensures.1 in
    schedule-refused k (bucket_of c.args.bucket) c.args.at _ _ _ _ left (stop _ _ _ _ c.judge.ensures.judges c.in_err-judged.was left)

pub returns-in_err-judge_rooms : goal.returns-in_err-judge_rooms
returns-in_err-judge_rooms c =
    let k : Recording = recording_of c.args.recording in
    let left = c.from_residual-in_err-judge_rooms.ensures.1 in
    schedule-refused k (bucket_of c.args.bucket) c.args.at _ _ _ _ left
    (stop _ _ _ _ c.judge_rooms.ensures.judges c.in_err-judge_rooms.was left ∙ sym (pass _ _ _ c.judge.ensures.judges c.in_ok-judged.was))

pub returns : goal.returns
returns c =
    let k : Recording = recording_of c.args.recording in
    let room = passes _ _ c.judge_rooms.ensures.judges c.in_ok-judge_rooms.was in
    let judged = passes _ _ c.judge.ensures.judges c.in_ok-judged.was in
    let (same, bucket-is) = c.in_ok-judged.ensures.same in
    let e = rw bucket-is at c.run-late.ensures in
    schedule-given k (bucket_of c.args.bucket) c.args.at c.args.starts.now c.args.ends.now room _ judged same
    (c.from.ensures ∙ e.verdict)
    e.starts_filled
    e.ends_filled
