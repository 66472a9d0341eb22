-- What the exports on recordings, verdicts and schedules promise of their structs and of the lists that they are lent, cited by their `ensures`.
--     ExportedJudge      planner_judge
--     ExportedVerdict    planner_verdict
--     ExportedSchedule   planner_schedule, with its two lists afterwards
-- Assumes nothing.
use Rattle.std.specs.Prelude.{ℕ, ◌≡◌, List}
use Rattle.model.specs.Recording.{Recording}
use Rattle.model.specs.Arrival.{Bucket}
use Rattle.model.specs.Outcomes.{judge_outcome, verdict_outcome, schedule_outcome}
use Rattle.answers.specs.Recordings.{judgement_answer, verdict_answer, schedule_answer}
use Rattle.answers.specs.declared.recordings.PlannerJudgement.{PlannerJudgement}
use Rattle.answers.specs.declared.recordings.PlannerVerdict.{PlannerVerdict}

abbrev pub ExportedJudge : Recording → PlannerJudgement → Type 0
ExportedJudge k r = r ≡ judgement_answer (judge_outcome k)

abbrev pub ExportedVerdict : Recording → Bucket → PlannerVerdict → Type 0
ExportedVerdict k u r = r ≡ verdict_answer (verdict_outcome k u)

abbrev pub ExportedSchedule : Recording → Bucket → (at : ℕ) (l m : List ℕ) → PlannerVerdict → (starts ends : List ℕ) → Type 0
ExportedSchedule k u at l m r starts ends = schedule_answer r starts ends (schedule_outcome k u at l m)
