-- What this crate's operations promise of their answers, cited by their `ensures`.
--     VerdictPromise    bucket_verdict
--     SchedulePromise   schedule, with its two lists afterwards
-- Assumes nothing.
use Rattle.std.specs.Prelude.{ℕ, ◌≡◌, List, Result}
use Rattle.model.specs.Recording.{Recording}
use Rattle.model.specs.Arrival.{Bucket}
use Rattle.model.specs.Outcomes.{verdict_outcome, schedule_outcome}
use Rattle.judgement.specs.declared.Refusal.{Refusal}
use Rattle.schedule.specs.Outcome.{answer_of, scheduled}
use Rattle.schedule.specs.declared.Verdict.{Verdict}

abbrev pub VerdictPromise : Recording → Bucket → Result Verdict Refusal → Type 0
VerdictPromise k u r = answer_of r ≡ verdict_outcome k u

abbrev pub SchedulePromise : Recording → Bucket → (at : ℕ) (l m : List ℕ) → Result Verdict Refusal → (starts ends : List ℕ) → Type 0
SchedulePromise k u at l m r starts ends = scheduled r starts ends ≡ schedule_outcome k u at l m
