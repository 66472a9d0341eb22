-- Judgements and verdicts as the plain structs that C and Rust see: a refusal has its number and place, and all figures 0.
--     judgement_answer   passed
--     verdict_answer     holds, or late
--     schedule_answer    a schedule's answer, with its two lists afterwards
-- Assumes nothing.
use Rattle.std.specs.Prelude.{ℕ, ◌≡◌, List}
use Rattle.rules.specs.Kinds as kind
use Rattle.terms.specs.Answers.{Answer, given, refused, Judgement}
use Rattle.model.specs.Arrival.{Verdict, holds, late}
use Rattle.model.specs.Outcomes.{Scheduled}
use Rattle.answers.specs.declared.recordings.PlannerJudgement.{PlannerJudgement}
use Rattle.answers.specs.declared.recordings.PlannerVerdict.{PlannerVerdict}

abbrev pub judgement_answer : Judgement → PlannerJudgement
judgement_answer (given a) = record { kind = kind.given; number = 0; place = 0 }
judgement_answer (refused n i) = record { kind = kind.refused; number = n; place = i }

abbrev pub verdict_on : Verdict → PlannerVerdict
verdict_on holds = record { kind = kind.holds; number = 0; place = 0; picture = 0; units = 0 }
verdict_on (late picture units) = record { kind = kind.late; number = 0; place = 0; picture = picture; units = units }

abbrev pub verdict_answer : Answer Verdict → PlannerVerdict
verdict_answer (given v) = verdict_on v
verdict_answer (refused n i) = record { kind = kind.refused; number = n; place = i; picture = 0; units = 0 }

abbrev pub schedule_answer : PlannerVerdict → (starts ends : List ℕ) → Scheduled → Type 0
schedule_answer r starts ends t = (r ≡ verdict_answer t.answer) × (starts ≡ t.starts) × (ends ≡ t.ends)
