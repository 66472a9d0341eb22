-- What this crate's answers say, in document 01's numbers, places and values.
--     verdict_of   a verdict
--     answer_of    a verdict, or a refusal
--     scheduled    the same, with the two lists afterwards
-- Assumes nothing.
use Rattle.std.specs.Prelude.{ℕ, List, Result}
use Rattle.model.specs.Arrival as arrival
use Rattle.terms.specs.Answers.{Answer}
use Rattle.model.specs.Outcomes.{Scheduled}
use Rattle.judgement.specs.Outcome.{answer_by}
use Rattle.judgement.specs.declared.Refusal.{Refusal}
use Rattle.schedule.specs.declared.Verdict.{Verdict}
use Rattle.schedule.specs.declared.Verdict.TheVariants as verdict

abbrev pub verdict_of : Verdict → arrival.Verdict
verdict_of verdict.Holds = arrival.holds
verdict_of (verdict.Late picture units) = arrival.late picture units

abbrev pub answer_of : Result Verdict Refusal → Answer arrival.Verdict
answer_of r = answer_by verdict_of r

abbrev pub scheduled : Result Verdict Refusal → (starts ends : List ℕ) → Scheduled
scheduled r starts ends = record { answer = answer_of r; starts = starts; ends = ends }
