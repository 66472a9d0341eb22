-- What this crate's answers say, in document 01's numbers, places and values.
--     took_of      the seconds of a bucket
--     timed_of     the same, or a refusal
--     read_of      a panel reading
--     reading_of   the same, or a refusal
-- Assumes nothing.
use Rattle.std.specs.Prelude.{Result}
use Rattle.terms.specs.Answers.{Answer}
use Rattle.model.specs.Panel as panel
use Rattle.judgement.specs.Outcome.{answer_by}
use Rattle.judgement.specs.declared.Refusal.{Refusal}
use Rattle.panel.specs.declared.Seconds.{Seconds}
use Rattle.panel.specs.declared.Reading.{Reading}
use Rattle.panel.specs.declared.Reading.TheVariants as reading

abbrev pub took_of : Seconds → panel.Seconds
took_of s = record { wait = s.wait; fill = s.fill }

abbrev pub timed_of : Result Seconds Refusal → Answer panel.Seconds
timed_of r = answer_by took_of r

abbrev pub read_of : Reading → panel.Reading
read_of (reading.Within wait) = panel.within wait
read_of (reading.Over wait limit) = panel.over wait limit

abbrev pub reading_of : Result Reading Refusal → Answer panel.Reading
reading_of r = answer_by read_of r
