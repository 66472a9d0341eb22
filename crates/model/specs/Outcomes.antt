-- What each operation on recordings and tables answers for all inputs, and what it leaves in the lists that it was lent.
--     judge_outcome                 a recording and its clock, judged
--     verdict_outcome               the verdict of R, B and F
--     Scheduled, schedule_outcome   the verdict, and the lists of arrival starts and ends afterwards
--     least_outcome                 the least figures at one rate
--     Tabled, table_outcome         the lists of least buffers and fullnesses afterwards
--     lookup_outcome                the bucket for any rate
-- The code's promises equate its answer with these. Assumes nothing.
use Rattle.std.specs.Prelude.{ℕ, List, map}
use Rattle.model.specs.Recording.{Recording}
use Rattle.model.specs.Arrival.{Bucket, Verdict, verdict_of, starts, ends}
use Rattle.model.specs.Least.{least_buffer, least_fullness, least_bucket}
use Rattle.model.specs.Lookup.{Table, lookup_of}
use Rattle.terms.specs.Answers.{Answer, Judgement, lowest, answer_with, written_if}
use Rattle.model.specs.Faults.{recording_faults, verdict_faults, schedule_faults, least_faults, table_faults, lookup_faults}

abbrev pub judge_outcome : Recording → Judgement
judge_outcome k = lowest (recording_faults k)

abbrev pub verdict_outcome : Recording → Bucket → Answer Verdict
verdict_outcome k u = answer_with (lowest (verdict_faults k u)) (verdict_of k u)

pub record Scheduled : Type 0 where
  pub answer : Answer Verdict
  pub starts : List ℕ
  pub ends : List ℕ

-- "The caller says at which entry of its two lists the schedule begins"
abbrev pub schedule_outcome : Recording → Bucket → (at : ℕ) (starts ends : List ℕ) → Scheduled
schedule_outcome k u at l m =
    let j : Judgement = lowest (schedule_faults k u at l m) in
    record { answer = answer_with j (verdict_of k u); starts = written_if j l at (starts k u); ends = written_if j m at (ends k u) }

abbrev pub least_outcome : Recording → (rate : ℕ) → Answer Bucket
least_outcome k rate = answer_with (lowest (least_faults k rate)) (least_bucket k rate)

pub record Tabled : Type 0 where
  pub answer : Judgement
  pub buffers : List ℕ
  pub fullnesses : List ℕ

abbrev pub table_outcome : Recording → (rates : List ℕ) (at : ℕ) (buffers fullnesses : List ℕ) → Tabled
table_outcome k rates at l m =
    let j : Judgement = lowest (table_faults k rates at l m) in
    record { answer = j; buffers = written_if j l at (map (least_buffer k) rates); fullnesses = written_if j m at (map (least_fullness k) rates) }

abbrev pub lookup_outcome : Table → (r : ℕ) → Answer Bucket
lookup_outcome w r = answer_with (lowest (lookup_faults w r)) (lookup_of w r)
