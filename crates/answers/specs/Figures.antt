-- Least figures, tables and lookups as the plain structs that C and Rust see: a refusal has its number and place, and all figures 0.
--     bucket_answer   buffer and start fullness
--     table_answer    a table's answer, with its two lists afterwards
-- Assumes nothing.
use Rattle.std.specs.Prelude.{ℕ, ◌≡◌, List}
use Rattle.rules.specs.Kinds as kind
use Rattle.terms.specs.Answers.{Answer, given, refused}
use Rattle.model.specs.Arrival.{Bucket}
use Rattle.model.specs.Outcomes.{Tabled}
use Rattle.answers.specs.declared.recordings.PlannerJudgement.{PlannerJudgement}
use Rattle.answers.specs.Recordings.{judgement_answer}
use Rattle.answers.specs.declared.figures.PlannerBucket.{PlannerBucket}

abbrev pub bucket_answer : Answer Bucket → PlannerBucket
bucket_answer (given u) = record { kind = kind.given; number = 0; place = 0; buffer = u.buffer; fullness = u.fullness }
bucket_answer (refused n i) = record { kind = kind.refused; number = n; place = i; buffer = 0; fullness = 0 }

abbrev pub table_answer : PlannerJudgement → (buffers fullnesses : List ℕ) → Tabled → Type 0
table_answer r buffers fullnesses t = (r ≡ judgement_answer t.answer) × (buffers ≡ t.buffers) × (fullnesses ≡ t.fullnesses)
