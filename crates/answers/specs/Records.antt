-- Parameter records as the plain structs that C and Rust see: a refusal has its number and place, and all figures 0.
--     position_answer   the next bit position
--     read_answer       a record read and the next bit position
--     write_answer      the next bit position, with the bytes afterwards
--     length_answer     how many bits a record takes
--     row_answer        rate and size of a row
-- Assumes nothing.
use Rattle.std.specs.Prelude.{ℕ, ◌≡◌, List}
use Rattle.rules.specs.Kinds as kind
use Rattle.terms.specs.Answers.{Answer, given, refused}
use Rattle.coding.specs.Params.{ParamsRead, ParamsWritten, Row}
use Rattle.params.specs.Outcome.{params_of}
use Rattle.answers.specs.declared.records.PlannerParamsRead.{PlannerParamsRead}
use Rattle.answers.specs.declared.records.PlannerPosition.{PlannerPosition}
use Rattle.answers.specs.declared.records.PlannerLength.{PlannerLength}
use Rattle.answers.specs.declared.records.PlannerRow.{PlannerRow}

abbrev pub position_answer : Answer ℕ → PlannerPosition
position_answer (given p) = record { kind = kind.given; number = 0; place = 0; next = p }
position_answer (refused n i) = record { kind = kind.refused; number = n; place = i; next = 0 }

abbrev pub position_read : PlannerParamsRead → PlannerPosition
position_read r = record { kind = r.kind; number = r.number; place = r.place; next = r.next }

abbrev pub read_answer : PlannerParamsRead → ParamsRead → Type 0
read_answer r t = (position_read r ≡ position_answer t.answer) × (params_of r.params ≡ t.params)

abbrev pub write_answer : PlannerPosition → (bytes : List ℕ) → ParamsWritten → Type 0
write_answer r bytes t = (r ≡ position_answer t.answer) × (bytes ≡ t.bytes)

abbrev pub length_answer : Answer ℕ → PlannerLength
length_answer (given bits) = record { kind = kind.given; number = 0; place = 0; bits = bits }
length_answer (refused n i) = record { kind = kind.refused; number = n; place = i; bits = 0 }

abbrev pub row_answer : Answer Row → PlannerRow
row_answer (given row) = record { kind = kind.given; number = 0; place = 0; rate = row.rate; size = row.size }
row_answer (refused n i) = record { kind = kind.refused; number = n; place = i; rate = 0; size = 0 }
