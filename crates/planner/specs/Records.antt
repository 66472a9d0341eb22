-- What the exports on parameter records promise of their structs and of the bytes that they are lent, cited by their `ensures`.
--     ExportedRecord      planner_judge_params
--     ExportedLength      planner_params_length
--     ExportedParamsRow   planner_params_row
--     ExportedRead        planner_read_params
--     ExportedWrite       planner_write_params, with its bytes afterwards
--     ExportedRow         planner_row_verdict
-- Assumes nothing.
use Rattle.std.specs.Prelude.{ℕ, ◌≡◌, List}
use Rattle.model.specs.Recording.{Recording}
use Rattle.coding.specs.Params.{params_judged, read_outcome, write_outcome, length_outcome, params_row_outcome}
use Rattle.params.specs.Outcome.{params_of}
use Rattle.params.specs.declared.Params.{Params}
use Rattle.row_verdict.specs.RowVerdict.{row_verdict_outcome}
use Rattle.answers.specs.Recordings.{judgement_answer, verdict_answer}
use Rattle.answers.specs.Records.{read_answer, write_answer, length_answer, row_answer}
use Rattle.answers.specs.declared.recordings.PlannerJudgement.{PlannerJudgement}
use Rattle.answers.specs.declared.recordings.PlannerVerdict.{PlannerVerdict}
use Rattle.answers.specs.declared.records.PlannerParamsRead.{PlannerParamsRead}
use Rattle.answers.specs.declared.records.PlannerPosition.{PlannerPosition}
use Rattle.answers.specs.declared.records.PlannerLength.{PlannerLength}
use Rattle.answers.specs.declared.records.PlannerRow.{PlannerRow}

abbrev pub ExportedRecord : Params → PlannerJudgement → Type 0
ExportedRecord params r = r ≡ judgement_answer (params_judged (params_of params))

abbrev pub ExportedLength : Params → PlannerLength → Type 0
ExportedLength params r = r ≡ length_answer (length_outcome (params_of params))

abbrev pub ExportedParamsRow : Params → (row : ℕ) → PlannerRow → Type 0
ExportedParamsRow params row r = r ≡ row_answer (params_row_outcome (params_of params) row)

abbrev pub ExportedRead : (bytes : List ℕ) (start : ℕ) → PlannerParamsRead → Type 0
ExportedRead bytes start r = read_answer r (read_outcome bytes start)

abbrev pub ExportedWrite : Params → (bytes : List ℕ) (start : ℕ) → PlannerPosition → (after : List ℕ) → Type 0
ExportedWrite params bytes start r after = write_answer r after (write_outcome (params_of params) bytes start)

abbrev pub ExportedRow : Recording → Params → (row fullness : ℕ) → PlannerVerdict → Type 0
ExportedRow k params row fullness r = r ≡ verdict_answer (row_verdict_outcome k (params_of params) row fullness)
