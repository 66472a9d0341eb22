-- What each of this crate's operations promises of its answer, cited by its `ensures`.
--     ParamsRowPromise   params_row
--     RowPromise         row_verdict
-- Assumes nothing.
use Rattle.std.specs.Prelude.{ℕ, ◌≡◌, Result}
use Rattle.model.specs.Recording.{Recording}
use Rattle.coding.specs.Params.{params_row_outcome}
use Rattle.judgement.specs.declared.Refusal.{Refusal}
use Rattle.params.specs.Outcome.{params_of}
use Rattle.params.specs.declared.Params.{Params}
use Rattle.schedule.specs.Outcome.{answer_of}
use Rattle.schedule.specs.declared.Verdict.{Verdict}
use Rattle.row_verdict.specs.Outcome.{params_row_of}
use Rattle.row_verdict.specs.RowVerdict.{row_verdict_outcome}
use Rattle.row_verdict.specs.declared.Row.{Row}

abbrev pub ParamsRowPromise : Params → (row : ℕ) → Result Row Refusal → Type 0
ParamsRowPromise params row r = params_row_of r ≡ params_row_outcome (params_of params) row

abbrev pub RowPromise : Recording → Params → (row fullness : ℕ) → Result Verdict Refusal → Type 0
RowPromise k params row fullness r = answer_of r ≡ row_verdict_outcome k (params_of params) row fullness
