-- What this crate's operation promises of its answer, cited by its `ensures`.
--     ReadPromise    read_params
-- Assumes nothing.
use Rattle.std.specs.Prelude.{ℕ, ◌≡◌, List, Result}
use Rattle.coding.specs.Params.{read_outcome}
use Rattle.judgement.specs.declared.Refusal.{Refusal}
use Rattle.params_read.specs.Outcome.{params_read_of}
use Rattle.params_read.specs.declared.ParamsRead.{ParamsRead}

abbrev pub ReadPromise : (bytes : List ℕ) (start : ℕ) → Result ParamsRead Refusal → Type 0
ReadPromise bytes start r = params_read_of r ≡ read_outcome bytes start
