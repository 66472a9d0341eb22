-- What each of this crate's operations promises of its answer, cited by its `ensures`.
--     LengthPromise   length_of
--     WritePromise    write_params, with its bytes afterwards
-- Assumes nothing.
use Rattle.std.specs.Prelude.{ℕ, ◌≡◌, List, Result}
use Rattle.coding.specs.Params.{length_outcome, write_outcome}
use Rattle.judgement.specs.declared.Refusal.{Refusal}
use Rattle.params.specs.Outcome.{params_of}
use Rattle.params.specs.declared.Params.{Params}
use Rattle.params_write.specs.Outcome.{length_of, params_written}

abbrev pub LengthPromise : Params → Result ℕ Refusal → Type 0
LengthPromise params r = length_of r ≡ length_outcome (params_of params)

abbrev pub WritePromise : Params → (bytes : List ℕ) (start : ℕ) → Result ℕ Refusal → (after : List ℕ) → Type 0
WritePromise params bytes start r after = params_written r after ≡ write_outcome (params_of params) bytes start
