-- What this crate's operation promises of its answer, cited by its `ensures`.
--     RecordPromise    judge_params
-- Assumes nothing.
use Rattle.std.specs.Prelude.{◌≡◌, Result}
use Rattle.coding.specs.Params.{params_judged}
use Rattle.judgement.specs.Outcome.{judgement_of}
use Rattle.judgement.specs.declared.Refusal.{Refusal}
use Rattle.params.specs.Outcome.{params_of}
use Rattle.params.specs.declared.Params.{Params}

abbrev pub RecordPromise : Params → Result (Unit {0}) Refusal → Type 0
RecordPromise params r = judgement_of r ≡ params_judged (params_of params)
