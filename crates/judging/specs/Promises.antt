-- What this crate's operation promises of its answer, cited by its `ensures`.
--     JudgePromise    judge
-- Assumes nothing.
use Rattle.std.specs.Prelude.{◌≡◌, Result}
use Rattle.model.specs.Recording.{Recording}
use Rattle.model.specs.Outcomes.{judge_outcome}
use Rattle.judgement.specs.Outcome.{judgement_of}
use Rattle.judgement.specs.declared.Refusal.{Refusal}

abbrev pub JudgePromise : Recording → Result (Unit {0}) Refusal → Type 0
JudgePromise k r = judgement_of r ≡ judge_outcome k
