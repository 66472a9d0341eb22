-- What this crate's operation promises of its answer, cited by its `ensures`.
--     LookupPromise    look_up
-- Assumes nothing.
use Rattle.std.specs.Prelude.{ℕ, ◌≡◌, Result}
use Rattle.model.specs.Lookup.{Table}
use Rattle.model.specs.Outcomes.{lookup_outcome}
use Rattle.judgement.specs.declared.Refusal.{Refusal}
use Rattle.recording.specs.declared.Bucket.{Bucket}
use Rattle.lookup.specs.Outcome.{found_of}

abbrev pub LookupPromise : Table → (rate : ℕ) → Result Bucket Refusal → Type 0
LookupPromise w rate r = found_of r ≡ lookup_outcome w rate
