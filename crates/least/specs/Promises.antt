-- What this crate's operations promise of their answers, cited by their `ensures`.
--     LeastPromise   least
--     TablePromise   table, with its two lists afterwards
-- Assumes nothing.
use Rattle.std.specs.Prelude.{ℕ, ◌≡◌, List, Result}
use Rattle.model.specs.Recording.{Recording}
use Rattle.model.specs.Outcomes.{least_outcome, table_outcome}
use Rattle.judgement.specs.declared.Refusal.{Refusal}
use Rattle.recording.specs.declared.Bucket.{Bucket}
use Rattle.least.specs.Outcome.{figures_of, tabled}

abbrev pub LeastPromise : Recording → (rate : ℕ) → Result Bucket Refusal → Type 0
LeastPromise k rate r = figures_of r ≡ least_outcome k rate

abbrev pub TablePromise : Recording → (rates : List ℕ) (at : ℕ) (l m : List ℕ) → Result (Unit {0}) Refusal → (buffers fullnesses : List ℕ) → Type 0
TablePromise k rates at l m r buffers fullnesses = tabled r buffers fullnesses ≡ table_outcome k rates at l m
