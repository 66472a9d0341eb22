-- What this crate's operation promises of its answer, cited by its `ensures`.
--     OpenPromise    open_sheet, with its three lists afterwards
-- Assumes nothing.
use Rattle.std.specs.Prelude.{ℕ, ◌≡◌, List, Result}
use Rattle.layout.specs.Sheet.{open_outcome}
use Rattle.judgement.specs.declared.Refusal.{Refusal}
use Rattle.sheet.specs.Outcome.{opened}
use Rattle.sheet.specs.declared.Head.{Head}

abbrev pub OpenPromise : (bytes l m n : List ℕ) → Result Head Refusal → (sizes ticks rates : List ℕ) → Type 0
OpenPromise bytes l m n r sizes ticks rates = opened r sizes ticks rates ≡ open_outcome bytes l m n
