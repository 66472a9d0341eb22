-- What this crate's operation promises of its answer, cited by its `ensures`.
--     PrintPromise    print_sheet, with its bytes afterwards
-- Assumes nothing.
use Rattle.std.specs.Prelude.{ℕ, ◌≡◌, List, Result}
use Rattle.layout.specs.Sheet.{print_outcome}
use Rattle.judgement.specs.declared.Refusal.{Refusal}
use Rattle.print.specs.Outcome.{printed}
use Rattle.print.specs.declared.Output.{Output}

abbrev pub PrintPromise : (bytes l : List ℕ) → Result Output Refusal → (text : List ℕ) → Type 0
PrintPromise bytes l r text = printed r text ≡ print_outcome bytes l
