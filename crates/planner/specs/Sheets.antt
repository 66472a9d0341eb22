-- What the exports on sheets and their text promise of their structs and of the lists that they are lent, cited by their `ensures`.
--     ExportedOpen    planner_open_sheet, with its three lists afterwards
--     ExportedPrint   planner_sheet_text, with its bytes afterwards
-- Assumes nothing.
use Rattle.std.specs.Prelude.{ℕ, List}
use Rattle.layout.specs.Sheet.{open_outcome, print_outcome}
use Rattle.answers.specs.Sheets.{open_answer, print_answer}
use Rattle.answers.specs.declared.sheets.PlannerSheet.{PlannerSheet}
use Rattle.answers.specs.declared.sheets.PlannerText.{PlannerText}

abbrev pub ExportedOpen : (bytes l m n : List ℕ) → PlannerSheet → (sizes ticks rates : List ℕ) → Type 0
ExportedOpen bytes l m n r sizes ticks rates = open_answer r sizes ticks rates (open_outcome bytes l m n)

abbrev pub ExportedPrint : (bytes l : List ℕ) → PlannerText → (text : List ℕ) → Type 0
ExportedPrint bytes l r text = print_answer r text (print_outcome bytes l)
