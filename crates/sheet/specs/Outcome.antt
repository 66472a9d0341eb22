-- What this crate's answers say, in document 01's numbers, places and values.
--     head_of     what an opened sheet says beside its lists
--     HeadFits    a file is as long as it says, and neither of its counts is too large
--     opened_of   an opened sheet, or a refusal
--     opened      the same with the three lists afterwards
-- Assumes nothing.
use Rattle.std.specs.Prelude.{ℕ, ◌+◌, ◌*◌, ◌≤◌, ◌≡◌, List, length, Result}
use Rattle.rules.specs.Limits.{header_bytes, sheet_pictures_max, rows_max}
use Rattle.terms.specs.Answers.{Answer}
use Rattle.layout.specs.Sheet as sheet
use Rattle.judgement.specs.Outcome.{answer_by}
use Rattle.judgement.specs.declared.Refusal.{Refusal}
use Rattle.sheet.specs.declared.Head.{Head}

abbrev pub head_of : Head → sheet.Head
head_of h = record { pictures = h.pictures; rates = h.rates; ts = h.ts; nu = h.nu }

abbrev pub HeadFits : (bytes : List ℕ) → Head → Type 0
HeadFits bytes h = (length bytes ≡ header_bytes + 8 * h.pictures + 4 * h.rates) × (h.pictures ≤ sheet_pictures_max) × (h.rates ≤ rows_max)

abbrev pub opened_of : Result Head Refusal → Answer sheet.Head
opened_of r = answer_by head_of r

abbrev pub opened : Result Head Refusal → (sizes ticks rates : List ℕ) → sheet.Opened
opened r sizes ticks rates = record { answer = opened_of r; sizes = sizes; ticks = ticks; rates = rates }
