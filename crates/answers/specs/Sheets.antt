-- Sheets and their text as the plain structs that C and Rust see: a refusal has its number and place, and all figures 0.
--     sheet_answer   how many pictures and rates a sheet has, and its clock
--     open_answer    the same with its three lists afterwards
--     text_by        how many bytes were printed, of a table or of the line of a refusal, by how the sheet was judged
--     text_on        the same of what is said of an output
--     text_answer    the same, or a refusal
--     print_answer   the same with the bytes afterwards
-- Assumes nothing.
use Rattle.std.specs.Prelude.{ℕ, ◌≡◌, List}
use Rattle.rules.specs.Kinds as kind
use Rattle.terms.specs.Answers.{Answer, given, refused, Judgement}
use Rattle.layout.specs.Sheet.{Head, Opened, Output, Printed}
use Rattle.answers.specs.declared.sheets.PlannerSheet.{PlannerSheet}
use Rattle.answers.specs.declared.sheets.PlannerText.{PlannerText}

abbrev pub sheet_answer : Answer Head → PlannerSheet
sheet_answer (given h) =
    record { kind = kind.given; number = 0; place = 0; pictures = h.pictures; rates = h.rates; ts = h.ts; nu = h.nu }
sheet_answer (refused n i) = record { kind = kind.refused; number = n; place = i; pictures = 0; rates = 0; ts = 0; nu = 0 }

abbrev pub open_answer : PlannerSheet → (sizes ticks rates : List ℕ) → Opened → Type 0
open_answer r sizes ticks rates t =
    (r ≡ sheet_answer t.answer) × (sizes ≡ t.sizes) × (ticks ≡ t.ticks) × (rates ≡ t.rates)

abbrev pub text_by : Judgement → (end : ℕ) → PlannerText
text_by (given a) end = record { kind = kind.table; number = 0; place = 0; length = end; sheet_number = 0; sheet_place = 0 }
text_by (refused n i) end = record { kind = kind.line; number = 0; place = 0; length = end; sheet_number = n; sheet_place = i }

abbrev pub text_on : Output → PlannerText
text_on o = text_by o.judged o.end

abbrev pub text_answer : Answer Output → PlannerText
text_answer (given o) = text_on o
text_answer (refused n i) = record { kind = kind.refused; number = n; place = i; length = 0; sheet_number = 0; sheet_place = 0 }

abbrev pub print_answer : PlannerText → (text : List ℕ) → Printed → Type 0
print_answer r text t = (r ≡ text_answer t.answer) × (text ≡ t.text)
