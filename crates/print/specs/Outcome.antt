-- What this crate's answer says, in document 01's numbers, places and values.
--     output_of    where what is printed ends, and how the sheet was judged
--     printed_of   what was printed, or a refusal
--     printed      the same with the list of bytes afterwards
-- Assumes nothing.
use Rattle.std.specs.Prelude.{ℕ, List, Result}
use Rattle.terms.specs.Answers.{Answer}
use Rattle.layout.specs.Sheet as sheet
use Rattle.judgement.specs.Outcome.{answer_by, judgement_of}
use Rattle.judgement.specs.declared.Refusal.{Refusal}
use Rattle.print.specs.declared.Output.{Output}

abbrev pub output_of : Output → sheet.Output
output_of o = record { end = o.end; judged = judgement_of o.judged }

abbrev pub printed_of : Result Output Refusal → Answer sheet.Output
printed_of r = answer_by output_of r

abbrev pub printed : Result Output Refusal → (text : List ℕ) → sheet.Printed
printed r text = record { answer = printed_of r; text = text }
