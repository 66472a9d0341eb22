-- What this crate's answer says, in document 01's numbers, places and values.
--     row_of           rate and size of a row
--     params_row_of    the same, or a refusal
-- Assumes nothing.
use Rattle.std.specs.Prelude.{Result}
use Rattle.terms.specs.Answers.{Answer}
use Rattle.coding.specs.Params as params
use Rattle.judgement.specs.Outcome.{answer_by}
use Rattle.judgement.specs.declared.Refusal.{Refusal}
use Rattle.row_verdict.specs.declared.Row.{Row}

abbrev pub row_of : Row → params.Row
row_of t = record { rate = t.rate; size = t.size }

abbrev pub params_row_of : Result Row Refusal → Answer params.Row
params_row_of r = answer_by row_of r
