-- What this crate's answers say, in document 01's numbers, places and values.
--     length_of        how many bits a record takes, or a refusal
--     params_written   the answer of writing, with the bytes afterwards
-- Assumes nothing.
use Rattle.std.specs.Prelude.{ℕ, List, Result}
use Rattle.terms.specs.Answers.{Answer}
use Rattle.coding.specs.Params as params
use Rattle.judgement.specs.Outcome.{answer_by}
use Rattle.judgement.specs.declared.Refusal.{Refusal}

abbrev pub length_of : Result ℕ Refusal → Answer ℕ
length_of r = answer_by (λ n. n) r

abbrev pub params_written : Result ℕ Refusal → (bytes : List ℕ) → params.ParamsWritten
params_written r bytes = record { answer = answer_by (λ n. n) r; bytes = bytes }
