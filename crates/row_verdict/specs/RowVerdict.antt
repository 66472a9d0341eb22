-- The verdict of a start fullness and a row of a parameter record (document 01, "How bits arrive and leave").
--     row_bucket            the bucket that a row and F make: R and B are the row's
--     row_verdict_faults    what may be wrong, in the order of document 01
--     row_verdict_outcome   the verdict, or a refusal
-- A row's rate and size: coding/specs/Params.antt. Assumes nothing.
use Rattle.std.specs.Prelude.{ℕ, not, List, [], ◌∷◌, ◌++◌, ltb, eqb, get_or}
use Rattle.rules.specs.Refusals as refusal
use Rattle.terms.specs.Answers.{Answer, Judgement, refuse_if, lowest, first, answer_with}
use Rattle.model.specs.Recording.{Recording}
use Rattle.model.specs.Arrival.{Bucket, bucket, Verdict, verdict_of}
use Rattle.model.specs.Faults.{verdict_faults}
use Rattle.coding.specs.Params.{Params, params_judged, row_rate, row_size}

abbrev pub row_bucket : Params → (row f : ℕ) → Bucket
row_bucket p row f = bucket (row_rate p row) (row_size p row) f

-- "the record is judged first (10), the row number next (6 at 0 if there is no such row), then the lowest of the rest, a fault of R or B being at 0."
abbrev pub row_verdict_faults : Recording → Params → (row f : ℕ) → List Judgement
row_verdict_faults k p row f =
    params_judged p
    ∷ refuse_if (not (ltb row p.cpb_cnt)) refusal.rate 0
    ∷ lowest (verdict_faults k (row_bucket p row f) ++ (refuse_if (eqb (get_or p.cbr_flag row 0) 1) refusal.constant row ∷ []))
    ∷ []

abbrev pub row_verdict_outcome : Recording → Params → (row f : ℕ) → Answer Verdict
row_verdict_outcome k p row f = answer_with (first (row_verdict_faults k p row f)) (verdict_of k (row_bucket p row f))
