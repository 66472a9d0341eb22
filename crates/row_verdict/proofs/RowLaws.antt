-- The rate and the size of a row of an accepted record, and the verdict of a row, step by step. Definitions: specs/RowVerdict.antt,
-- coding/specs/Params.antt.
--     rate-fits, size-fits    the rate of a row fits the word, and so does its size
--     row-given               the bucket of what is given is the row's
--     row-first               the record and the row number are judged first, then the verdict, then the flag
-- Assumes nothing.
use Prim.Native.Nat.{ℕ, ◌+◌, ◌*◌, ◌^◌, ◌<◌}
use native.Mathlib.Omega.{arith}
use mathlib.Core.Path.{◌≡◌, sym, ap, ◌∙◌}
use mathlib.Core.List.{List, [], ◌∷◌, ◌++◌}
use lib.Dec.{eqb}
use lib.ListN.{get_or}
use Rattle.rules.specs.Limits.{rate_shift, size_shift}
use Rattle.rules.specs.Width.{word_bits, Word}
use Rattle.rules.specs.Refusals as refusal
use Rattle.rules.proofs.Fits.{row_rate-fits, row_size-fits}
use Rattle.terms.specs.Answers.{Judgement, given, passed, refuse_if, or_else, lowest, first}
use Rattle.terms.proofs.AnswersLaws.{none, test, first-append, answer-passed}
use Rattle.model.specs.Recording.{Recording}
use Rattle.model.specs.Arrival.{bucket}
use Rattle.model.specs.Faults.{verdict_faults}
use Rattle.model.proofs.FaultsLaws.{verdict_faults-after}
use Rattle.coding.specs.Params as coding
use Rattle.coding.specs.Params.{Params, params_judged, row_rate, row_size, params_row_faults, params_row_outcome}
use Rattle.coding.proofs.FieldsLaws.{params-scales, params-values}
use Rattle.judgement.proofs.Steps.{last}
use Rattle.row_verdict.specs.RowVerdict.{row_bucket, row_verdict_faults}

module _ (p : Params) (row : ℕ) where
  module _ (ok : params_judged p ≡ passed) (h : row < p.cpb_cnt) where
    pub rate-fits : (rate_shift + p.bit_rate_scale < word_bits) × Word ((get_or p.bit_rate_value_minus1 row 0 + 1) * 2 ^ (rate_shift + p.bit_rate_scale))
    rate-fits = let scale = (params-scales p ok).0 in (omega (arith, scale), row_rate-fits (params-values p ok row h).0 scale)

    pub size-fits : (size_shift + p.cpb_size_scale < word_bits) × Word ((get_or p.cpb_size_value_minus1 row 0 + 1) * 2 ^ (size_shift + p.cpb_size_scale))
    size-fits = let scale = (params-scales p ok).1 in (omega (arith, scale), row_size-fits (params-values p ok row h).1 scale)

  pub row-given : (t : coding.Row) (f : ℕ) → given t ≡ params_row_outcome p row → bucket t.rate t.size f ≡ row_bucket p row f
  row-given t f e =
      ap (λ (t : coding.Row). bucket t.rate t.size f)
      (sym (answer-passed (first (params_row_faults p row)) (record { rate = row_rate p row; size = row_size p row }) t (sym e)).1)

  module _ (k : Recording) (f : ℕ) where
    abbrev constant : Judgement
    constant = refuse_if (eqb (get_or p.cbr_flag row 0) 1) refusal.constant row

    abbrev row_faults : List Judgement
    row_faults = verdict_faults k (row_bucket p row f) ++ (constant ∷ [])

    pub row-first : first (row_verdict_faults k p row f) ≡ first (first (params_row_faults p row) ∷ lowest (verdict_faults k (row_bucket p row f)) ∷ constant ∷ [])
    unfolding first
    row-first =
        first-append (params_row_faults p row) (lowest row_faults ∷ [])
        ∙ ap (or_else (first (params_row_faults p row)))
        (last (lowest row_faults) ∙ verdict_faults-after k (row_bucket p row f) (constant ∷ []) (test refusal.constant _ row tt none))
