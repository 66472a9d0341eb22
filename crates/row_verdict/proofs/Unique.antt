-- Two answers that a promise allows are equal. Promises: specs/Promises.antt.
--     params_row_of-one    no two answers on a row say the same
--     params-row-unique
--     row-unique
-- Assumes nothing.
use Prim.Native.Nat.{ℕ}
use mathlib.Core.Path.{◌≡◌, sym, ap, ◌∙◌}
use Rattle.std.specs.Prelude.{Result}
use Rattle.model.specs.Recording.{Recording}
use Rattle.coding.specs.Params as params
use Rattle.judgement.specs.declared.Refusal.{Refusal}
use Rattle.judgement.proofs.Unique.{answer_by-one}
use Rattle.params.specs.declared.Params.{Params}
use Rattle.schedule.specs.declared.Verdict.{Verdict}
use Rattle.schedule.proofs.Unique.{answer_of-one}
use Rattle.row_verdict.specs.Outcome.{row_of, params_row_of}
use Rattle.row_verdict.specs.Promises.{ParamsRowPromise, RowPromise}
use Rattle.row_verdict.specs.declared.Row.{Row}

row_of-one : (v w : Row) → row_of v ≡ row_of w → v ≡ w
row_of-one v w e = ap (λ (t : params.Row). record { rate = t.rate; size = t.size }) e

params_row_of-one : (v w : Result Row Refusal) → params_row_of v ≡ params_row_of w → v ≡ w
params_row_of-one v w e = answer_by-one row_of row_of-one v w e

pub params-row-unique : (p : Params) (row : ℕ) (v w : Result Row Refusal) → ParamsRowPromise p row v → ParamsRowPromise p row w → v ≡ w
params-row-unique p row v w a b = params_row_of-one v w (a ∙ sym b)

pub row-unique : (k : Recording) (p : Params) (row fullness : ℕ) (v w : Result Verdict Refusal) → RowPromise k p row fullness v → RowPromise k p row fullness w → v ≡ w
row-unique k p row fullness v w a b = answer_of-one v w (a ∙ sym b)
