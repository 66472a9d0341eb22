-- What the promise on a record read as a struct allows is one struct.
--     read_answer-one    position and record are the whole struct
-- Assumes nothing.
use mathlib.Core.Path.{◌≡◌, sym, ◌∙◌}
use Rattle.coding.specs.Params.{ParamsRead}
use Rattle.params.proofs.Unique.{params_of-one}
use Rattle.answers.specs.Records.{read_answer}
use Rattle.answers.specs.declared.records.PlannerParamsRead.{PlannerParamsRead}

pub read_answer-one : (t : ParamsRead) (v w : PlannerParamsRead) → read_answer v t → read_answer w t → v ≡ w
read_answer-one t v w p q =
    let position = p.0 ∙ sym q.0 in
    let same = params_of-one v.params w.params (p.1 ∙ sym q.1) in
    λ i. record { kind = (position i).kind; number = (position i).number; place = (position i).place; next = (position i).next; params = same i }
