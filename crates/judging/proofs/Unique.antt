-- Two answers that the promise on judging allows are equal. Promise: specs/Promises.antt.
--     judge-unique
-- Assumes nothing.
use mathlib.Core.Path.{◌≡◌, sym, ◌∙◌}
use Rattle.std.specs.Prelude.{Result}
use Rattle.model.specs.Recording.{Recording}
use Rattle.judgement.specs.declared.Refusal.{Refusal}
use Rattle.judgement.proofs.Unique.{judgement_of-one}
use Rattle.judging.specs.Promises.{JudgePromise}

pub judge-unique : (k : Recording) (v w : Result (Unit {0}) Refusal) → JudgePromise k v → JudgePromise k w → v ≡ w
judge-unique k v w p q = judgement_of-one v w (p ∙ sym q)
