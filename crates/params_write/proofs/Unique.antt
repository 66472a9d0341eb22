-- Two outcomes that a promise allows are equal, the bytes afterwards included. Promises: specs/Promises.antt.
--     length-unique
--     write-unique
-- Assumes nothing.
use Prim.Native.Nat.{ℕ}
use mathlib.Core.Path.{◌≡◌, sym, ap, ◌∙◌}
use mathlib.Core.List.{List}
use Rattle.std.specs.Prelude.{Result}
use Rattle.coding.specs.Params as params
use Rattle.judgement.specs.declared.Refusal.{Refusal}
use Rattle.judgement.proofs.Unique.{answer_by-one}
use Rattle.params.specs.declared.Params.{Params}
use Rattle.params_write.specs.Outcome.{length_of}
use Rattle.params_write.specs.Promises.{LengthPromise, WritePromise}

length_of-one : (v w : Result ℕ Refusal) → length_of v ≡ length_of w → v ≡ w
length_of-one v w e = answer_by-one (λ n. n) (λ x y same. same) v w e

pub length-unique : (p : Params) (v w : Result ℕ Refusal) → LengthPromise p v → LengthPromise p w → v ≡ w
length-unique p v w a b = length_of-one v w (a ∙ sym b)

pub write-unique : (p : Params) (bytes : List ℕ) (start : ℕ) (v w : Result ℕ Refusal) (after after' : List ℕ)
    → WritePromise p bytes start v after → WritePromise p bytes start w after' → (v ≡ w) × (after ≡ after')
write-unique p bytes start v w after after' a b =
    let same = a ∙ sym b in
    (length_of-one v w (ap (λ (o : params.ParamsWritten). o.answer) same), ap (λ (o : params.ParamsWritten). o.bytes) same)
