-- Two answers that the promise allows are equal, the record included. Promise: specs/Promises.antt.
--     params_read_of-one    no two answers say the same
--     read-unique
-- Assumes nothing.
use Prim.Native.Nat.{ℕ}
use native.Mathlib.Omega.{arith}
use mathlib.Core.Path.{◌≡◌, sym, ap, ap₂, ◌∙◌}
use mathlib.Core.List.{List}
use Rattle.std.specs.Prelude.{Result, Ok, Err}
use Rattle.coding.specs.Params as params
use Rattle.judgement.specs.declared.Refusal.{Refusal}
use Rattle.judgement.proofs.Unique.{refusal-one}
use Rattle.params.specs.declared.Params.{Params}
use Rattle.params.proofs.Unique.{params_of-one}
use Rattle.params_read.specs.Outcome.{params_read_of}
use Rattle.params_read.specs.Promises.{ReadPromise}
use Rattle.params_read.specs.declared.ParamsRead.{ParamsRead}

read_of-one : (v w : Result ParamsRead Refusal) → (params_read_of v).answer ≡ (params_read_of w).answer → (params_read_of v).params ≡ (params_read_of w).params
    → v ≡ w
read_of-one (Ok r) (Ok s) e p = ap₂ (λ (n : ℕ) (q : Params). Ok (record { next = n; params = q })) (cc) (params_of-one r.params s.params p)
read_of-one (Ok r) (Err d) e p = let z : ◌≡◌ {A = ℕ} 0 1 = cc in absurd (omega arith)
read_of-one (Err d) (Ok s) e p = let z : ◌≡◌ {A = ℕ} 0 1 = cc in absurd (omega arith)
read_of-one (Err d) (Err b) e p = ap Err (refusal-one d b (cc) (cc))

params_read_of-one : (v w : Result ParamsRead Refusal) → params_read_of v ≡ params_read_of w → v ≡ w
params_read_of-one v w same = read_of-one v w (ap (λ (o : params.ParamsRead). o.answer) same) (ap (λ (o : params.ParamsRead). o.params) same)

pub read-unique : (bytes : List ℕ) (start : ℕ) (v w : Result ParamsRead Refusal) → ReadPromise bytes start v → ReadPromise bytes start w → v ≡ w
read-unique bytes start v w a b = params_read_of-one v w (a ∙ sym b)
