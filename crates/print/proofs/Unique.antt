-- Two outcomes that the promise allows are equal, the bytes afterwards included. Promise: specs/Promises.antt.
--     output_of-one, printed_of-one    no two answers say the same
--     print-unique
-- Assumes nothing.
use Prim.Native.Nat.{ℕ}
use mathlib.Core.Path.{◌≡◌, sym, ap, ◌∙◌}
use mathlib.Core.List.{List}
use Rattle.std.specs.Prelude.{Result}
use Rattle.layout.specs.Sheet as sheet
use Rattle.judgement.specs.declared.Refusal.{Refusal}
use Rattle.judgement.proofs.Unique.{answer_by-one, judgement_of-one}
use Rattle.print.specs.Outcome.{output_of, printed_of}
use Rattle.print.specs.Promises.{PrintPromise}
use Rattle.print.specs.declared.Output.{Output}

output_of-one : (v w : Output) → output_of v ≡ output_of w → v ≡ w
output_of-one v w e =
    let judged = judgement_of-one v.judged w.judged (ap (λ (o : sheet.Output). o.judged) e) in
    λ i. record { end = (e i).end; judged = judged i }

printed_of-one : (v w : Result Output Refusal) → printed_of v ≡ printed_of w → v ≡ w
printed_of-one v w e = answer_by-one output_of output_of-one v w e

pub print-unique : (bytes l : List ℕ) (v w : Result Output Refusal) (t t' : List ℕ) → PrintPromise bytes l v t → PrintPromise bytes l w t' → (v ≡ w) × (t ≡ t')
print-unique bytes l v w t t' a b =
    let same = a ∙ sym b in
    (printed_of-one v w (ap (λ (o : sheet.Printed). o.answer) same), ap (λ (o : sheet.Printed). o.text) same)
