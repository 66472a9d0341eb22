-- Two outcomes that the promise allows are equal, the lists afterwards included. Promise: specs/Promises.antt.
--     head_of-one, opened_of-one    no two answers say the same
--     open-unique
-- Assumes nothing.
use Prim.Native.Nat.{ℕ}
use mathlib.Core.Path.{◌≡◌, sym, ap, ◌∙◌}
use mathlib.Core.List.{List}
use Rattle.std.specs.Prelude.{Result}
use Rattle.layout.specs.Sheet as sheet
use Rattle.judgement.specs.declared.Refusal.{Refusal}
use Rattle.judgement.proofs.Unique.{answer_by-one}
use Rattle.sheet.specs.Outcome.{head_of, opened_of}
use Rattle.sheet.specs.Promises.{OpenPromise}
use Rattle.sheet.specs.declared.Head.{Head}

head_of-one : (v w : Head) → head_of v ≡ head_of w → v ≡ w
head_of-one v w e = ap (λ (h : sheet.Head). record { pictures = h.pictures; rates = h.rates; ts = h.ts; nu = h.nu }) e

opened_of-one : (v w : Result Head Refusal) → opened_of v ≡ opened_of w → v ≡ w
opened_of-one v w e = answer_by-one head_of head_of-one v w e

pub open-unique : (bytes l m n : List ℕ) (v w : Result Head Refusal) (s t r s' t' r' : List ℕ)
    → OpenPromise bytes l m n v s t r → OpenPromise bytes l m n w s' t' r' → (v ≡ w) × (s ≡ s') × (t ≡ t') × (r ≡ r')
open-unique bytes l m n v w s t r s' t' r' a b =
    let same = a ∙ sym b in (
      opened_of-one v w (ap (λ (o : sheet.Opened). o.answer) same),
      ap (λ (o : sheet.Opened). o.sizes) same,
      ap (λ (o : sheet.Opened). o.ticks) same,
      ap (λ (o : sheet.Opened). o.rates) same,
    )
