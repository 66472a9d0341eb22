-- `params_read::read_fields` meets its contract. The loop's invariant: reading goes on from field `f` with the values so far to what was to be read.
-- Assumes nothing.
use Prim.Native.Nat.{ℕ, suc, ◌+◌, ◌-◌, ◌*◌, ◌≤◌, ◌<◌}
use native.Mathlib.Numerals.{add-one}
use native.Mathlib.Omega.{arith}
use mathlib.Core.Path.{◌≡◌, refl, sym, ap, ◌∙◌}
use mathlib.Core.List.{List, [], ◌∷◌, ◌++◌}
use lib.ListN.{length, get_or, take, drop, set, length-set, drop_of_length-le}
use lib.Seq.{length-take-le, take-suc-set, drop-cons, get_or-take}
use borrow.Author.Rules.{rules}
use Rattle.std.specs.Prelude.{Result, Ok, Err}
use Rattle.std.specs.Result.{IsErrAnd}
use Rattle.coding.specs.Codes.{Bits}
use Rattle.coding.specs.Fields as fields
use Rattle.coding.specs.Fields.{cpb_cnt_minus1, fields_after_count, fields_of, row_before, FieldsRead, read_fields}
use Rattle.bits_read.specs.declared.Code.{Code}
use Rattle.params.specs.declared.Field.{Field}
use Rattle.params.specs.Steps.{field_of}
use Rattle.params.proofs.FieldAtLaws.{field_at, fields_of-length, field-width}
use Rattle.params_read.specs.declared.FieldFault.{FieldFault}
use Rattle.params_read.specs.Outcome.{fault_of, fields_read_of}
use Rattle.params_read.specs.Steps.{field_step}
use Rattle.params_read.proofs.ReadLaws.{on_step, read_fields-step}
use Rattle.params_read.proofs.read_fields.Invariants.{Passed}
use Rattle.params_read.proofs.read_fields.Goals as goal

-- what follows field f
abbrev after : Bits → (n : ℕ) (values : List ℕ) (f : ℕ) → (v next : ℕ) → FieldsRead
after x n values f v next = read_fields x (drop (suc f) (fields_of n)) (take f values ++ (v ∷ [])) next

module _ (x : Bits) (start n : ℕ) (values₀ values : List ℕ) (p f : ℕ) (h : Passed x start n values₀ values p f) (room : 3 + 3 * n + 4 ≤ length values₀) where
  -- one turn: field f was read, after the value at b
  module _ (inside : f < 3 + 3 * n + 4) (step : Result Code FieldFault) where
    turn : (field : Field) (b : ℕ) → 1 ≤ f → field_of field ≡ field_at n f → b ≡ f - 3 → step ≡ field_step x field (get_or values b 0) p
        → on_step step (after x n values f) ≡ read_fields x (fields_after_count n) ((n - 1) ∷ []) start
    turn field b some same back read =
        let len : length (take f values) ≡ f = length-take-le f values (omega (arith, h.size)) in
        let before : row_before (take f values) ≡ get_or values b 0 = rw (len, back) (get_or-take f values (f - 3) 0 (omega arith)) in
        rw (read, ← before)
        (sym (read_fields-step x field (drop (suc f) (fields_of n)) (take f values) p)
        ∙ ap (λ gs. read_fields x gs (take f values) p) (rw same (sym (drop-cons (fields_of n) f cpb_cnt_minus1 (rw fields_of-length inside))))
        ∙ h.is)

    module _ (on : on_step step (after x n values f) ≡ read_fields x (fields_after_count n) ((n - 1) ∷ []) start) where
      breaks : (out : Result ℕ FieldFault) (e : FieldFault) (all : List ℕ) → step ≡ Err e → IsErrAnd out (λ y. y ≡ e)
          → fields_read_of out all ≡ read_fields x (fields_after_count n) ((n - 1) ∷ []) start
      breaks (Err y) e all was same = ap fault_of same ∙ ap (λ s. on_step s (after x n values f)) (sym was) ∙ on
      breaks (Ok next) e all was same = absurd same

      next : (code : Code) → step ≡ Ok code → Passed x start n values₀ (set values f code.value) code.next (f + 1)
      next code was =
          record {
            size = simp length-set h.size;
            is = rw (add-one, take-suc-set values f code.value (omega (arith, h.size))) (ap (λ s. on_step s (after x n values f)) (sym was) ∙ on);
          }

  done : 3 + 3 * n + 4 ≤ f → f ≤ 3 + 3 * n + 4 → fields.done (take (3 + 3 * n + 4) values) p ≡ read_fields x (fields_after_count n) ((n - 1) ∷ []) start
  done g within =
      let all : 3 + 3 * n + 4 ≡ f = omega arith in
      let none : drop f (fields_of n) ≡ [] = drop_of_length-le (fields_of n) {i = f} (rw fields_of-length g) in
      rw all (sym (ap (λ gs. read_fields x gs (take f values) p) none ∙ unfold read_fields in refl)) ∙ h.is

pub read_field-requires : goal.read_field-requires
read_field-requires c = field-width _ _ c.field_at.result c.loop-f-test.true c.field_at.ensures

pub returns-in_err-code : goal.returns-in_err-code
returns-in_err-code c =
    let on = turn _ _ _ _ _ _ _ c.loop-f.invariant c.requires.2 c.loop-f-test.true _ _ _ c.loop-f.auto.f c.field_at.ensures c.row_before.ensures c.read_field.ensures in
    breaks _ _ _ _ _ _ _ c.loop-f.invariant c.requires.2 c.loop-f-test.true _ on _ _ _ c.in_err-code.was c.from_residual.ensures.1

pub loop-f-preserved : goal.loop-f-preserved
loop-f-preserved c =
    let on = turn _ _ _ _ _ _ _ c.loop-f.invariant c.requires.2 c.loop-f-test.true _ _ _ c.loop-f.auto.f c.field_at.ensures c.row_before.ensures c.read_field.ensures in
    next _ _ _ _ _ _ _ c.loop-f.invariant c.requires.2 c.loop-f-test.true _ on _ c.in_ok-code.was

pub returns : goal.returns
returns c = done _ _ _ _ _ _ _ c.loop-f.invariant c.requires.2 c.loop-f-test.false (search rules)
