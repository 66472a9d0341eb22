-- `params::judge_params` meets its contract: from one turn of the loop to the next, the field passed is judged by the third value back.
-- Assumes nothing.
use Prim.Native.Nat.{ℕ, zero, suc, ◌+◌, ◌-◌, ◌*◌, ◌≤◌, ◌<◌}
use native.Mathlib.Nat.{le_of_lt}
use native.Mathlib.Numerals.{add-one}
use native.Mathlib.Omega.{arith}
use mathlib.Core.Path.{◌≡◌, refl, sym, ap, ◌∙◌}
use mathlib.Core.Bool.{Bool, true, false, cond}
use mathlib.Core.List.{List, []}
use lib.ListN.{length, get_or, take, drop, drop_of_length-le}
use lib.Seq.{get_or-take, drop-cons, take-suc, length-take-le}
use borrow.Author.Rules.{rules}
use Rattle.std.proofs.lemmas.Bool.Decides.{nat_tests}
use Rattle.rules.specs.Limits.{cpb_cnt_max}
use Rattle.rules.specs.Refusals as refusal
use Rattle.terms.specs.Answers.{passed, refused}
use Rattle.terms.specs.Numbers.{outside}
use Rattle.coding.specs.Fields.{Field, cpb_cnt_minus1, fields_of, place_of, keeps, fields_judged}
use Rattle.coding.specs.Params.{Params, values_of, params_judged}
use Rattle.terms.proofs.AnswersLaws.{test-false, test-true}
use Rattle.terms.proofs.NumbersLaws.{outside-false}
use Rattle.params.specs.Outcome.{params_of}
use Rattle.params.specs.Steps.{stand_of, field_of, kept_by}
use Rattle.params.specs.declared.Field as code
use Rattle.params.proofs.FieldAtLaws.{fields_of-length}
use Rattle.params.proofs.ValuesLaws.{At, within-fields, within-values}
use Rattle.params.proofs.judge_params.Invariants.{judged_left}
use Rattle.params.proofs.judge_params.Goals as goal

-- a count out of range is refused, and after one in range the fields are judged
count-refused : (p : Params) → outside 1 cpb_cnt_max p.cpb_cnt ≡ true → params_judged p ≡ refused refusal.field 0
count-refused p e = rw (test-true refusal.field 0 e)

count-judged : (p : Params) → 1 ≤ p.cpb_cnt → p.cpb_cnt ≤ cpb_cnt_max → params_judged p ≡ fields_judged (fields_of p.cpb_cnt) [] (values_of p)
count-judged p some few = rw (test-false refusal.field 0 ((outside-false 1 cpb_cnt_max p.cpb_cnt).1 (some, few)))

judged-more : (fs : List Field) (vs : List ℕ) (d : Field) (f : ℕ) → f < length fs → f < length vs
    → fields_judged (drop f fs) (take f vs) (drop f vs)
    ≡ cond (keeps (get_or fs f d) (take f vs) (get_or vs f 0)) (fields_judged (drop (suc f) fs) (take (suc f) vs) (drop (suc f) vs))
    (refused refusal.field (place_of (get_or fs f d).stand))
unfolding fields_judged
judged-more fs vs d f h g = rw (drop-cons fs f d h, drop-cons vs f 0 g, take-suc vs f 0 g)

-- the third value back is that of the row before; the first field has no rule
kept-same : (n : ℕ) (vs : List ℕ) (f v : ℕ) → f ≤ length vs
    → kept_by (get_or (fields_of n) f cpb_cnt_minus1) (get_or vs (f - 3) 0) v ≡ keeps (get_or (fields_of n) f cpb_cnt_minus1) (take f vs) v
kept-same n vs zero v h = refl
kept-same n vs (suc f) v h = rw (length-take-le (suc f) vs h, get_or-take (suc f) vs (suc f - 3) 0 (omega arith))

-- one turn of the loop, from what its calls answer
judged-next : (p : Params) (f i : ℕ) (field : code.Field) (before v : ℕ) (kept : Bool) → f < 3 + 3 * p.cpb_cnt + 4 → i ≡ f - 3
    → field_of field ≡ get_or (fields_of p.cpb_cnt) f cpb_cnt_minus1 → before ≡ get_or (values_of p) i 0 → v ≡ get_or (values_of p) f 0
    → kept ≡ kept_by (field_of field) before v → judged_left p f ≡ cond kept (judged_left p (f + 1)) (refused refusal.field (place_of (stand_of field.row)))
judged-next p f i field before v kept h back is e value k =
    let at : At p f field v = record { within = h; is = is; value = value } in
    let inside = within-values p f field v at in
    rw (k, e, back, value, add-one)
    (judged-more (fields_of p.cpb_cnt) (values_of p) cpb_cnt_minus1 f (within-fields p f field v at) inside
    ∙ rw (← kept-same p.cpb_cnt (values_of p) f (get_or (values_of p) f 0) (le_of_lt inside), ← is))

judged-none : (p : Params) (f : ℕ) → 3 + 3 * p.cpb_cnt + 4 ≤ f → judged_left p f ≡ passed
unfolding fields_judged
judged-none p f h = rw (drop_of_length-le (fields_of p.cpb_cnt) {i = f} (omega (arith, fields_of-length p.cpb_cnt)))

pub returns-then-n-eq0-clause-judges : goal.returns-then-n-eq0-clause-judges
returns-then-n-eq0-clause-judges c = sym (count-refused (params_of c.args.params) (grind (arith, nat_tests, c.then-n-eq0.either)))

pub loop-f-init : goal.loop-f-init
loop-f-init c = sym (count-judged (params_of c.args.params) (search rules) (search rules))

pub returns-then-not-keeps-clause-judges : goal.returns-then-not-keeps-clause-judges
returns-then-not-keeps-clause-judges c =
    let next = judged-next (params_of c.args.params) _ _ _ _ _ false c.loop-f-test.true c.row_before.ensures c.field_at-field.ensures c.value_at-before.ensures c.value_at.ensures c.if-not-keeps.ensures in
    ap (refused refusal.field) c.place.ensures ∙ sym next ∙ c.loop-f.invariant

pub loop-f-preserved : goal.loop-f-preserved
loop-f-preserved c =
    let next = judged-next (params_of c.args.params) _ _ _ _ _ true c.loop-f-test.true c.row_before.ensures c.field_at-field.ensures c.value_at-before.ensures c.value_at.ensures c.if-not-keeps.ensures in
    sym next ∙ c.loop-f.invariant

pub returns-clause-judges : goal.returns-clause-judges
returns-clause-judges c = sym (judged-none (params_of c.args.params) c.loop-f.f c.loop-f-test.false) ∙ c.loop-f.invariant
