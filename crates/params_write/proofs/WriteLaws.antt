-- The bits of a record, field by field, as the loops over its fields meet them. Definitions: coding/specs/Fields.antt, coding/specs/Params.antt,
-- params/specs/Steps.antt.
--     field_bits               the bits of a field
--     bits_left, bits-none     the bits of the fields that are left: none behind the last
--     bits-more, length-more   a field's bits stand before those of the fields behind it
--     Here                     a field of a record and its value, as the code has them
--     field-ready              in a record that passes it can be written
-- Assumes nothing.
use Prim.Native.Nat.{ℕ, zero, suc, ◌+◌, ◌*◌, ◌≤◌, ◌<◌}
use native.Mathlib.Nat.{le_of_suc-le-suc, not-suc-le-zero}
use native.Mathlib.Numerals.{add-one}
use native.Mathlib.Omega.{arith}
use mathlib.Core.Path.{◌≡◌, refl, ap, ◌∙◌}
use mathlib.Core.List.{List, [], ◌∷◌, ◌++◌}
use lib.ListN.{length, get_or, drop, length-append, drop_of_length-le}
use lib.Seq.{drop-cons}
use Rattle.rules.specs.Limits.{value_max, length_width}
use Rattle.terms.specs.Answers.{passed}
use Rattle.coding.specs.Codes.{code_bits}
use Rattle.coding.specs.Fields.{Field, cpb_cnt_minus1, fields_of, fields_judged, fields_bits}
use Rattle.coding.specs.Params.{Params, values_of, params_judged}
use Rattle.coding.proofs.FieldsLaws.{keeps-parts, judged-cons, count-passed}
use Rattle.coding.proofs.BackLaws.{values_of-length}
use Rattle.params.specs.Steps.{code_of, width_of, field_of}
use Rattle.params.specs.declared.Field as code
use Rattle.params.proofs.FieldAtLaws.{fields_of-length, field-most, field-width}

-- a value of those that pass is at most its field's largest
judged-most : (fs : List Field) (earlier vs : List ℕ) (d : Field) (f : ℕ) → f < length fs → f < length vs → fields_judged fs earlier vs ≡ passed
    → get_or vs f 0 ≤ (get_or fs f d).most
judged-most [] earlier vs d f h g ok = absurd (not-suc-le-zero h)
judged-most (a ∷ fs) earlier [] d f h g ok = absurd (not-suc-le-zero g)
judged-most (a ∷ fs) earlier (v ∷ vs) d zero h g ok = (keeps-parts a earlier v ((judged-cons a fs earlier v vs).0 ok).0).0
judged-most (a ∷ fs) earlier (v ∷ vs) d (suc f) h g ok =
    judged-most fs (earlier ++ (v ∷ [])) vs d f (le_of_suc-le-suc h) (le_of_suc-le-suc g) ((judged-cons a fs earlier v vs).0 ok).1

-- the bits of field number f
abbrev pub field_bits : Params → (f : ℕ) → List ℕ
field_bits p f = code_bits (get_or (fields_of p.cpb_cnt) f cpb_cnt_minus1).code (get_or (values_of p) f 0)

-- the bits of the fields from number f on
abbrev pub bits_left : Params → (f : ℕ) → List ℕ
bits_left p f = fields_bits (drop f (fields_of p.cpb_cnt)) (drop f (values_of p))

pub bits-none : (p : Params) (f : ℕ) → 3 + 3 * p.cpb_cnt + 4 ≤ f → bits_left p f ≡ []
unfolding fields_bits
bits-none p f h = rw (drop_of_length-le (fields_of p.cpb_cnt) {i = f} (omega (arith, fields_of-length p.cpb_cnt)))

-- this is field number f, and its value
abbrev pub Here : Params → (f : ℕ) → code.Field → (v : ℕ) → Type 0
Here p f field v = (field_of field ≡ get_or (fields_of p.cpb_cnt) f cpb_cnt_minus1) × (v ≡ get_or (values_of p) f 0)

module _ (p : Params) (f : ℕ) (inside : f < 3 + 3 * p.cpb_cnt + 4) where
  in-fields : f < length (fields_of p.cpb_cnt)
  in-fields = omega (arith, fields_of-length p.cpb_cnt)

  in-values : f < length (values_of p)
  in-values = omega (arith, values_of-length p)

  pub bits-more : bits_left p f ≡ field_bits p f ++ bits_left p (f + 1)
  unfolding fields_bits
  bits-more = rw (add-one, drop-cons (fields_of p.cpb_cnt) f cpb_cnt_minus1 in-fields, drop-cons (values_of p) f 0 in-values) refl

  pub length-more : length (bits_left p f) ≡ length (field_bits p f) + length (bits_left p (f + 1))
  length-more = ap length bits-more ∙ length-append (field_bits p f) (bits_left p (f + 1))

  pub field-ready : (field : code.Field) (v : ℕ) → Here p f field v → params_judged p ≡ passed
      → (v ≤ field.most) × (field.most ≤ value_max) × (width_of (code_of field.code) ≤ length_width)
  field-ready field v (is, value) ok =
      let passes = ((count-passed p.cpb_cnt _).0 ok).2 in
      let below = judged-most (fields_of p.cpb_cnt) [] (values_of p) cpb_cnt_minus1 f in-fields in-values passes in
      (rw (← is, ← value) at below, field-most p.cpb_cnt f field inside is, field-width p.cpb_cnt f field inside is)
