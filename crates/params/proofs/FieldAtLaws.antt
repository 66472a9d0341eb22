-- Which field of a record stands at a place: get_or (fields_of n) f, by the ways in which the code finds it.
-- Definitions: coding/specs/Fields.antt, specs/Steps.antt.
--     fields_of-length   a record of n rows has 3 + 3 n + 4 fields
--     field-row          behind the first three stand the rows, three fields each
--     field-tail         then the four lengths
--     field-most         no field's largest value is over that of ue(v)
--     field-width        no field's code is wider than that of the lengths
-- Assumes nothing.
use Prim.Native.Nat.{ℕ, zero, suc, ◌+◌, ◌-◌, ◌*◌, ◌/◌, ◌%◌, ◌≤◌, ◌<◌}
use native.Mathlib.Nat.{lt_of_not-le, eq-or-lt_of_le, suc-le-suc_iff, not-suc-le-zero}
use native.Mathlib.Decide.{dec_le}
use native.Mathlib.Omega.{arith}
use mathlib.Core.Path.{◌≡◌, refl, sym, ap, subst, ◌∙◌}
use mathlib.Core.Logic.{⊎_elim}
use mathlib.Core.List.{[], ◌∷◌}
use lib.ListN.{length, get_or, length-append, get_or-append}
use lib.Seq.{get_or-append-add}
use lib.Dec.{lit≤}
use Rattle.rules.specs.Limits.{length_width, value_max}
use Rattle.coding.specs.Fields as fields
use Rattle.coding.specs.Fields.{cpb_cnt_minus1, bit_rate_scale, delay_length, row_fields, tail_fields, fields_of}
use Rattle.coding.proofs.FieldsLaws.{row_fields-length}
use Rattle.params.specs.Steps.{code_of, width_of, field_of, row_field}
use Rattle.params.specs.declared.Field.{Field}

pub fields_of-length : (n : ℕ) → length (fields_of n) ≡ 3 + 3 * n + 4
fields_of-length n = rw length-append (omega (arith, row_fields-length n))

-- the field at a place
abbrev pub field_at : (n f : ℕ) → fields.Field
field_at n f = get_or (fields_of n) f cpb_cnt_minus1

row-at : (row column : ℕ) → column < 3
    → get_or (fields.bit_rate_value_minus1 row ∷ fields.cpb_size_value_minus1 row ∷ fields.cbr_flag row ∷ []) column cpb_cnt_minus1 ≡ row_field row column
row-at row zero h = refl
row-at row (suc zero) h = refl
row-at row (suc (suc zero)) h = refl
row-at row (suc (suc (suc c))) h = absurd (omega arith)

row_fields-at : (n row column : ℕ) → row < n → column < 3 → get_or (row_fields n) (3 * row + column) cpb_cnt_minus1 ≡ row_field row column
unfolding row_fields
row_fields-at zero row column h g = absurd (not-suc-le-zero h)
row_fields-at (suc n) row column h g =
    ⊎_elim
    (λ e.
    let at : 3 * row + column ≡ length (row_fields n) + column = omega (arith, row_fields-length n) in
    rw at (get_or-append-add (row_fields n) _ column cpb_cnt_minus1) ∙ row-at n column g ∙ ap (λ r. row_field r column) (sym e))
    (λ l. get_or-append (row_fields n) _ cpb_cnt_minus1 (3 * row + column) (omega (arith, row_fields-length n)) ∙ row_fields-at n row column l g)
    (eq-or-lt_of_le (suc-le-suc_iff.0 h))

pub field-row : (n f : ℕ) → 3 ≤ f → f < 3 + 3 * n → field_at n f ≡ row_field ((f - 3) / 3) ((f - 3) % 3)
field-row n f h g =
    let k : ℕ = 3 * ((f - 3) / 3) + (f - 3) % 3 in
    let at : f ≡ suc (suc (suc k)) = omega arith in
    ap (field_at n) at ∙ get_or-append (row_fields n) tail_fields cpb_cnt_minus1 k (omega (arith, row_fields-length n))
    ∙ row_fields-at n ((f - 3) / 3) ((f - 3) % 3) (omega arith) (omega arith)

tail-at : (i : ℕ) → i < 4 → get_or tail_fields i cpb_cnt_minus1 ≡ delay_length
tail-at zero h = refl
tail-at (suc zero) h = refl
tail-at (suc (suc zero)) h = refl
tail-at (suc (suc (suc zero))) h = refl
tail-at (suc (suc (suc (suc i)))) h = absurd (omega arith)

pub field-tail : (n f : ℕ) → 3 + 3 * n ≤ f → f < 3 + 3 * n + 4 → field_at n f ≡ delay_length
field-tail n f h g =
    let i : ℕ = f - (3 + 3 * n) in
    let at : f ≡ suc (suc (suc (length (row_fields n) + i))) = omega (arith, row_fields-length n) in
    ap (field_at n) at ∙ get_or-append-add (row_fields n) tail_fields i cpb_cnt_minus1 ∙ tail-at i (omega arith)

-- what is true of each kind of field is true of the field at a place
fields-each : (P : fields.Field → Type 0) → P cpb_cnt_minus1 → P bit_rate_scale → ((row column : ℕ) → P (row_field row column)) → P delay_length
    → (n f : ℕ) → f < 3 + 3 * n + 4 → P (field_at n f)
fields-each P count scale rows tail n zero h = count
fields-each P count scale rows tail n (suc zero) h = scale
fields-each P count scale rows tail n (suc (suc zero)) h = scale
fields-each P count scale rows tail n (suc (suc (suc f))) h =
    elim (dec_le (3 + 3 * n) (suc (suc (suc f)))) [
      | yes g ↦ subst P (sym (field-tail n _ g h)) tail
      | no g ↦ subst P (sym (field-row n _ (omega arith) (lt_of_not-le g))) (rows ((suc (suc (suc f)) - 3) / 3) ((suc (suc (suc f)) - 3) % 3))
    ]

row-width : (row column : ℕ) → width_of (row_field row column).code ≤ length_width
row-width row zero = lit≤ tt
row-width row (suc zero) = lit≤ tt
row-width row (suc (suc c)) = lit≤ tt

pub field-width : (n f : ℕ) (r : Field) → f < 3 + 3 * n + 4 → field_of r ≡ field_at n f → width_of (code_of r.code) ≤ length_width
field-width n f r h e =
    subst (λ g. width_of g.code ≤ length_width) (sym e) (fields-each (λ g. width_of g.code ≤ length_width) (lit≤ tt) (lit≤ tt) row-width (lit≤ tt) n f h)

row-most : (row column : ℕ) → (row_field row column).most ≤ value_max
row-most row zero = lit≤ tt
row-most row (suc zero) = lit≤ tt
row-most row (suc (suc c)) = lit≤ tt

pub field-most : (n f : ℕ) (r : Field) → f < 3 + 3 * n + 4 → field_of r ≡ field_at n f → r.most ≤ value_max
field-most n f r h e = subst (λ g. g.most ≤ value_max) (sym e) (fields-each (λ g. g.most ≤ value_max) (lit≤ tt) (lit≤ tt) row-most (lit≤ tt) n f h)
