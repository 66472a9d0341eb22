-- Where the values of a record stand, and that they make the record back. Definitions: specs/Params.antt, specs/Undoing.antt.
--     values_of-length        a record of n rows has 3 + 3 n + 4 values
--     value-row, value-tail   those of a row behind the first three, and the four behind the rows
--     record-back             the record of a record's values: the same count, rows and other fields, and zeros beyond the rows
-- Assumes nothing.
use Prim.Native.Nat.{ℕ, zero, suc, ◌+◌, ◌-◌, ◌*◌, ◌≤◌, ◌<◌}
use native.Mathlib.Nat.{le_of_suc-le-suc, lt_of_not-le, not-suc-le-zero, eq-or-lt_of_le}
use native.Mathlib.Decide.{dec_le}
use native.Mathlib.Omega.{arith}
use mathlib.Core.Path.{◌≡◌, refl, sym, ap, ◌∙◌, subst}
use mathlib.Core.Bool.{cond}
use mathlib.Core.Logic.{⊎_elim}
use mathlib.Core.List.{List, ◌++◌}
use lib.ListN.{length, get_or, length-append, get_or-append, get_or-eq_default}
use lib.Seq.{get_or-append-add, get_or-drop}
use lib.Dec.{ltb}
use borrow.Author.Tests.{le-ltb}
use Rattle.rules.specs.Limits.{cpb_cnt_max}
use Rattle.coding.specs.Params.{Params, row_at, tail_of, row_values, values_of, rows_of, params_from}
use Rattle.coding.specs.Undoing.{RowsBack, RecordBack}
use Rattle.terms.proofs.NumbersLaws.{list_of-length, list_of-at}
use Rattle.coding.proofs.FieldsLaws.{row_fields-length, row_values-length, rows_of-at}

rows-length : (p : Params) (n : ℕ) → length (row_values p n) ≡ 3 * n
rows-length p n = row_values-length p n ∙ row_fields-length n

pub values_of-length : (p : Params) → length (values_of p) ≡ 3 + 3 * p.cpb_cnt + 4
values_of-length p = simp length-append (omega (arith, rows-length p p.cpb_cnt))

last-row : (p : Params) (n c : ℕ) → get_or (row_values p n ++ row_at p n) (3 * n + c) 0 ≡ get_or (row_at p n) c 0
last-row p n c =
    let seam : 3 * n + c ≡ length (row_values p n) + c = omega (arith, rows-length p n) in
    ap (λ j. get_or (row_values p n ++ row_at p n) j 0) seam ∙ get_or-append-add (row_values p n) (row_at p n) c 0

row_values-at : (p : Params) (n i c : ℕ) → i < n → c < 3 → get_or (row_values p n) (3 * i + c) 0 ≡ get_or (row_at p i) c 0
unfolding row_values
row_values-at p zero i c h g = absurd (not-suc-le-zero h)
row_values-at p (suc n) i c h g =
    ⊎_elim (λ e. subst (λ j. get_or (row_values p n ++ row_at p n) (3 * j + c) 0 ≡ get_or (row_at p j) c 0) (sym e) (last-row p n c))
    (λ l. get_or-append (row_values p n) (row_at p n) 0 (3 * i + c) (omega (arith, rows-length p n)) ∙ row_values-at p n i c l g)
    (eq-or-lt_of_le (le_of_suc-le-suc h))

behind-front : (p : Params) (f i : ℕ) → f ≡ 3 + i → get_or (values_of p) f 0 ≡ get_or (row_values p p.cpb_cnt ++ tail_of p) i 0
behind-front p f i h = ap (λ k. get_or (values_of p) k 0) h ∙ sym (get_or-drop 3 (values_of p) i 0)

pub value-row : (p : Params) (f i c : ℕ) → i < p.cpb_cnt → c < 3 → f ≡ 3 + 3 * i + c → get_or (values_of p) f 0 ≡ get_or (row_at p i) c 0
value-row p f i c h g at =
    behind-front p f (3 * i + c) (omega arith)
    ∙ get_or-append (row_values p p.cpb_cnt) (tail_of p) 0 (3 * i + c) (omega (arith, rows-length p p.cpb_cnt))
    ∙ row_values-at p p.cpb_cnt i c h g

pub value-tail : (p : Params) (f k : ℕ) → f ≡ 3 + 3 * p.cpb_cnt + k → get_or (values_of p) f 0 ≡ get_or (tail_of p) k 0
value-tail p f k at =
    let rows = row_values p p.cpb_cnt in
    behind-front p f (length rows + k) (omega (arith, rows-length p p.cpb_cnt)) ∙ get_or-append-add rows (tail_of p) k 0

rows_of-beyond : (values : List ℕ) (n c i : ℕ) → n ≤ i → get_or (rows_of values n c) i 0 ≡ 0
rows_of-beyond values n c i h =
    elim (dec_le cpb_cnt_max i) [
      | yes g ↦ get_or-eq_default (rows_of values n c) 0 (rw list_of-length g)
      | no g ↦ list_of-at (λ i. cond (ltb i n) (get_or values (3 + 3 * i + c) 0) 0) cpb_cnt_max 0 (lt_of_not-le g) ∙ rw (le-ltb i n h)
    ]

-- field number c of the rows, which l holds
rows-back : (p : Params) (c : ℕ) (l : List ℕ) → p.cpb_cnt ≤ cpb_cnt_max → c < 3 → ((i : ℕ) → get_or (row_at p i) c 0 ≡ get_or l i 0)
    → RowsBack p.cpb_cnt l (rows_of (values_of p) p.cpb_cnt c)
rows-back p c l few column same =
    record {
      rows = λ i h. rows_of-at (values_of p) p.cpb_cnt c i few h ∙ value-row p (3 + 3 * i + c) i c h column refl ∙ same i;
      beyond = λ i h. rows_of-beyond (values_of p) p.cpb_cnt c i (omega arith);
      room = list_of-length _ cpb_cnt_max;
    }

pub record-back : (params : Params) → 1 ≤ params.cpb_cnt → params.cpb_cnt ≤ cpb_cnt_max → RecordBack params (params_from (values_of params))
record-back params some few =
    let n = params.cpb_cnt in
    let count : n - 1 + 1 ≡ n = omega arith in
    let first = value-tail params (3 + 3 * n) 0 (omega arith) in
    let second = value-tail params (3 + 3 * n + 1) 1 refl in
    let third = value-tail params (3 + 3 * n + 2) 2 refl in
    let fourth = value-tail params (3 + 3 * n + 3) 3 refl in
    rw count
    (record {
      cpb_cnt = refl;
      bit_rate_scale = refl;
      cpb_size_scale = refl;
      bit_rate_value_minus1 = rows-back params _ _ few (omega arith) (λ i. refl);
      cpb_size_value_minus1 = rows-back params _ _ few (omega arith) (λ i. refl);
      cbr_flag = rows-back params _ _ few (omega arith) (λ i. refl);
      initial_cpb_removal_delay_length_minus1 = cc;
      cpb_removal_delay_length_minus1 = cc;
      dpb_output_delay_length_minus1 = cc;
      time_offset_length = cc;
    })
