-- What is true of a list of fields read and written, and of the rows of an accepted record. Definitions: specs/Fields.antt, specs/Params.antt.
--     keeps-parts                            a value that is kept keeps its range and its rule
--     judged-cons                            values pass where the first is kept and those behind it pass
--     count-passed                           a record passes where its count of rows is in range and its values pass
--     row_fields-length, row_values-length   n rows have 3 x n fields, and as many values
--     fields-back                            values that pass, written, are read again, and the next position is behind them
--     fields-sound                           values read pass, stand there as written, and the next position is behind them
--     params-rates                           in an accepted record rates rise, over all pairs of rows
--     params-sizes                           and sizes do not
--     params-scales                          both scales keep their width
--     params-values                          and the rate and the size value of a row are at most the largest
--     params-back                            an accepted record written is read again, field by field
--     rows_of-at                             a field of the rows made of some values, in a row
--     params-sound                           a record read is accepted, and its bits stand there as a writer would write them
--     ShortOr, params-cut                    in bits that end earlier a record reads the same, or the bits end inside one of its fields
-- Assumes nothing.
use Prim.Native.Nat.{ℕ, zero, suc, ◌+◌, ◌-◌, ◌*◌, ◌^◌, ◌≤◌, ◌<◌, zero-le, suc-le-suc}
use native.Mathlib.Nat.{add-zero, add_assoc, mul-suc, le_refl, le_trans, lt_trans, eq-or-lt_of_le, not-suc-le-zero}
use native.Mathlib.Decide.{le_ind}
use native.Mathlib.Numerals.{add-one}
use native.Mathlib.Omega.{arith}
use mathlib.Core.Path.{◌≡◌, refl, sym, ap, ◌∙◌}
use mathlib.Core.Bool.{Bool, true, false, cond, and-eq-true_iff}
use mathlib.Core.Logic.{◌↔◌, ◌⊎◌, inl, inr, ⊎_elim}
use mathlib.Core.List.{List, [], ◌∷◌, ◌++◌, append-nil, append_assoc}
use lib.ListN.{length, get_or, length-append}
use lib.Seq.{get_or_at}
use lib.Dec.{ltb, lit≤}
use borrow.Author.Tests.{leb-true, ltb-true, lt-ltb}
use Rattle.rules.specs.Limits.{cpb_cnt_max, value_max, scale_width}
use Rattle.rules.specs.Refusals as refusal
use Rattle.terms.specs.Numbers.{list_of, outside}
use Rattle.terms.specs.Answers.{Judgement, passed, refuse_if, or_else}
use Rattle.coding.specs.Codes.{Bits, ue, Read, got, ended, broken, read_code, code_bits, CodeFits, Stands}
use Rattle.coding.specs.Fields.{Field, cpb_cnt_minus1, bit_rate_scale, cpb_size_scale, bit_rate_value_minus1, cpb_size_value_minus1, cbr_flag, delay_length, row_fields, tail_fields, fields_after_count, fields_of, row_before, keeps_rule, keeps, Stand, FieldsRead, done, short, at_fault, read_on, read_fields, fields_judged, fields_bits}
use Rattle.coding.specs.Params.{Params, front_of, row_at, row_values, values_of, rows_of, params_with, params_from, params_judged, params_bits, params_reading}
use Rattle.terms.proofs.NumbersLaws.{neighbours-all, list_of-at, list_of-append, list_of-get_or, append-each, outside-false}
use Rattle.terms.proofs.AnswersLaws.{refused-not-passed, refuse_if-passed, or_else-passed}
use Rattle.coding.proofs.CodesLaws.{Binary, AllBits, stands-append, code-back, code-sound, code_bits-all, Longer, code-cut}

-- a field whose largest value its code can write
abbrev pub Writable : Field → Type 0
Writable f = (v : ℕ) → v ≤ f.most → CodeFits f.code v

pub data AllWritable : List Field → Type 0 where
  none : AllWritable []
  more : {f : Field} {fs : List Field} → Writable f → AllWritable fs → AllWritable (f ∷ fs)

writable-append : {fs gs : List Field} → AllWritable fs → AllWritable gs → AllWritable (fs ++ gs)
writable-append none ws = ws
writable-append (more v vs) ws = more v (writable-append vs ws)

row_fields-writable : (n : ℕ) → AllWritable (row_fields n)
unfolding row_fields
row_fields-writable zero = none
row_fields-writable (suc n) =
    writable-append (row_fields-writable n) (more (λ v h. h) (more (λ v h. h) (more (λ v h. suc-le-suc h) none)))

pub fields_of-writable : (rows : ℕ) → AllWritable (fields_of rows)
fields_of-writable rows =
    let scale : Writable bit_rate_scale = λ v h. suc-le-suc h in
    let delay : Writable delay_length = λ v h. suc-le-suc h in
    more (λ v h. le_trans h (lit≤ tt))
    (more scale (more scale (writable-append (row_fields-writable rows) (more delay (more delay (more delay (more delay none)))))))

pub fields_bits-all : (fs : List Field) (values : List ℕ) → AllBits (fields_bits fs values)
unfolding fields_bits
fields_bits-all [] values i h = absurd (not-suc-le-zero h)
fields_bits-all (f ∷ fs) [] i h = absurd (not-suc-le-zero h)
fields_bits-all (f ∷ fs) (v ∷ values) i h =
    append-each (λ i b. b < 2) (code_bits f.code v) (fields_bits fs values) (code_bits-all f.code v) (fields_bits-all fs values) i h

pub keeps-parts : (f : Field) (earlier : List ℕ) (v : ℕ) → keeps f earlier v ≡ true
    → (v ≤ f.most) × (keeps_rule f.rule (row_before earlier) v ≡ true)
keeps-parts f earlier v e = let (range, rule) = (and-eq-true_iff _ _).0 e in (leb-true v f.most range, rule)

at_fault-not-done : {first next : ℕ} {stand : Stand} {all : List ℕ} → at_fault first stand ≡ done all next → ⊥
at_fault-not-done e = let z : ◌≡◌ {A = ℕ} 0 1 = cc in omega arith

-- a choice that cannot be its second arm is its first
cond-true : {A : Type 0} (b : Bool) {x y z : A} → (y ≡ z → ⊥) → cond b x y ≡ z → (b ≡ true) × (x ≡ z)
cond-true true not-y e = (refl, e)
cond-true false not-y e = absurd (not-y e)

-- values pass where the first is kept and those behind it pass
pub judged-cons : (f : Field) (fs : List Field) (earlier : List ℕ) (v : ℕ) (values : List ℕ)
    → (fields_judged (f ∷ fs) earlier (v ∷ values) ≡ passed)
    ↔ ((keeps f earlier v ≡ true) × (fields_judged fs (earlier ++ (v ∷ [])) values ≡ passed))
unfolding fields_judged
judged-cons f fs earlier v values = (cond-true (keeps f earlier v) refused-not-passed, λ both. rw both.0 both.1)

pub fields-back : (x : Bits) (fs : List Field) (earlier values : List ℕ) (p : ℕ) → AllWritable fs → length values ≡ length fs
    → fields_judged fs earlier values ≡ passed → Stands x p (fields_bits fs values)
    → read_fields x fs earlier p ≡ done (earlier ++ values) (p + length (fields_bits fs values))
unfolding read_fields fields_bits
fields-back x [] earlier [] p none len ok st = rw (append-nil, add-zero)
fields-back x [] earlier (v ∷ values) p none len ok st = absurd (omega arith)
fields-back x (f ∷ fs) earlier [] p (more w ws) len ok st = absurd (omega arith)
fields-back x (f ∷ fs) earlier (v ∷ values) p (more w ws) len ok st =
    let (kept, rest) = (judged-cons f fs earlier v values).0 ok in
    let (here, behind) = (stands-append x p (code_bits f.code v) (fields_bits fs values)).0 st in
    rw (code-back x f.code p v (w v (keeps-parts f earlier v kept).0) here, kept)
    (fields-back x fs (earlier ++ (v ∷ [])) values (p + length (code_bits f.code v)) ws (omega arith) rest behind
    ∙ rw (append_assoc, length-append, add_assoc))

-- what a reading of fields that ends well says of the values that it added
pub record ValuesSound (x : Bits) (fs : List Field) (earlier : List ℕ) (p : ℕ) (all : List ℕ) (next : ℕ) : Type 0 where
  pub values : List ℕ
  pub split : all ≡ earlier ++ values
  pub count : length values ≡ length fs
  pub judged : fields_judged fs earlier values ≡ passed
  pub stands : Stands x p (fields_bits fs values)
  pub behind : next ≡ p + length (fields_bits fs values)

-- a reading that ends well has got its first field, and went on behind it
first-sound : (x : Bits) (f : Field) (earlier : List ℕ) (p : ℕ) (rest : (v next : ℕ) → FieldsRead) (all : List ℕ) (next : ℕ) → Binary x
    → (r : Read) → read_code x f.code p ≡ r → read_on f earlier p r rest ≡ done all next
    → (v : ℕ) × (keeps f earlier v ≡ true) × Stands x p (code_bits f.code v) × (rest v (p + length (code_bits f.code v)) ≡ done all next)
first-sound x f earlier p rest all next hb (got v mid) r e =
    let (kept, on) = cond-true (keeps f earlier v) at_fault-not-done e in
    let (fits, here, behind) = code-sound x f.code p v mid hb r in
    (v, kept, here, rw behind at on)
first-sound x f earlier p rest all next hb (ended q) r e = let z : ◌≡◌ {A = ℕ} 0 1 = cc in absurd (omega arith)
first-sound x f earlier p rest all next hb (broken q) r e = absurd (at_fault-not-done e)

values_sound-cons : {x : Bits} {p next : ℕ} {all : List ℕ} (f : Field) (fs : List Field) (earlier : List ℕ) (v : ℕ)
    → keeps f earlier v ≡ true → Stands x p (code_bits f.code v)
    → ValuesSound x fs (earlier ++ (v ∷ [])) (p + length (code_bits f.code v)) all next → ValuesSound x (f ∷ fs) earlier p all next
unfolding fields_bits
values_sound-cons {x} {p} f fs earlier v kept here r =
    record {
      values = v ∷ r.values;
      split = r.split ∙ append_assoc earlier (v ∷ []) r.values;
      count = ap suc r.count;
      judged = (judged-cons f fs earlier v r.values).1 (kept, r.judged);
      stands = (stands-append x p (code_bits f.code v) (fields_bits fs r.values)).1 (here, r.stands);
      behind = r.behind ∙ rw (length-append, add_assoc);
    }

pub fields-sound : (x : Bits) (fs : List Field) (earlier : List ℕ) (p : ℕ) (all : List ℕ) (next : ℕ) → Binary x → p ≤ x.end
    → read_fields x fs earlier p ≡ done all next → ValuesSound x fs earlier p all next
unfolding read_fields fields_judged fields_bits
fields-sound x [] earlier p all next hb hp e =
    record {
      values = [];
      split = rw append-nil (cc);
      count = refl;
      judged = refl;
      stands = record { within = omega arith; same = λ i h. absurd (not-suc-le-zero h) };
      behind = rw add-zero (cc);
    }
fields-sound x (f ∷ fs) earlier p all next hb hp e =
    let (v, kept, here, on) = first-sound x f earlier p (λ v next. read_fields x fs (earlier ++ (v ∷ [])) next) all next hb _ refl e in
    values_sound-cons f fs earlier v kept here (fields-sound x fs (earlier ++ (v ∷ [])) _ all next hb here.within on)

judged-append : (fs gs : List Field) (earlier values behind : List ℕ) → length values ≡ length fs
    → fields_judged (fs ++ gs) earlier (values ++ behind) ≡ passed
    → (fields_judged fs earlier values ≡ passed) × (fields_judged gs (earlier ++ values) behind ≡ passed)
judged-append [] gs earlier [] behind len ok = (unfold fields_judged in refl, rw append-nil ok)
judged-append [] gs earlier (v ∷ values) behind len ok = absurd (omega arith)
judged-append (f ∷ fs) gs earlier [] behind len ok = absurd (omega arith)
judged-append (f ∷ fs) gs earlier (v ∷ values) behind len ok =
    let (kept, rest) = (judged-cons f (fs ++ gs) earlier v (values ++ behind)).0 ok in
    let (front, back) = judged-append fs gs (earlier ++ (v ∷ [])) values behind (omega arith) rest in
    ((judged-cons f fs earlier v values).1 (kept, front), rw append_assoc at back)

-- what is judged behind the count of rows passes exactly when the count is in range and it passes itself
pub count-passed : (n : ℕ) (j : Judgement)
    → (or_else (refuse_if (outside 1 cpb_cnt_max n) refusal.field 0) j ≡ passed) ↔ ((1 ≤ n) × (n ≤ cpb_cnt_max) × (j ≡ passed))
count-passed n j =
    let both = or_else-passed (refuse_if (outside 1 cpb_cnt_max n) refusal.field 0) j in
    let test = refuse_if-passed (outside 1 cpb_cnt_max n) refusal.field 0 in
    let range = outside-false 1 cpb_cnt_max n in (
      λ e. let (some, few) = range.0 (test.0 (both.0 e).0) in (some, few, (both.0 e).1),
      λ h. both.1 (test.1 (range.1 (h.0, h.1)), h.2),
    )

pub row_fields-length : (n : ℕ) → length (row_fields n) ≡ 3 * n
unfolding row_fields
row_fields-length zero = refl
row_fields-length (suc n) = rw length-append (omega (arith, row_fields-length n))

pub row_values-length : (p : Params) (n : ℕ) → length (row_values p n) ≡ length (row_fields n)
unfolding row_fields row_values
row_values-length p zero = refl
row_values-length p (suc n) = simp (length-append, row_values-length p n)

-- a row's fields and values, and those before it
abbrev fields_at : (n : ℕ) → List Field
fields_at n = bit_rate_value_minus1 n ∷ cpb_size_value_minus1 n ∷ cbr_flag n ∷ []

abbrev fields_before : (n : ℕ) → List Field
fields_before n = cpb_cnt_minus1 ∷ bit_rate_scale ∷ cpb_size_scale ∷ row_fields n

abbrev rate_at : Params → (n : ℕ) → ℕ
rate_at p n = get_or p.bit_rate_value_minus1 n 0

abbrev size_at : Params → (n : ℕ) → ℕ
size_at p n = get_or p.cpb_size_value_minus1 n 0

abbrev values_before : Params → (n : ℕ) → List ℕ
values_before p n = front_of p ++ row_values p n

abbrev BeforePasses : Params → (n : ℕ) → Type 0
BeforePasses p n = fields_judged (fields_before n) [] (values_before p n) ≡ passed

row-passes : (p : Params) (n : ℕ) → BeforePasses p (suc n)
    → BeforePasses p n × (fields_judged (fields_at n) (values_before p n) (row_at p n) ≡ passed)
unfolding row_fields row_values
row-passes p n = judged-append (fields_before n) (fields_at n) [] (values_before p n) _ (rw (row_values-length p n))

before-passes : (p : Params) → params_judged p ≡ passed → (n : ℕ) → n ≤ p.cpb_cnt → BeforePasses p n
before-passes p ok n h =
    le_ind (λ m. BeforePasses p m → BeforePasses p n) (λ e. e) (λ m g back e. back (row-passes p m e).0) p.cpb_cnt h
    (judged-append (fields_before p.cpb_cnt) tail_fields [] (values_before p p.cpb_cnt) _ (rw (row_values-length p p.cpb_cnt))
    ((count-passed p.cpb_cnt _).0 ok).2).0

-- the third value back, with any list before it
row_before-third : (l front : List ℕ) (a b c : ℕ) → row_before (l ++ (front ++ (a ∷ b ∷ c ∷ []))) ≡ a
row_before-third l front a b c =
    rw (← append_assoc l front (a ∷ b ∷ c ∷ [])) (get_or_at (l ++ front) a (b ∷ c ∷ []) 0 _ (simp length-append (omega arith)))

-- a row that passes behind another keeps the rules of rate and size
row-rules : (l : List ℕ) (i r s c r' s' c' : ℕ)
    → fields_judged (fields_at (suc i)) (l ++ (r ∷ s ∷ c ∷ [])) (r' ∷ s' ∷ c' ∷ []) ≡ passed → (r < r') × (s' ≤ s)
row-rules l i r s c r' s' c' ok =
    let before : List ℕ = l ++ (r ∷ s ∷ c ∷ []) in
    let (rate, rest) = (judged-cons _ _ _ _ _).0 ok in
    let (size, _) = (judged-cons _ _ _ _ _).0 rest in
    let rises = (keeps-parts (bit_rate_value_minus1 (suc i)) before r' rate).1 in
    let falls = (keeps-parts (cpb_size_value_minus1 (suc i)) (before ++ (r' ∷ [])) s' size).1 in
    (ltb-true r r' (rw (row_before-third l [] r s c) at rises), leb-true s' s (rw (append_assoc, row_before-third l (r ∷ []) s c r') at falls))

rows-rules : (p : Params) → params_judged p ≡ passed → (i : ℕ) → suc i < p.cpb_cnt
    → (rate_at p i < rate_at p (suc i)) × (size_at p (suc i) ≤ size_at p i)
unfolding row_values
rows-rules p ok i h = row-rules (values_before p i) i _ _ _ _ _ _ (row-passes p (suc i) (before-passes p ok (suc (suc i)) h)).1

pub params-rates : (p : Params) → params_judged p ≡ passed → (i j : ℕ) → i < j → j < p.cpb_cnt
    → get_or p.bit_rate_value_minus1 i 0 < get_or p.bit_rate_value_minus1 j 0
params-rates p ok = neighbours-all (λ a b. a < b) (λ a b c. lt_trans) (rate_at p) p.cpb_cnt (λ i h. (rows-rules p ok i h).0)

pub params-sizes : (p : Params) → params_judged p ≡ passed → (i j : ℕ) → i ≤ j → j < p.cpb_cnt
    → get_or p.cpb_size_value_minus1 j 0 ≤ get_or p.cpb_size_value_minus1 i 0
params-sizes p ok i j h g =
    ⊎_elim (λ e. rw e (le_refl (size_at p j)))
    (λ l. neighbours-all (λ a b. b ≤ a) (λ a b c h g. le_trans g h) (size_at p) p.cpb_cnt (λ i h. (rows-rules p ok i h).1) i j l g)
    (eq-or-lt_of_le h)

-- the first of some values that pass is at most its field's largest, and the others pass
judged-most : (f : Field) (fs : List Field) (earlier : List ℕ) (v : ℕ) (values : List ℕ) → fields_judged (f ∷ fs) earlier (v ∷ values) ≡ passed
    → (v ≤ f.most) × (fields_judged fs (earlier ++ (v ∷ [])) values ≡ passed)
judged-most f fs earlier v values ok =
    let (kept, rest) = (judged-cons f fs earlier v values).0 ok in
    ((keeps-parts f earlier v kept).0, rest)

pub params-scales : (p : Params) → params_judged p ≡ passed → (p.bit_rate_scale < 2 ^ scale_width) × (p.cpb_size_scale < 2 ^ scale_width)
params-scales p ok =
    let (_, scales) = judged-most _ _ _ _ _ (before-passes p ok 0 zero-le) in
    let (one, behind) = judged-most _ _ _ _ _ scales in
    let (other, _) = judged-most _ _ _ _ _ behind in
    (omega arith, omega arith)

pub params-values : (p : Params) → params_judged p ≡ passed → (i : ℕ) → i < p.cpb_cnt
    → (get_or p.bit_rate_value_minus1 i 0 ≤ value_max) × (get_or p.cpb_size_value_minus1 i 0 ≤ value_max)
params-values p ok i h =
    let (rate, behind) = judged-most _ _ _ _ _ (row-passes p i (before-passes p ok (suc i) h)).1 in
    (rate, (judged-most _ _ _ _ _ behind).0)

pub params-back : (x : Bits) (params : Params) (p : ℕ) → params_judged params ≡ passed → Stands x p (params_bits params)
    → params_reading x p ≡ done (values_of params) (p + length (params_bits params))
unfolding read_fields fields_bits
params-back x params p ok st =
    let n : ℕ = params.cpb_cnt in
    let (some, most, passes) = (count-passed n _).0 ok in
    let (here, _) = (stands-append x p (code_bits ue (n - 1)) _).0 st in
    let rows : suc (n - 1) ≡ n = omega arith in
    let same : params_reading x p ≡ read_fields x (fields_of n) [] p = rw (code-back x ue p (n - 1) (omega arith) here, rows) in
    same ∙ fields-back x (fields_of n) [] (values_of params) p (fields_of-writable n) (simp (length-append, row_values-length params n)) passes st

pub rows_of-at : (values : List ℕ) (n c i : ℕ) → n ≤ cpb_cnt_max → i < n → get_or (rows_of values n c) i 0 ≡ get_or values (3 + 3 * i + c) 0
rows_of-at values n c i h g =
    list_of-at (λ i. cond (ltb i n) (get_or values (3 + 3 * i + c) 0) 0) cpb_cnt_max 0 (le_trans g h) ∙ rw (lt-ltb i n g)

-- the first m rows of the record of some values are these values, behind the first three
row_values-back : (values : List ℕ) (n m : ℕ) → n ≤ cpb_cnt_max → m ≤ n
    → row_values (params_with n values) m ≡ list_of (λ i. get_or values (3 + i) 0) (3 * m)
unfolding row_values
row_values-back values n zero h g = unfold list_of in refl
row_values-back values n (suc m) h g =
    rw
    (mul-suc, list_of-append, row_values-back values n m h (omega arith), rows_of-at values n 0 m h g, rows_of-at values n 1 m h g, rows_of-at values n 2 m h g)
    (unfold list_of in simp add_assoc)

-- and all of its values are these values
values_of-back : (values : List ℕ) (n : ℕ) → n ≤ cpb_cnt_max → n - 1 ≡ get_or values 0 0
    → values_of (params_with n values) ≡ list_of (λ i. get_or values i 0) (3 + (3 * n + 4))
values_of-back values n h first =
    rw (first, row_values-back values n n h (le_refl n), list_of-append, list_of-append) (unfold list_of in simp (add_assoc, add-zero))

pub params-sound : (x : Bits) (p : ℕ) (values : List ℕ) (next : ℕ) → Binary x → params_reading x p ≡ done values next
    → (params_judged (params_from values) ≡ passed) × (values_of (params_from values) ≡ values) × Stands x p (params_bits (params_from values)) × (next ≡ p + length (params_bits (params_from values)))
params-sound x p values next hb e =
    let (c, kept, here, on) = first-sound x cpb_cnt_minus1 [] p (λ c next. read_fields x (fields_after_count (suc c)) (c ∷ []) next) values next hb _ refl e in
    let rest = fields-sound x (fields_after_count (suc c)) (c ∷ []) _ values next hb here.within on in
    let all = values_sound-cons cpb_cnt_minus1 (fields_after_count (suc c)) [] c kept here rest in
    let most : c ≤ cpb_cnt_max - 1 = (keeps-parts cpb_cnt_minus1 [] c kept).0 in
    let rows : get_or values 0 0 + 1 ≡ suc c = add-one _ ∙ ap (λ l. suc (get_or l 0 0)) rest.split in
    let count : length values ≡ 3 + (3 * suc c + 4) = ap length all.split ∙ all.count ∙ rw length-append (omega (arith, row_fields-length (suc c))) in
    let back : values_of (params_with (suc c) values) ≡ all.values = values_of-back values (suc c) (omega arith) (omega arith) ∙ rw (← count) (list_of-get_or values ∙ all.split) in
    rw (rows, back) ((count-passed (suc c) _).1 (omega arith, omega arith, all.judged), sym all.split, all.stands, all.behind)

-- a reading is the other, or the bits end inside a field of it
abbrev pub ShortOr : (a b : FieldsRead) → Type 0
ShortOr a b = ((q : ℕ) × (a ≡ short q)) ⊎ (a ≡ b)

cond-cut : (kept : Bool) (a b fault : FieldsRead) → ShortOr a b → ShortOr (cond kept a fault) (cond kept b fault)
cond-cut true a b fault h = h
cond-cut false a b fault h = inr refl

same-cut : (f : Field) (earlier : List ℕ) (p : ℕ) (r : Read) (a b : (v next : ℕ) → FieldsRead) → ((v next : ℕ) → ShortOr (a v next) (b v next))
    → ShortOr (read_on f earlier p r a) (read_on f earlier p r b)
same-cut f earlier p (got v next) a b on = cond-cut (keeps f earlier v) (a v next) (b v next) _ (on v next)
same-cut f earlier p (ended q) a b on = inr refl
same-cut f earlier p (broken q) a b on = inr refl

-- so it is after one field where it is after its code
on-cut : (f : Field) (earlier : List ℕ) (p : ℕ) (r s : Read) (a b : (v next : ℕ) → FieldsRead) → ((q : ℕ) × (r ≡ ended q)) ⊎ (r ≡ s)
    → ((v next : ℕ) → ShortOr (a v next) (b v next)) → ShortOr (read_on f earlier p r a) (read_on f earlier p s b)
on-cut f earlier p r s a b (inl (q, e)) on = inl (q, rw e)
on-cut f earlier p r s a b (inr e) on = rw e (same-cut f earlier p s a b on)

fields-cut : (x y : Bits) (fs : List Field) (earlier : List ℕ) (p : ℕ) → Binary y → Longer x y
    → ShortOr (read_fields y fs earlier p) (read_fields x fs earlier p)
unfolding read_fields
fields-cut x y [] earlier p hb l = inr refl
fields-cut x y (f ∷ fs) earlier p hb l =
    on-cut f earlier p _ _ _ _ (code-cut x y f.code p hb l) (λ v next. fields-cut x y fs (earlier ++ (v ∷ [])) next hb l)

pub params-cut : (x y : Bits) (p : ℕ) → Binary y → Longer x y → ShortOr (params_reading y p) (params_reading x p)
params-cut x y p hb l =
    on-cut cpb_cnt_minus1 [] p _ _ _ _ (code-cut x y ue p hb l) (λ c next. fields-cut x y (fields_after_count (suc c)) (c ∷ []) next hb l)
