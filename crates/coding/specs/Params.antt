-- A parameter record: judged, read and written (document 01, "HRD parameter bits").
--     Params                                       the count of rows, the fields by the standard's names, the rows' fields as lists with room for the most rows
--     zero_params                                  the record of a refusal
--     front_of, row_at, tail_of                    the values before the rows, of a row, and behind the rows
--     values_of                                    its values in the order of the fields: "A record is its count and that many rows"
--     params_from                                  the record of such values; "room beyond them is zero after reading"
--     params_judged                                every fault of a record is 10: the first in bit order, at its row or 0
--     params_bits                                  the bits that write it
--     reading_place                                document 01's place of a fault in reading
--     read_outcome                                 reading: the next position or a refusal, and the record
--     write_outcome                                writing: the next position or a refusal, and the bytes afterwards
--     length_outcome                               how many bits writing it takes, or a refusal
--     row_rate, row_size                           rate and size of a row
--     Row, params_row_faults, params_row_outcome   both, what may be wrong, and both or a refusal
-- Subtraction stops at 0 for a count of 0 alone, whose record is refused before its values count. A verdict asked of a row:
-- row_verdict/specs/RowVerdict.antt. Laws: proofs/FieldsLaws.antt, proofs/BackLaws.antt. Assumes nothing.
use Rattle.std.specs.Prelude.{ℕ, zero, suc, ◌+◌, ◌-◌, ◌*◌, ◌^◌, cond, not, List, [], ◌∷◌, ◌++◌, ltb, length, get_or}
use Rattle.rules.specs.Limits.{cpb_cnt_max, rate_shift, size_shift}
use Rattle.rules.specs.Refusals as refusal
use Rattle.terms.specs.Numbers.{list_of, outside}
use Rattle.terms.specs.Answers.{Answer, given, refused, Judgement, refuse_if, or_else, first, answer_with}
use Rattle.coding.specs.Codes.{Bits, bits_of, ue, read_code, put_bits}
use Rattle.coding.specs.Fields.{cpb_cnt_minus1, fields_after_count, fields_of, place_of, FieldsRead, done, short, at_fault, read_on, read_fields, fields_judged, fields_bits}

pub record Params : Type 0 where
  pub cpb_cnt : ℕ
  pub bit_rate_scale : ℕ
  pub cpb_size_scale : ℕ
  pub bit_rate_value_minus1 : List ℕ
  pub cpb_size_value_minus1 : List ℕ
  pub cbr_flag : List ℕ
  pub initial_cpb_removal_delay_length_minus1 : ℕ
  pub cpb_removal_delay_length_minus1 : ℕ
  pub dpb_output_delay_length_minus1 : ℕ
  pub time_offset_length : ℕ

-- the three values before the rows
abbrev pub front_of : Params → List ℕ
front_of p = (p.cpb_cnt - 1) ∷ p.bit_rate_scale ∷ p.cpb_size_scale ∷ []

-- the three values of row i
abbrev pub row_at : Params → (i : ℕ) → List ℕ
row_at p i = get_or p.bit_rate_value_minus1 i 0 ∷ get_or p.cpb_size_value_minus1 i 0 ∷ get_or p.cbr_flag i 0 ∷ []

-- the four values behind the rows
abbrev pub tail_of : Params → List ℕ
tail_of p =
    p.initial_cpb_removal_delay_length_minus1
    ∷ p.cpb_removal_delay_length_minus1
    ∷ p.dpb_output_delay_length_minus1
    ∷ p.time_offset_length
    ∷ []

-- the values of the first n rows
unfoldable pub row_values : Params → (n : ℕ) → List ℕ
row_values p zero = []
row_values p (suc n) = row_values p n ++ row_at p n

abbrev pub values_of : Params → List ℕ
values_of p = front_of p ++ (row_values p p.cpb_cnt ++ tail_of p)

-- field number c of every row, from the values of n rows
abbrev pub rows_of : (values : List ℕ) (n c : ℕ) → List ℕ
rows_of values n c = list_of (λ i. cond (ltb i n) (get_or values (3 + 3 * i + c) 0) 0) cpb_cnt_max

-- the record with n rows and these values
abbrev pub params_with : (n : ℕ) (values : List ℕ) → Params
params_with n values =
    record {
      cpb_cnt = n;
      bit_rate_scale = get_or values 1 0;
      cpb_size_scale = get_or values 2 0;
      bit_rate_value_minus1 = rows_of values n 0;
      cpb_size_value_minus1 = rows_of values n 1;
      cbr_flag = rows_of values n 2;
      initial_cpb_removal_delay_length_minus1 = get_or values (3 + 3 * n) 0;
      cpb_removal_delay_length_minus1 = get_or values (3 + 3 * n + 1) 0;
      dpb_output_delay_length_minus1 = get_or values (3 + 3 * n + 2) 0;
      time_offset_length = get_or values (3 + 3 * n + 3) 0;
    }

abbrev pub params_from : (values : List ℕ) → Params
params_from values = params_with (get_or values 0 0 + 1) values

abbrev pub zero_params : Params
zero_params = params_with 0 []

abbrev pub params_judged : Params → Judgement
params_judged p =
    or_else (refuse_if (outside 1 cpb_cnt_max p.cpb_cnt) refusal.field 0) (fields_judged (fields_of p.cpb_cnt) [] (values_of p))

abbrev pub params_bits : Params → List ℕ
params_bits p = fields_bits (fields_of p.cpb_cnt) (values_of p)

-- the fields of a record from position p on: the first says how many rows follow
abbrev pub params_reading : Bits → (p : ℕ) → FieldsRead
params_reading x p =
    read_on cpb_cnt_minus1 [] p (read_code x ue p) (λ c next. read_fields x (fields_after_count (suc c)) (c ∷ []) next)

-- "bits end inside the record, or the start is past the end": 0. "a field breaks the section on bits": row, or 0
abbrev pub reading_place : FieldsRead → ℕ
reading_place (done values next) = 0
reading_place (short p) = 0
reading_place (at_fault p stand) = place_of stand

pub record ParamsRead : Type 0 where
  pub answer : Answer ℕ
  pub params : Params

abbrev pub read_answer : FieldsRead → ParamsRead
read_answer (done values next) = record { answer = given next; params = params_from values }
read_answer (short p) = record { answer = refused refusal.short (reading_place (short p)); params = zero_params }
read_answer (at_fault p stand) = record { answer = refused refusal.field (reading_place (at_fault p stand)); params = zero_params }

-- "reading bits takes the first fault in bit order"
abbrev pub read_outcome : (bytes : List ℕ) (p : ℕ) → ParamsRead
read_outcome bytes p = read_answer (params_reading (bits_of bytes) p)

pub record ParamsWritten : Type 0 where
  pub answer : Answer ℕ
  pub bytes : List ℕ

abbrev pub write_faults : Params → (bytes : List ℕ) (p : ℕ) → List Judgement
write_faults params bytes p =
    params_judged params ∷ refuse_if (ltb (bits_of bytes).end (p + length (params_bits params))) refusal.room 0 ∷ []

abbrev pub bytes_if : Judgement → (bytes : List ℕ) (p : ℕ) (bits : List ℕ) → List ℕ
bytes_if (given a) bytes p bits = put_bits bytes p bits
bytes_if (refused number place) bytes p bits = bytes

-- "writing bits judges the record first (every fault of it is 10, the first in bit order), then room (8)". "The writer changes only the
-- record's own bits."
abbrev pub write_outcome : Params → (bytes : List ℕ) (p : ℕ) → ParamsWritten
write_outcome params bytes p =
    let j : Judgement = first (write_faults params bytes p) in
    record { answer = answer_with j (p + length (params_bits params)); bytes = bytes_if j bytes p (params_bits params) }

abbrev pub length_outcome : Params → Answer ℕ
length_outcome params = answer_with (params_judged params) (length (params_bits params))

-- "Rate = (value+1) x 2^(6+scale)"
abbrev pub row_rate : Params → (row : ℕ) → ℕ
row_rate p row = (get_or p.bit_rate_value_minus1 row 0 + 1) * 2 ^ (rate_shift + p.bit_rate_scale)

-- "size = (value+1) x 2^(4+scale)"
abbrev pub row_size : Params → (row : ℕ) → ℕ
row_size p row = (get_or p.cpb_size_value_minus1 row 0 + 1) * 2 ^ (size_shift + p.cpb_size_scale)

pub record Row : Type 0 where
  pub rate : ℕ
  pub size : ℕ

-- the record is judged first, then the row number: 6 at 0 if there is no such row
abbrev pub params_row_faults : Params → (row : ℕ) → List Judgement
params_row_faults p row = params_judged p ∷ refuse_if (not (ltb row p.cpb_cnt)) refusal.rate 0 ∷ []

abbrev pub params_row_outcome : Params → (row : ℕ) → Answer Row
params_row_outcome p row = answer_with (first (params_row_faults p row)) (record { rate = row_rate p row; size = row_size p row })
