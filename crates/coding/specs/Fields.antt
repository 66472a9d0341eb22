-- The fields of the HRD parameters (H.264 E.1.2, with the ranges of E.2.2), in the standard's order and under its names, said once:
-- what a writer emits and what a reader accepts are both defined from this list.
--     Rule            how a value stands to the same field of the row before
--     Stand           where a field stands: alone, or in a row
--     place_of        document 01's place of a fault there
--     Field           its code, its largest value, its rule between rows, and where it stands
--     row_fields      bit_rate_value_minus1, cpb_size_value_minus1 and cbr_flag of every row
--     tail_fields     the three delay lengths and time_offset_length
--     fields_of       all of them, for so many rows: cpb_cnt_minus1, bit_rate_scale, cpb_size_scale, the rows and the tail
--     keeps           a value keeps its field's range and rule, after the values before it
--     read_fields     what reading a list of fields answers
--     fields_judged   the first of a list of values that breaks its field's range or rule
--     fields_bits     the bits that write a list of values
-- Subtraction stops at 0 in row_before alone, for the first three values, which follow no row: their rule is free. Laws: proofs/FieldsLaws.antt.
-- Assumes nothing.
use Rattle.std.specs.Prelude.{ℕ, zero, suc, ◌-◌, ◌^◌, Bool, true, cond, ◌&&◌, List, [], ◌∷◌, ◌++◌, leb, ltb, length, get_or}
use Rattle.rules.specs.Limits.{cpb_cnt_max, value_max, scale_width, length_width}
use Rattle.rules.specs.Refusals as refusal
use Rattle.terms.specs.Answers.{Judgement, passed, refused}
use Rattle.coding.specs.Codes.{Bits, Code, u, ue, Read, got, ended, broken, read_code, code_bits}

pub data Rule : Type 0 where
  free : Rule
  rises : Rule
  does_not_rise : Rule

pub data Stand : Type 0 where
  alone : Stand
  in_row : (row : ℕ) → Stand

-- "row, or 0"
abbrev pub place_of : Stand → ℕ
place_of alone = 0
place_of (in_row row) = row

pub record Field : Type 0 where
  pub code : Code
  pub most : ℕ
  pub rule : Rule
  pub stand : Stand

abbrev pub field : Code → (most : ℕ) → Rule → Stand → Field
field code most rule stand = record { code = code; most = most; rule = rule; stand = stand }

-- "From row 1 on, rate values rise strictly and size values don't rise."
abbrev pub from_row1 : Rule → (row : ℕ) → Rule
from_row1 rule zero = free
from_row1 rule (suc row) = rule

abbrev pub cpb_cnt_minus1 : Field
cpb_cnt_minus1 = field ue (cpb_cnt_max - 1) free alone

abbrev pub bit_rate_scale : Field
bit_rate_scale = field (u scale_width) (2 ^ scale_width - 1) free alone

abbrev pub cpb_size_scale : Field
cpb_size_scale = field (u scale_width) (2 ^ scale_width - 1) free alone

abbrev pub bit_rate_value_minus1 : (row : ℕ) → Field
bit_rate_value_minus1 row = field ue value_max (from_row1 rises row) (in_row row)

abbrev pub cpb_size_value_minus1 : (row : ℕ) → Field
cpb_size_value_minus1 row = field ue value_max (from_row1 does_not_rise row) (in_row row)

abbrev pub cbr_flag : (row : ℕ) → Field
cbr_flag row = field (u 1) 1 free (in_row row)

abbrev pub delay_length : Field
delay_length = field (u length_width) (2 ^ length_width - 1) free alone

-- the fields of the first n rows
unfoldable pub row_fields : (n : ℕ) → List Field
row_fields zero = []
row_fields (suc n) = row_fields n ++ (bit_rate_value_minus1 n ∷ cpb_size_value_minus1 n ∷ cbr_flag n ∷ [])

-- initial_cpb_removal_delay_length_minus1, cpb_removal_delay_length_minus1, dpb_output_delay_length_minus1, time_offset_length
abbrev pub tail_fields : List Field
tail_fields = delay_length ∷ delay_length ∷ delay_length ∷ delay_length ∷ []

-- what follows cpb_cnt_minus1, which says how many rows there are
abbrev pub fields_after_count : (rows : ℕ) → List Field
fields_after_count rows = bit_rate_scale ∷ cpb_size_scale ∷ (row_fields rows ++ tail_fields)

abbrev pub fields_of : (rows : ℕ) → List Field
fields_of rows = cpb_cnt_minus1 ∷ fields_after_count rows

-- a row has three fields, so the same field of the row before is the third value back
abbrev pub row_before : (earlier : List ℕ) → ℕ
row_before earlier = get_or earlier (length earlier - 3) 0

abbrev pub keeps_rule : Rule → (before v : ℕ) → Bool
keeps_rule free before v = true
keeps_rule rises before v = ltb before v
keeps_rule does_not_rise before v = leb v before

abbrev pub keeps : Field → (earlier : List ℕ) (v : ℕ) → Bool
keeps f earlier v = leb v f.most && keeps_rule f.rule (row_before earlier) v

-- the values and the next position; or the bits end inside a field; or a field breaks its range or rule.
-- Both faults carry the first bit of the field, the second where it stands too.
pub data FieldsRead : Type 0 where
  done : (values : List ℕ) (next : ℕ) → FieldsRead
  short : (first : ℕ) → FieldsRead
  at_fault : (first : ℕ) → Stand → FieldsRead

-- after a field's code was read: its value is judged "once its last bit is read", and reading goes on
abbrev pub read_on : Field → (earlier : List ℕ) (first : ℕ) → Read → ((v next : ℕ) → FieldsRead) → FieldsRead
read_on f earlier first (got v next) more = cond (keeps f earlier v) (more v next) (at_fault first f.stand)
read_on f earlier first (ended p) more = short p
read_on f earlier first (broken p) more = at_fault p f.stand

unfoldable pub read_fields : Bits → List Field → (earlier : List ℕ) (p : ℕ) → FieldsRead
read_fields x [] earlier p = done earlier p
read_fields x (f ∷ fs) earlier p =
    read_on f earlier p (read_code x f.code p) (λ v next. read_fields x fs (earlier ++ (v ∷ [])) next)

unfoldable pub fields_judged : List Field → (earlier values : List ℕ) → Judgement
fields_judged [] earlier values = passed
fields_judged (f ∷ fs) earlier [] = passed
fields_judged (f ∷ fs) earlier (v ∷ values) =
    cond (keeps f earlier v) (fields_judged fs (earlier ++ (v ∷ [])) values) (refused refusal.field (place_of f.stand))

unfoldable pub fields_bits : List Field → (values : List ℕ) → List ℕ
fields_bits [] values = []
fields_bits (f ∷ fs) [] = []
fields_bits (f ∷ fs) (v ∷ values) = code_bits f.code v ++ fields_bits fs values
