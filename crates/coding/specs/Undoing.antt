-- "Annex E's parameter bits are read and written to the letter, and each undoes the other", as propositions over any bytes. Proved in
-- proofs/Undoing.antt.
--     read_to, written_to   a record read, bytes written, and the next position
--     RowsBack              a field of the rows is the same in every row, and zero beyond them
--     RecordBack            the same count, the same rows below it, the same other fields one by one
--     WrittenIsRead         reading what was written gives the record and the same next position back
--     ReadIsWritten         writing what was read gives the same bytes back
--     CutIsShort            bytes cut anywhere before the last bit of a record that reads are refusal 9
--     SameElsewhere         the same bits at another position read the same
-- Assumes nothing.
use Rattle.std.specs.Prelude.{ℕ, ◌+◌, ◌*◌, ◌≤◌, ◌<◌, ◌≡◌, List, length, get_or, take}
use Rattle.rules.specs.Limits.{cpb_cnt_max}
use Rattle.rules.specs.Refusals as refusal
use Rattle.terms.specs.Answers.{given, refused}
use Rattle.coding.specs.Codes.{bit_at, bits_of}
use Rattle.coding.specs.Params.{Params, zero_params, ParamsRead, ParamsWritten, read_outcome, write_outcome}

abbrev pub read_to : (next : ℕ) → Params → ParamsRead
read_to next params = record { answer = given next; params = params }

abbrev pub written_to : (next : ℕ) (bytes : List ℕ) → ParamsWritten
written_to next bytes = record { answer = given next; bytes = bytes }

-- one field of the rows, read again: "A record is its count and that many rows", and "room beyond them is zero after reading"
pub record RowsBack (n : ℕ) (written read : List ℕ) : Type 0 where
  pub rows : (i : ℕ) → i < n → get_or read i 0 ≡ get_or written i 0
  pub beyond : (i : ℕ) → n ≤ i → get_or read i 0 ≡ 0
  pub room : length read ≡ cpb_cnt_max

-- the record back: the same count, the same rows below it, the same other fields
pub record RecordBack (written read : Params) : Type 0 where
  pub cpb_cnt : read.cpb_cnt ≡ written.cpb_cnt
  pub bit_rate_scale : read.bit_rate_scale ≡ written.bit_rate_scale
  pub cpb_size_scale : read.cpb_size_scale ≡ written.cpb_size_scale
  pub bit_rate_value_minus1 : RowsBack written.cpb_cnt written.bit_rate_value_minus1 read.bit_rate_value_minus1
  pub cpb_size_value_minus1 : RowsBack written.cpb_cnt written.cpb_size_value_minus1 read.cpb_size_value_minus1
  pub cbr_flag : RowsBack written.cpb_cnt written.cbr_flag read.cbr_flag
  pub initial_cpb_removal_delay_length_minus1 : read.initial_cpb_removal_delay_length_minus1 ≡ written.initial_cpb_removal_delay_length_minus1
  pub cpb_removal_delay_length_minus1 : read.cpb_removal_delay_length_minus1 ≡ written.cpb_removal_delay_length_minus1
  pub dpb_output_delay_length_minus1 : read.dpb_output_delay_length_minus1 ≡ written.dpb_output_delay_length_minus1
  pub time_offset_length : read.time_offset_length ≡ written.time_offset_length

abbrev pub WrittenIsRead : Type 0
WrittenIsRead =
    (params : Params) (bytes after : List ℕ) (p next : ℕ) → write_outcome params bytes p ≡ written_to next after
    → ((read_outcome after p).answer ≡ given next) × RecordBack params (read_outcome after p).params

abbrev pub ReadIsWritten : Type 0
ReadIsWritten =
    (params : Params) (bytes : List ℕ) (p next : ℕ) → read_outcome bytes p ≡ read_to next params
    → write_outcome params bytes p ≡ written_to next bytes

abbrev pub CutIsShort : Type 0
CutIsShort =
    (params : Params) (bytes : List ℕ) (p next n : ℕ) → read_outcome bytes p ≡ read_to next params → 8 * n < next
    → read_outcome (take n bytes) p ≡ record { answer = refused refusal.short 0; params = zero_params }

abbrev pub SameElsewhere : Type 0
SameElsewhere =
    (params : Params) (bytes other : List ℕ) (p q m : ℕ) → read_outcome bytes p ≡ read_to (p + m) params
    → q + m ≤ (bits_of other).end → ((i : ℕ) → i < m → bit_at other (q + i) ≡ bit_at bytes (p + i))
    → read_outcome other q ≡ read_to (q + m) params
