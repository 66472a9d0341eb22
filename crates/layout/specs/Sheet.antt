-- Opening a sheet, and what is printed of it (document 01, "The sheet and the printed table").
--     picture_count, sizes_offset, ticks_offset, rate_count, rates_offset, clock_scale, clock_units    the seven words of the header
--     sheet_recording   the recording in a sheet
--     sheet_rates       and its rates
--     misplaced         an offset or the length is not as the counts have it
--     header_faults     what the header and the length may have wrong, in the order of document 01
--     sheet_faults      and what the whole sheet may
--     Head              what an opened sheet says beside its lists: both counts and the clock
--     Opened, open_outcome    the answer to opening a sheet, and the three lent lists afterwards
--     least_text        the table of a recording's least figures as text
--     sheet_text        the whole output for a sheet
--     Output, output_of    what is said of that output: where it ends, and how the sheet was judged
--     Printed, print_outcome    the answer to printing it to a lent list of bytes, and that list afterwards
-- Laws: proofs/SheetLaws.antt. Assumes nothing.
use Rattle.std.specs.Prelude.{ℕ, ◌+◌, ◌*◌, Bool, not, ◌||◌, List, [], ◌∷◌, ◌++◌, map, ltb, eqb, length}
use Rattle.rules.specs.Limits.{header_bytes, sheet_pictures_max, rows_max}
use Rattle.rules.specs.Refusals as refusal
use Rattle.terms.specs.Numbers.{outside}
use Rattle.terms.specs.Words.{word_at, words_at}
use Rattle.model.specs.Recording.{Recording, recording}
use Rattle.model.specs.Least.{least_buffer, least_fullness}
use Rattle.terms.specs.Answers.{Answer, Judgement, given, refused, refuse_if, lowest, first, answer_with, written_if, room_check}
use Rattle.model.specs.Faults.{recording_faults, rate_list_check}
use Rattle.layout.specs.Text.{refusal_line, table_text}

-- "picture count n, offset of sizes (28), offset of ticks (28+4n), rate count m, offset of rates (28+8n), TS, NU"
module _ (bytes : List ℕ) where
  abbrev pub picture_count : ℕ
  picture_count = word_at bytes 0

  abbrev pub sizes_offset : ℕ
  sizes_offset = word_at bytes 4

  abbrev pub ticks_offset : ℕ
  ticks_offset = word_at bytes 8

  abbrev pub rate_count : ℕ
  rate_count = word_at bytes 12

  abbrev pub rates_offset : ℕ
  rates_offset = word_at bytes 16

  abbrev pub clock_scale : ℕ
  clock_scale = word_at bytes 20

  abbrev pub clock_units : ℕ
  clock_units = word_at bytes 24

  abbrev pub sheet_sizes : List ℕ
  sheet_sizes = words_at bytes header_bytes picture_count

  abbrev pub sheet_ticks : List ℕ
  sheet_ticks = words_at bytes (header_bytes + 4 * picture_count) picture_count

  abbrev pub sheet_rates : List ℕ
  sheet_rates = words_at bytes (header_bytes + 8 * picture_count) rate_count

  abbrev pub sheet_recording : Recording
  sheet_recording = recording sheet_sizes sheet_ticks clock_scale clock_units

  -- "The file is exactly 28+8n+4m bytes."
  abbrev pub misplaced : Bool
  misplaced =
      not (eqb sizes_offset header_bytes)
      || (not (eqb ticks_offset (header_bytes + 4 * picture_count))
      || (not (eqb rates_offset (header_bytes + 8 * picture_count))
      || not (eqb (length bytes) (header_bytes + 8 * picture_count + 4 * rate_count))))

  -- "a sheet gives 12 before all, counts out of range giving 1 then 6 before 12 where the 28 header bytes are there"
  abbrev pub header_faults : List Judgement
  header_faults =
      refuse_if (ltb (length bytes) header_bytes) refusal.sheet 0
      ∷ refuse_if (outside 1 sheet_pictures_max picture_count) refusal.pictures 0
      ∷ refuse_if (outside 1 rows_max rate_count) refusal.rate 0
      ∷ refuse_if misplaced refusal.sheet 0
      ∷ []

  -- what stands in the lists and the clock is judged as every recording and every list of rates: the lowest
  abbrev pub list_faults : List Judgement
  list_faults = recording_faults sheet_recording ++ (rate_list_check sheet_rates ∷ [])

  abbrev pub sheet_faults : List Judgement
  sheet_faults = header_faults ++ (lowest list_faults ∷ [])

  -- room has the highest number that applies, so it is judged last
  abbrev pub open_faults : (sizes ticks rates : List ℕ) → List Judgement
  open_faults sizes ticks rates =
      sheet_faults
      ++ (room_check sizes 0 picture_count
      ∷ room_check ticks 0 picture_count
      ∷ room_check rates 0 rate_count
      ∷ [])

pub record Head : Type 0 where
  pub pictures : ℕ
  pub rates : ℕ
  pub ts : ℕ
  pub nu : ℕ

abbrev pub head_of : (bytes : List ℕ) → Head
head_of bytes =
    record { pictures = picture_count bytes; rates = rate_count bytes; ts = clock_scale bytes; nu = clock_units bytes }

pub record Opened : Type 0 where
  pub answer : Answer Head
  pub sizes : List ℕ
  pub ticks : List ℕ
  pub rates : List ℕ

abbrev pub open_outcome : (bytes sizes ticks rates : List ℕ) → Opened
open_outcome bytes sizes ticks rates =
    let j : Judgement = first (open_faults bytes sizes ticks rates) in
    record {
      answer = answer_with j (head_of bytes);
      sizes = written_if j sizes 0 (sheet_sizes bytes);
      ticks = written_if j ticks 0 (sheet_ticks bytes);
      rates = written_if j rates 0 (sheet_rates bytes);
    }

-- "A sheet that doesn't open prints its refusal line and nothing else"
abbrev pub text_or : Judgement → (text : List ℕ) → List ℕ
text_or (given a) text = text
text_or (refused number place) text = refusal_line number place

abbrev pub least_text : Recording → (rates : List ℕ) → List ℕ
least_text k rates = table_text rates (map (least_buffer k) rates) (map (least_fullness k) rates)

abbrev pub sheet_text : (bytes : List ℕ) → List ℕ
sheet_text bytes = text_or (first (sheet_faults bytes)) (least_text (sheet_recording bytes) (sheet_rates bytes))

-- a sheet that passed has its table printed, one that was refused the line of that refusal
pub record Output : Type 0 where
  pub end : ℕ
  pub judged : Judgement

abbrev pub output_of : (bytes : List ℕ) → Output
output_of bytes = record { end = length (sheet_text bytes); judged = first (sheet_faults bytes) }

pub record Printed : Type 0 where
  pub answer : Answer Output
  pub text : List ℕ

abbrev pub print_outcome : (bytes text : List ℕ) → Printed
print_outcome bytes text =
    let j : Judgement = room_check text 0 (length (sheet_text bytes)) in
    record { answer = answer_with j (output_of bytes); text = written_if j text 0 (sheet_text bytes) }
