-- The starred cases of document 01, "Worked figures", that are of parameter bits, computed from the definitions. With those of recordings they
-- are one list with one claim in demands/proofs/Starred.antt.
--     Figure                          what a case shows: numbers, or a position
--     computed                        the cases, in the document's order
--     expected                        what the document says of each
--     starred                         they are equal
--     ordered-read, ordered-written   beside them, a record that shows the order of the fields, read and written
-- Definitions: specs/. Assumes nothing.
use Prim.Native.Nat.{ℕ, ◌-◌}
use mathlib.Core.Path.{◌≡◌, refl}
use mathlib.Core.List.{List, [], ◌∷◌}
use lib.ListN.{get_or, replicate}
use Rattle.rules.specs.Limits.{cpb_cnt_max}
use Rattle.rules.specs.Refusals as refusal
use Rattle.terms.specs.Numbers.{list_of}
use Rattle.terms.specs.Answers.{Answer, given, refused, refuse_if, first}
use Rattle.coding.specs.Codes.{unsigned, zeros_from, unsigned_bits, zeros_of, put_bits}
use Rattle.coding.specs.Fields.{row_fields, read_fields, fields_judged, fields_bits}
use Rattle.coding.specs.Params.{Params, row_values, row_rate, row_size, read_outcome, write_outcome}
use Rattle.coding.specs.Undoing.{read_to, written_to}

pub data Figure : Type 0 where
  numbers : List ℕ → Figure
  position : Answer ℕ → Figure

-- what a record says of its first row, and the four lengths as coded
first_row : Params → List ℕ
first_row p =
    p.cpb_cnt
    ∷ row_rate p 0
    ∷ row_size p 0
    ∷ get_or p.cbr_flag 0 0
    ∷ p.initial_cpb_removal_delay_length_minus1
    ∷ p.cpb_removal_delay_length_minus1
    ∷ p.dpb_output_delay_length_minus1
    ∷ p.time_offset_length
    ∷ []

pub computed : List Figure
unfolding first_row
computed =
    numbers (first_row (read_outcome (0x80 ∷ 0x6B ∷ 0xDE ∷ 0xF8 ∷ []) 0).params)
    ∷ position (read_outcome (0x80 ∷ 0x6B ∷ 0xDE ∷ 0xF8 ∷ []) 0).answer
    ∷ position (read_outcome (0x80 ∷ 0x6B ∷ 0xDE ∷ []) 0).answer
    ∷ []

pub expected : List Figure
expected =
    numbers (1 ∷ 64 ∷ 16 ∷ 0 ∷ 23 ∷ 23 ∷ 23 ∷ 24 ∷ [])
    ∷ position (given 32)
    ∷ position (refused refusal.short 0)
    ∷ []

pub starred : computed ≡ expected
unfolding computed expected list_of unsigned zeros_from row_fields read_fields
starred = refl

-- a record that shows the order of the fields: the starred one has a single row and three equal lengths.
-- Its bits by H.264 E.1.2: 010 0101 1001, rows 011 00111 1 and 00101 00100 0, lengths 10100 00111 01101 11010
abbrev ordered_bytes : List ℕ
ordered_bytes = 0x4B ∷ 0x2C ∷ 0xF2 ∷ 0x91 ∷ 0x43 ∷ 0xB7 ∷ 0x40 ∷ []

-- two rows, and zeros beyond them
abbrev two_rows : (x y : ℕ) → List ℕ
two_rows x y = x ∷ y ∷ replicate (cpb_cnt_max - 2) 0

abbrev ordered : Params
ordered =
    record {
      cpb_cnt = 2;
      bit_rate_scale = 5;
      cpb_size_scale = 9;
      bit_rate_value_minus1 = two_rows 2 4;
      cpb_size_value_minus1 = two_rows 6 3;
      cbr_flag = two_rows 1 0;
      initial_cpb_removal_delay_length_minus1 = 20;
      cpb_removal_delay_length_minus1 = 7;
      dpb_output_delay_length_minus1 = 13;
      time_offset_length = 26;
    }

pub ordered-read : read_outcome ordered_bytes 0 ≡ read_to 51 ordered
unfolding list_of unsigned zeros_from row_fields read_fields
ordered-read = refl

pub ordered-written : write_outcome ordered (replicate 7 0) 0 ≡ written_to 51 ordered_bytes
unfolding unsigned_bits zeros_of row_fields row_values fields_judged fields_bits put_bits refuse_if first
ordered-written = refl
