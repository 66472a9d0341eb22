-- What the program prints, as a list of bytes (document 01, "The sheet and the printed table").
--     letters        a text as the list of its ASCII codes
--     decimal        a number in decimal digits, with no zero in front
--     refusal_line   the line of a refusal, as "refused 5 at 3"
--     row_line       the line of one rate
--     table_text     the whole table: the header line and one line for each rate
-- What a sheet prints: specs/Sheet.antt. Laws: proofs/TextLaws.antt. Assumes nothing.
use Rattle.std.specs.Prelude.{ℕ, zero, suc, ◌+◌, ◌/◌, ◌%◌, cond, List, [], ◌∷◌, ◌++◌, ltb, length, get_or}
use Prim.Native.Char.{code}
use Prim.Native.String.{String, [] as end, ◌∷◌ as ◌then◌}

unfoldable pub letters : String → List ℕ
letters end = []
letters (c then s) = code c ∷ letters s

-- the last digit of n
abbrev pub digit : ℕ → ℕ
digit n = 48 + n % 10

-- the digits of n where these are at most k + 1
unfoldable pub digits : (k n : ℕ) → List ℕ
digits zero n = digit n ∷ []
digits (suc k) n = cond (ltb n 10) (digit n ∷ []) (digits k (n / 10) ++ (digit n ∷ []))

-- n has at most n + 1 digits
abbrev pub decimal : ℕ → List ℕ
decimal n = digits n n

abbrev pub refusal_line : (number place : ℕ) → List ℕ
refusal_line number place = letters "refused " ++ (decimal number ++ (letters " at " ++ (decimal place ++ letters "\n")))

abbrev pub row_line : (rate b f : ℕ) → List ℕ
row_line rate b f = decimal rate ++ (letters " " ++ (decimal b ++ (letters " " ++ (decimal f ++ letters "\n"))))

-- the lines of the first n rows
unfoldable pub row_lines : (rates buffers fullnesses : List ℕ) (n : ℕ) → List ℕ
row_lines rates buffers fullnesses zero = []
row_lines rates buffers fullnesses (suc n) = row_lines rates buffers fullnesses n ++ row_line (get_or rates n 0) (get_or buffers n 0) (get_or fullnesses n 0)

abbrev pub table_text : (rates buffers fullnesses : List ℕ) → List ℕ
table_text rates buffers fullnesses = letters "rate buffer start\n" ++ row_lines rates buffers fullnesses (length rates)
