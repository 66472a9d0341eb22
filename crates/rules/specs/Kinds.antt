-- The kinds of an answer as C and Rust see it, each under one name.
--     refused   0   a refusal, in every struct
--     given     1   what is asked, in a struct with one kind of answer
--     holds     1   of a verdict
--     late      2   of a verdict
--     within    1   of a panel reading
--     over      2   of a panel reading
--     table     1   of a text: the sheet's table
--     line      2   of a text: the line of the sheet's refusal
--     kinds     all of them in this order, which the code's constants are tied to
-- What each struct says: answers/specs/. Assumes nothing.
use Rattle.std.specs.Prelude.{ℕ, List, [], ◌∷◌}

abbrev pub refused : ℕ
refused = 0

abbrev pub given : ℕ
given = 1

abbrev pub holds : ℕ
holds = 1

abbrev pub late : ℕ
late = 2

abbrev pub within : ℕ
within = 1

abbrev pub over : ℕ
over = 2

abbrev pub table : ℕ
table = 1

abbrev pub line : ℕ
line = 2

abbrev pub kinds : List ℕ
kinds =
    refused
    ∷ given
    ∷ holds
    ∷ late
    ∷ within
    ∷ over
    ∷ table
    ∷ line
    ∷ []
