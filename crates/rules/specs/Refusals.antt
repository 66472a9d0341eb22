-- The refusal numbers of document 01, "When the planner says no", each under one name.
--     pictures   1   picture count
--     lengths    2   lists of different length
--     clock      3   TS, NU or span
--     size       4   a picture's size
--     tick       5   a picture's removal tick
--     rate       6   a rate, or a count of rates or rows
--     bucket     7   buffer or start fullness
--     room       8   room in a lent output
--     short      9   bits end inside the record
--     field      10   a field breaks the section on bits
--     constant   11   a verdict asked of a constant-rate row
--     sheet      12   a sheet's header or length
--     limit      13   the panel's limit
--     refusals   all of them in this order, which the code's constants are tied to
-- When each is given, and where: model/specs/Faults.antt. Assumes nothing.
use Rattle.std.specs.Prelude.{ℕ, List, [], ◌∷◌}

abbrev pub pictures : ℕ
pictures = 1

abbrev pub lengths : ℕ
lengths = 2

abbrev pub clock : ℕ
clock = 3

abbrev pub size : ℕ
size = 4

abbrev pub tick : ℕ
tick = 5

abbrev pub rate : ℕ
rate = 6

abbrev pub bucket : ℕ
bucket = 7

abbrev pub room : ℕ
room = 8

abbrev pub short : ℕ
short = 9

abbrev pub field : ℕ
field = 10

abbrev pub constant : ℕ
constant = 11

abbrev pub sheet : ℕ
sheet = 12

abbrev pub limit : ℕ
limit = 13

abbrev pub refusals : List ℕ
refusals =
    pictures
    ∷ lengths
    ∷ clock
    ∷ size
    ∷ tick
    ∷ rate
    ∷ bucket
    ∷ room
    ∷ short
    ∷ field
    ∷ constant
    ∷ sheet
    ∷ limit
    ∷ []
