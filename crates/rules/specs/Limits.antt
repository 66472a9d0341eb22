-- Every limit of document 01, each said once. Who needs a limit names it from here.
--     pictures_max         pictures in the lists of a recording          "A recording and its units"
--     sheet_pictures_max   pictures in a sheet                           "The sheet and the printed table"
--     size_max             bits in one picture                           "A recording and its units"
--     span_max             ticks from the first picture to the last      "A recording and its units"
--     ts_max, nu_max       time_scale, num_units_in_tick                 "A recording and its units"
--     rate_max             bits per second                               "A recording and its units"
--     rows_max             rates in a list, rows in a table              "Looking up a rate in a table"
--     bucket_max           bits in a buffer, and so in a start fullness  "A recording and its units"
--     cpb_cnt_max          rows in a parameter record                    "HRD parameter bits"
--     value_max            the largest value of a ue(v) in the record    "HRD parameter bits"
--     zeros_max            leading zeros at which a code breaks the rule "HRD parameter bits"
--     scale_width          bits of bit_rate_scale and cpb_size_scale     "HRD parameter bits"
--     length_width         bits of each of the four lengths              "HRD parameter bits"
--     rate_shift           rate = (value + 1) x 2^(rate_shift + scale)   "HRD parameter bits"
--     size_shift           size = (value + 1) x 2^(size_shift + scale)   "HRD parameter bits"
--     bytes_max            bytes of a lent byte list that count          "HRD parameter bits"
--     header_bytes         bytes of a sheet's header                     "The sheet and the printed table"
--     sheet_bytes_max      bytes of the largest sheet                    "The sheet and the printed table"
--     text_max             room for every text that is printed, whatever the numbers of 64 bits in it
--     limits               all of the above in this order, which the code's constants are tied to
-- The bits' own ranges come from the standard, so they have names apart from those of buckets and tables.
-- Laws: proofs/Fits.antt. Assumes nothing.
use Rattle.std.specs.Prelude.{ℕ, ◌+◌, ◌-◌, ◌*◌, ◌^◌, List, [], ◌∷◌}

abbrev pub pictures_max : ℕ
pictures_max = 2 ^ 12

abbrev pub sheet_pictures_max : ℕ
sheet_pictures_max = 2 ^ 12

abbrev pub size_max : ℕ
size_max = 2 ^ 24

abbrev pub span_max : ℕ
span_max = 2 ^ 16

abbrev pub ts_max : ℕ
ts_max = 2 ^ 17

abbrev pub nu_max : ℕ
nu_max = 2 ^ 16

abbrev pub rate_max : ℕ
rate_max = 2 ^ 27

abbrev pub rows_max : ℕ
rows_max = 32

abbrev pub bucket_max : ℕ
bucket_max = 2 ^ 36

abbrev pub cpb_cnt_max : ℕ
cpb_cnt_max = 32

abbrev pub value_max : ℕ
value_max = 2 ^ 32 - 2

abbrev pub zeros_max : ℕ
zeros_max = 32

abbrev pub scale_width : ℕ
scale_width = 4

abbrev pub length_width : ℕ
length_width = 5

abbrev pub rate_shift : ℕ
rate_shift = 6

abbrev pub size_shift : ℕ
size_shift = 4

abbrev pub bytes_max : ℕ
bytes_max = 2 ^ 29

abbrev pub header_bytes : ℕ
header_bytes = 28

-- "exactly 28+8n+4m bytes"
abbrev pub sheet_bytes_max : ℕ
sheet_bytes_max = header_bytes + 8 * sheet_pictures_max + 4 * rows_max

abbrev pub text_max : ℕ
text_max = 2 ^ 11

abbrev pub limits : List ℕ
limits =
    pictures_max
    ∷ sheet_pictures_max
    ∷ size_max
    ∷ span_max
    ∷ ts_max
    ∷ nu_max
    ∷ rate_max
    ∷ rows_max
    ∷ bucket_max
    ∷ cpb_cnt_max
    ∷ value_max
    ∷ zeros_max
    ∷ scale_width
    ∷ length_width
    ∷ rate_shift
    ∷ size_shift
    ∷ bytes_max
    ∷ header_bytes
    ∷ sheet_bytes_max
    ∷ text_max
    ∷ []
