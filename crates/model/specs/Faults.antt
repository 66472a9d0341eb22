-- When each refusal is given, and where (document 01, "When the planner says no"), and the faults that each operation may have.
--     pictures_check     1   picture count 0 or over the limit
--     lengths_check      2   size and tick lists differ in length
--     clock_check        3   TS or NU outside its range
--     size_check         4   a size out of range, at the first such picture
--     tick_check         5   a tick not above the one before, or too far from the first, at the first such picture
--     rate_check         6   one rate out of range
--     rate_count_check   6   a rate or row count outside 1 to rows_max
--     rate_list_check    6   a rate out of range or not rising, at the first such rate
--     RatesWithin        a list of rates that is not refused
--     bucket_check       7   B or F of one bucket out of range
--     recording_faults, rates_faults, seconds_faults, room_faults
--                          what applies to a recording, a list of rates, a bucket at its rate, two lent lists
--     verdict_faults, schedule_faults, least_faults, table_faults, lookup_faults
--                          what applies to each operation, made of these, in the order in which equal numbers come first
-- Room (8): terms/specs/Answers.antt. Parameter bits (9, 10): coding/specs/Params.antt. A tick's distance to the first is taken by a
-- subtraction that stops at 0 only where the tick lies below the first: then it, or one before it, does not rise, which is a fault by itself.
-- Laws: proofs/FaultsLaws.antt. Assumes nothing.
use Rattle.std.specs.Prelude.{ℕ, zero, suc, ◌-◌, ◌≤◌, ◌<◌, Bool, false, not, ◌||◌, List, [], ◌∷◌, ◌++◌, leb, ltb, eqb, length, get_or}
use Rattle.rules.specs.Limits.{pictures_max, size_max, span_max, ts_max, nu_max, rate_max, rows_max, bucket_max}
use Rattle.rules.specs.Refusals as refusal
use Rattle.terms.specs.Numbers.{outside, Rising}
use Rattle.model.specs.Recording.{Recording, pictures}
use Rattle.model.specs.Arrival.{Bucket}
use Rattle.model.specs.Lookup.{Table}
use Rattle.terms.specs.Answers.{Judgement, refuse_if, first_fault, room_check}

abbrev pub pictures_check : Recording → Judgement
pictures_check k = refuse_if (outside 1 pictures_max (pictures k)) refusal.pictures 0

abbrev pub lengths_check : Recording → Judgement
lengths_check k = refuse_if (not (eqb (length k.ticks) (pictures k))) refusal.lengths 0

abbrev pub bad_clock : (ts nu : ℕ) → Bool
bad_clock ts nu = outside 1 ts_max ts || outside 1 nu_max nu

abbrev pub clock_check : (ts nu : ℕ) → Judgement
clock_check ts nu = refuse_if (bad_clock ts nu) refusal.clock 0

abbrev pub bad_size : (sizes : List ℕ) → ℕ → Bool
bad_size sizes i = outside 1 size_max (get_or sizes i 0)

abbrev pub size_check : Recording → Judgement
size_check k = first_fault refusal.size (bad_size k.sizes) (pictures k)

-- "a tick not above the one before, or over 65,536 from the first"
abbrev pub bad_tick : (ticks : List ℕ) → ℕ → Bool
bad_tick ticks zero = false
bad_tick ticks (suc i) = leb (get_or ticks (suc i) 0) (get_or ticks i 0) || ltb span_max (get_or ticks (suc i) 0 - get_or ticks 0 0)

abbrev pub tick_check : Recording → Judgement
tick_check k = first_fault refusal.tick (bad_tick k.ticks) (pictures k)

abbrev pub bad_rate : ℕ → Bool
bad_rate rate = outside 1 rate_max rate

abbrev pub rate_check : (rate : ℕ) → Judgement
rate_check rate = refuse_if (bad_rate rate) refusal.rate 0

abbrev pub rate_count_check : (rates : List ℕ) → Judgement
rate_count_check rates = refuse_if (outside 1 rows_max (length rates)) refusal.rate 0

-- the entry before entry i; 0 before the first
abbrev pub entry_before : (l : List ℕ) → ℕ → ℕ
entry_before l zero = 0
entry_before l (suc i) = get_or l i 0

-- "a rate out of range or not rising"
abbrev pub bad_rate_at : (rates : List ℕ) → ℕ → Bool
bad_rate_at rates i = bad_rate (get_or rates i 0) || leb (get_or rates i 0) (entry_before rates i)

abbrev pub rate_list_check : (rates : List ℕ) → Judgement
rate_list_check rates = first_fault refusal.rate (bad_rate_at rates) (length rates)

-- rates that are all in range and rise: a list that is not refused
pub record RatesWithin (rates : List ℕ) : Type 0 where
  pub some : (i : ℕ) → i < length rates → 1 ≤ get_or rates i 0
  pub small : (i : ℕ) → i < length rates → get_or rates i 0 ≤ rate_max
  pub rising : Rising rates (length rates)

-- "buffer B from 1 to 68,719,476,736 bits (2^36), start fullness F from 1 to B"
abbrev pub bad_bucket : (b f : ℕ) → Bool
bad_bucket b f = outside 1 bucket_max b || outside 1 b f

abbrev pub bucket_check : Bucket → Judgement
bucket_check u = refuse_if (bad_bucket u.buffer u.fullness) refusal.bucket 0

abbrev pub recording_faults : Recording → List Judgement
recording_faults k = pictures_check k ∷ lengths_check k ∷ clock_check k.ts k.nu ∷ size_check k ∷ tick_check k ∷ []

-- "Within 6, a count comes first, then the list"
abbrev pub rates_faults : (rates : List ℕ) → List Judgement
rates_faults rates = rate_count_check rates ∷ rate_list_check rates ∷ []

abbrev pub seconds_faults : Bucket → List Judgement
seconds_faults u = rate_check u.rate ∷ bucket_check u ∷ []

-- two lent lists, each with room for n entries from entry at on
abbrev pub room_faults : (l m : List ℕ) (at n : ℕ) → List Judgement
room_faults l m at n = room_check l at n ∷ room_check m at n ∷ []

abbrev pub verdict_faults : Recording → Bucket → List Judgement
verdict_faults k u = recording_faults k ++ seconds_faults u

abbrev pub schedule_faults : Recording → Bucket → (at : ℕ) (starts ends : List ℕ) → List Judgement
schedule_faults k u at starts ends = verdict_faults k u ++ room_faults starts ends at (pictures k)

abbrev pub least_faults : Recording → (rate : ℕ) → List Judgement
least_faults k rate = recording_faults k ++ (rate_check rate ∷ [])

abbrev pub table_faults : Recording → (rates : List ℕ) (at : ℕ) (buffers fullnesses : List ℕ) → List Judgement
table_faults k rates at buffers fullnesses =
    recording_faults k ++ (rates_faults rates ++ room_faults buffers fullnesses at (length rates))

-- "a table's own lists, differ in length"
abbrev pub table_lengths_check : Table → Judgement
table_lengths_check w =
    refuse_if
    (not (eqb (length w.buffers) (length w.rates)) || not (eqb (length w.fullnesses) (length w.rates)))
    refusal.lengths
    0

-- "TS, NU or span outside its range"
abbrev pub bad_span : (ts nu ticks : ℕ) → Bool
bad_span ts nu ticks = bad_clock ts nu || ltb span_max ticks

abbrev pub table_clock_check : Table → Judgement
table_clock_check w = refuse_if (bad_span w.ts w.nu w.ticks) refusal.clock 0

abbrev pub bad_row : (buffers fullnesses : List ℕ) → ℕ → Bool
bad_row buffers fullnesses i = bad_bucket (get_or buffers i 0) (get_or fullnesses i 0)

-- B or F of a row out of range, at the first such row
abbrev pub rows_check : Table → Judgement
rows_check w = first_fault refusal.bucket (bad_row w.buffers w.fullnesses) (length w.rates)

-- "then a single rate"
abbrev pub lookup_faults : Table → (r : ℕ) → List Judgement
lookup_faults w r =
    table_lengths_check w ∷ table_clock_check w ∷ (rates_faults w.rates ++ (rate_check r ∷ rows_check w ∷ []))
