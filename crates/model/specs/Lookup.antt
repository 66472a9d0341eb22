-- Looking up a rate in a table (document 01, under that heading).
--     Axis         the rates of a table's rows, with the clock and span that a lookup takes: what a column is looked up by
--     Table        rows of rate, buffer and fullness, with that clock and span
--     axis_of      a table's axis
--     rows_up_to   the number of the last row, counted from 1, whose rate is at most r; 0 for none
--     Spot         where a rate lies: below the first row, on a row, between a row and the next, above the last
--     spot_of      the spot of a rate
--     growth       by how much both figures grow below the first row
--     blend        between two rows: interpolated straight and rounded up
--     figure_at    the figure X at a rate, for X = B and X = F
--     lookup_of    both figures, as a bucket
-- In a table that is not refused every difference of rates below is of a higher and a lower one, so that no subtraction stops at 0.
-- Laws: proofs/LookupLaws.antt. Assumes nothing.
use Rattle.std.specs.Prelude.{ℕ, zero, suc, ◌+◌, ◌-◌, ◌*◌, cond, List, leb, eqb, length, get_or}
use Rattle.terms.specs.Numbers.{round_up}
use Rattle.model.specs.Arrival.{Bucket, bucket}

pub record Axis : Type 0 where
  pub rates : List ℕ
  pub ts : ℕ
  pub nu : ℕ
  pub ticks : ℕ

abbrev pub axis : (rates : List ℕ) (ts nu ticks : ℕ) → Axis
axis rates ts nu ticks = record { rates = rates; ts = ts; nu = nu; ticks = ticks }

pub record Table : Type 0 where
  pub rates : List ℕ
  pub buffers : List ℕ
  pub fullnesses : List ℕ
  pub ts : ℕ
  pub nu : ℕ
  pub ticks : ℕ

abbrev pub table : (rates buffers fullnesses : List ℕ) (ts nu ticks : ℕ) → Table
table rates buffers fullnesses ts nu ticks =
    record { rates = rates; buffers = buffers; fullnesses = fullnesses; ts = ts; nu = nu; ticks = ticks }

abbrev pub axis_of : Table → Axis
axis_of w = axis w.rates w.ts w.nu w.ticks

unfoldable pub rows_up_to : (rates : List ℕ) (r n : ℕ) → ℕ
rows_up_to rates r zero = 0
rows_up_to rates r (suc n) = cond (leb (get_or rates n 0) r) (suc n) (rows_up_to rates r n)

pub data Spot : Type 0 where
  below : Spot
  on : (row : ℕ) → Spot
  between : (row : ℕ) → Spot
  above : Spot

-- the spot, from the last row at or below r
abbrev pub spot_after : (rates : List ℕ) (r row : ℕ) → Spot
spot_after rates r zero = below
spot_after rates r (suc a) = cond (eqb (get_or rates a 0) r) (on a) (cond (eqb (suc a) (length rates)) above (between a))

abbrev pub spot_of : (rates : List ℕ) (r : ℕ) → Spot
spot_of rates r = spot_after rates r (rows_up_to rates r (length rates))

-- "(R1 - r) x NU x span / TS, rounded up"
abbrev pub growth : Axis → (r : ℕ) → ℕ
growth a r = round_up ((get_or a.rates 0 0 - r) * a.nu * a.ticks) a.ts

-- "(Xa x (Rb - r) + Xb x (r - Ra)) / (Rb - Ra), rounded up"
abbrev pub blend : (ra rb xa xb r : ℕ) → ℕ
blend ra rb xa xb r = round_up (xa * (rb - r) + xb * (r - ra)) (rb - ra)

-- "On a row: that row." "Below the first row: both figures grow by" "Above the last row: the last row's figures."
abbrev pub figure_on : Axis → (xs : List ℕ) (r : ℕ) → Spot → ℕ
figure_on a xs r below = get_or xs 0 0 + growth a r
figure_on a xs r (on i) = get_or xs i 0
figure_on a xs r (between i) = blend (get_or a.rates i 0) (get_or a.rates (suc i) 0) (get_or xs i 0) (get_or xs (suc i) 0) r
figure_on a xs r above = get_or xs (length a.rates - 1) 0

abbrev pub figure_at : Axis → (xs : List ℕ) (r : ℕ) → ℕ
figure_at a xs r = figure_on a xs r (spot_of a.rates r)

abbrev pub lookup_of : Table → (r : ℕ) → Bucket
lookup_of w r = bucket r (figure_at (axis_of w) w.buffers r) (figure_at (axis_of w) w.fullnesses r)
