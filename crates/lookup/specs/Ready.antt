-- What the inner functions ask of a table that was judged, and of a row of it.
--     AxisReady      rates that rise within their range, a clock and a span in range
--     ColumnReady    one figure in range for each of n rows
--     LastAt         the last row whose rate is at most r, if any
-- Assumes nothing.
use Rattle.std.specs.Prelude.{ℕ, ◌≤◌, ◌<◌, ◌≡◌, Option, None, Some, List, length, get_or}
use Rattle.rules.specs.Limits.{bucket_max, nu_max, span_max, ts_max}
use Rattle.model.specs.Lookup.{Axis}
use Rattle.model.specs.Faults.{RatesWithin}

pub record AxisReady (a : Axis) : Type 0 where
  pub some : 1 ≤ length a.rates
  pub rated : RatesWithin a.rates
  pub ticking : 1 ≤ a.ts
  pub scale : a.ts ≤ ts_max
  pub units : a.nu ≤ nu_max
  pub near : a.ticks ≤ span_max

pub record ColumnReady (n : ℕ) (xs : List ℕ) : Type 0 where
  pub paired : length xs ≡ n
  pub small : (i : ℕ) → i < length xs → get_or xs i 0 ≤ bucket_max

abbrev pub LastAt : (rates : List ℕ) (r : ℕ) → Option ℕ → Type 0
LastAt rates r None = (j : ℕ) → j < length rates → r < get_or rates j 0
LastAt rates r (Some a) = (a < length rates) × (get_or rates a 0 ≤ r) × ((j : ℕ) → a < j → j < length rates → r < get_or rates j 0)
