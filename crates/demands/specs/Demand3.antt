-- Demand 3 about the planner's own answers, as propositions. Proved in proofs/Demand3.antt.
--     LeastRow         a row of a table that holds the recording's least figures, by the planner's own `least`
--     Between          a bucket that holds by the planner's own verdict, and exceeds each of its own least figures by less than the allowance
--     Demand3Answers   so does what is looked up between two neighbouring rows of least figures, whatever the other rows are
--     Demand3Table     so does what is looked up in a table that the planner's own `table` wrote
-- Assumes nothing.
use Rattle.std.specs.Prelude.{ℕ, suc, ◌-◌, ◌≤◌, ◌<◌, ◌≡◌, List, length, get_or, Result, Ok}
use Rattle.model.specs.Recording.{Recording, span}
use Rattle.model.specs.Arrival.{bucket}
use Rattle.model.specs.Lookup.{Table, table}
use Rattle.model.specs.Demands.{Allowed}
use Rattle.judgement.specs.declared.Refusal.{Refusal}
use Rattle.schedule.specs.Promises.{VerdictPromise}
use Rattle.schedule.specs.declared.Verdict.TheVariants.{Holds}
use Rattle.least.specs.Promises.{LeastPromise, TablePromise}
use Rattle.lookup.specs.Promises.{LookupPromise}
use Rattle.recording.specs.declared.Bucket.{Bucket}
use Rattle.demands.specs.Given.{figures}

abbrev pub LeastRow : Recording → Table → (i : ℕ) → Type 0
LeastRow k w i = LeastPromise k (get_or w.rates i 0) (figures (get_or w.rates i 0) (get_or w.buffers i 0) (get_or w.fullnesses i 0))

-- "r from a to b: buffer and fullness interpolated straight and rounded up hold the recording at r, and each exceeds the least figure at r by
-- less than 2 bits plus the duration in seconds (first removal to last) times (r-a)(b-r)/(b-a), in exact arithmetic."
pub record Between (k : Recording) (ra rb r b f : ℕ) : Type 0 where
  pub least_b : ℕ
  pub least_f : ℕ
  pub least : LeastPromise k r (figures r least_b least_f)
  pub holds : VerdictPromise k (bucket r b f) (Ok Holds)
  pub enough_b : least_b ≤ b
  pub enough_f : least_f ≤ f
  pub tight_b : Allowed k ra rb r (b - least_b)
  pub tight_f : Allowed k ra rb r (f - least_f)

-- "two neighbouring rows, rates a < b, both with the least figures of one recording": the other rows, and the table's clock and span, may be
-- anything that is not refused
abbrev pub Demand3Answers : Type 0
Demand3Answers =
    (k : Recording) (w : Table) (i r b f : ℕ) → suc i < length w.rates → LeastRow k w i → LeastRow k w (suc i)
    → get_or w.rates i 0 ≤ r → r ≤ get_or w.rates (suc i) 0 → LookupPromise w r (figures r b f)
    → Between k (get_or w.rates i 0) (get_or w.rates (suc i) 0) r b f

-- a lookup in such a table is not refused
abbrev pub Demand3Table : Type 0
Demand3Table =
    (k : Recording) (rates l m buffers fullnesses : List ℕ) → length l ≡ length rates → length m ≡ length rates
    → TablePromise k rates 0 l m (Ok tt) buffers fullnesses → (i r : ℕ) → suc i < length rates
    → get_or rates i 0 ≤ r → r ≤ get_or rates (suc i) 0 → (a : Result Bucket Refusal)
    → LookupPromise (table rates buffers fullnesses k.ts k.nu (span k)) r a
    → (b : ℕ) × (f : ℕ) × (a ≡ figures r b f) × Between k (get_or rates i 0) (get_or rates (suc i) 0) r b f
