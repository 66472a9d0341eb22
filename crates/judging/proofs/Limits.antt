-- What passes keeps its limits.
--     rate-within      a rate
--     rates-within     a list of rates
--     bucket-within    a bucket at its rate
-- Assumes nothing.
use Prim.Native.Nat.{ℕ, ◌≤◌}
use mathlib.Core.Path.{◌≡◌}
use mathlib.Core.List.{List}
use Rattle.rules.specs.Limits.{rate_max, bucket_max}
use Rattle.rules.specs.Refusals as refusal
use Rattle.terms.specs.Answers.{passed, lowest}
use Rattle.terms.proofs.NumbersLaws.{or-false, outside-false}
use Rattle.terms.proofs.AnswersLaws.{refuse_if-passed, lowest-passed}
use Rattle.model.specs.Arrival.{Bucket}
use Rattle.model.specs.Faults.{RatesWithin, rate_check, rates_faults, seconds_faults}
use Rattle.model.proofs.FaultsLaws.{rate_list-within}

pub rate-within : (rate : ℕ) → rate_check rate ≡ passed → rate ≤ rate_max
rate-within rate pass = ((outside-false 1 rate_max rate).0 ((refuse_if-passed _ refusal.rate 0).0 pass)).1

pub rates-within : (rates : List ℕ) → lowest (rates_faults rates) ≡ passed → RatesWithin rates
rates-within rates pass = (rate_list-within rates).0 ((lowest-passed (rates_faults rates)).0 pass).1.0

pub bucket-within : (u : Bucket) → lowest (seconds_faults u) ≡ passed → (u.rate ≤ rate_max) × (u.buffer ≤ bucket_max) × (u.fullness ≤ u.buffer)
bucket-within u pass =
    let each = (lowest-passed (seconds_faults u)).0 pass in
    let figures = (or-false _ _).0 ((refuse_if-passed _ refusal.bucket 0).0 each.1.0) in (
      rate-within u.rate each.0,
      ((outside-false 1 bucket_max u.buffer).0 figures.0).1,
      ((outside-false 1 u.buffer u.fullness).0 figures.1).1,
    )
