-- `judging::judge_sizes` meets its contract: `position` gives the first size that is refused, or there is none.
--     Refused, Passed    what the test says of a size
-- Assumes nothing.
use Prim.Native.Nat.{ℕ, zero-le}
use native.Mathlib.Nat.{le_refl}
use mathlib.Core.Path.{◌≡◌}
use mathlib.Core.Bool.{true, false}
use borrow.Author.Rules.{rules}
use borrow.Author.Tests.{tests}
use Rattle.std.proofs.lemmas.Iterator.{IsFirst-from_position, YieldsList-from_slice}
use Rattle.rules.specs.Limits.{size_max}
use Rattle.terms.specs.Numbers.{outside}
use Rattle.judging.proofs.Places.{first_met, none_met}
use Rattle.judging.proofs.judge_sizes.Goals as goal

abbrev Refused : ℕ → Type 0
Refused size = outside 1 size_max size ≡ true

abbrev Passed : ℕ → Type 0
Passed size = outside 1 size_max size ≡ false

pub returns-in-Some : goal.returns-in-Some
returns-in-Some c =
    let place = IsFirst-from_position _ _ c.position.result Refused Passed c.position.ensures.ran (YieldsList-from_slice c.args.sizes.now (cc)) (λ x q k. search (rules, tests)) (λ x q k. search (rules, tests)) in
    let first = rw c.in-Some.is at place in
    first_met _ (λ j h. first.2 j 0 zero-le h) first.0 (first.1 0)

pub returns-in-None : goal.returns-in-None
returns-in-None c =
    let place = IsFirst-from_position _ _ c.position.result Refused Passed c.position.ensures.ran (YieldsList-from_slice c.args.sizes.now (cc)) (λ x q k. search (rules, tests)) (λ x q k. search (rules, tests)) in
    let none = rw c.in-None.is at place in
    none_met _ (λ j h. none j 0 zero-le h) (le_refl _)
