-- `judging::judge_rate_list` meets its contract: a rate that is refused is the first, and at the end of the list there was none.
-- Assumes nothing.
use mathlib.Core.Path.{sym, ◌∙◌}
use mathlib.Core.Logic.{⊎_map}
use borrow.Author.Tests.{le-leb}
use Rattle.judging.proofs.Places.{first_met, none_met, either}
use Rattle.judging.proofs.judge_rate_list.Goals as goal

pub returns-then-is_bad_rate : goal.returns-then-is_bad_rate
returns-then-is_bad_rate c =
    let (last, none) = c.loop-i.invariant in
    let rate = sym c.is_bad_rate.ensures in
    first_met _ none c.loop-i-test.true
    (either (⊎_map (λ bad. rate ∙ bad) (λ low. (rate ∙ low.0, rw (← last) (le-leb _ _ low.1))) c.then-is_bad_rate.either))

pub returns : goal.returns
returns c = none_met _ c.loop-i.invariant.1 c.loop-i-test.false
