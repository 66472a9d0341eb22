-- `judging::judge_rate_list` meets its contract. The loop's invariant: none of the rates passed is at fault, and `before` is the last one.
-- Assumes nothing.
use mathlib.Core.Path.{◌≡◌}
use Rattle.terms.specs.Answers.{NoneBad}
use Rattle.model.specs.Faults.{entry_before, bad_rate_at}
use Rattle.judging.proofs.judge_rate_list.Given as goal

abbrev pub invariant-loop-i : goal.invariant-loop-i
invariant-loop-i l = (l.before ≡ entry_before l.rates l.i) × NoneBad (bad_rate_at l.rates) l.i
