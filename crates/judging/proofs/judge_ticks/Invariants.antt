-- `judging::judge_ticks` meets its contract. The loop's invariant: none of the ticks passed is at fault, and none lies below the first.
-- Assumes nothing.
use Prim.Native.Nat.{◌-◌, ◌≤◌}
use lib.ListN.{get_or}
use Rattle.terms.specs.Answers.{NoneBad}
use Rattle.model.specs.Faults.{bad_tick}
use Rattle.judging.proofs.judge_ticks.Given as goal

abbrev pub invariant-loop-i : goal.invariant-loop-i
invariant-loop-i l = (get_or l.ticks 0 0 ≤ get_or l.ticks (l.i - 1) 0) × NoneBad (bad_tick l.ticks) l.i
