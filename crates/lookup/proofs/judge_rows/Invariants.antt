-- `lookup::judge_rows` meets its contract. The loop's invariant: no row passed is at fault. Assumes nothing.
use Rattle.terms.specs.Answers.{NoneBad}
use Rattle.model.specs.Faults.{bad_row}
use Rattle.lookup.proofs.judge_rows.Given as goal

abbrev pub invariant-loop-i : goal.invariant-loop-i
invariant-loop-i l = NoneBad (bad_row l.buffers l.fullnesses) l.i
