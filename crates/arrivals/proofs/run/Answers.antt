-- `arrivals::run` meets its contract. The loop's invariant: the line is free from the last end on, what was seen is the verdict on the pictures
-- passed, and both lists are filled with their starts and ends. Assumes nothing.
use native.Mathlib.Omega.{arith}
use Rattle.terms.proofs.FilledLaws.{filled-none, filled-more}
use Rattle.arrivals.proofs.RunLaws.{begun, rises, end-fit, arrives, next}
use Rattle.arrivals.proofs.run.Goals as goal

pub loop-i-init : goal.loop-i-init
loop-i-init c = (
  begun _ _ c.args.judged.within c.args.judged_bucket.within,
  filled-none _ _,
  filled-none _ _,
)

pub overflow_sub-ticks : goal.overflow_sub-ticks
overflow_sub-ticks c = rises c.loop-i.invariant.0 (omega arith)

pub arrive-a-requires : goal.arrive-a-requires
arrive-a-requires c = end-fit c.loop-i.invariant.0 (omega arith)

pub loop-i-preserved : goal.loop-i-preserved
loop-i-preserved c =
    let (running, starts, ends) = c.loop-i.invariant in
    let a = arrives running c.arrive-a.ensures in (
      next running (omega arith) a c.noted-seen.ensures,
      filled-more starts c.store.ensures a.start,
      filled-more ends c.store-in-loop-i.ensures a.end,
    )
