-- `lookup::look_up` meets its contract: a table that passes is ready for both figures.
-- Assumes nothing.
use Rattle.judgement.proofs.Steps.{passes}
use Rattle.lookup.specs.Given.{table_of}
use Rattle.lookup.proofs.JudgeLaws.{lookup-rate-some, axis-ready, buffers-ready, fullnesses-ready}
use Rattle.lookup.proofs.look_up.Goals as goal

pub invariant_of-axis : goal.invariant_of-axis
invariant_of-axis c = record { ready = axis-ready (table_of c.args.table) c.args.rate (passes _ _ c.judge.ensures c.in_ok-judge.was) }

pub figure-requires : goal.figure-requires
figure-requires c =
    let ok = passes _ _ c.judge.ensures c.in_ok-judge.was in
    (buffers-ready (table_of c.args.table) c.args.rate ok, c.row_at-row.ensures, lookup-rate-some (table_of c.args.table) c.args.rate ok)

pub figure-requires-2 : goal.figure-requires-2
figure-requires-2 c =
    let ok = passes _ _ c.judge.ensures c.in_ok-judge.was in
    (fullnesses-ready (table_of c.args.table) c.args.rate ok, c.row_at-row.ensures, lookup-rate-some (table_of c.args.table) c.args.rate ok)
