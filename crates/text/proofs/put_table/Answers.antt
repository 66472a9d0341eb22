-- `text::put_table` meets its contract: what is left behind the header line are the lines of the rates.
-- Assumes nothing.
use native.Mathlib.Omega.{arith}
use lib.ListN.{length-append}
use Rattle.layout.specs.Text.{letters}
use Rattle.text.proofs.PutLaws.{left-all, left-then}
use Rattle.text.proofs.RowsLaws.{begun-none, begun-room, begun-more, begun-all, row-turn, row-end}
use Rattle.text.proofs.put_table.Goals as goal

pub loop-rate-init : goal.loop-rate-init
unfolding letters
loop-rate-init c = begun-none _ _ _ _ _ (omega arith)

pub put_row-end-requires : goal.put_row-end-requires
put_row-end-requires c =
    let turn = row-turn _ _ _ c.requires.1 c.requires.2 _ c.into_iter-rate-iterator.result _ c.next.new.self _ (cc) (cc) (cc) c.loop-rate.yielded_by c.next.ensures.steps _ c.in-Some.is in
    rw turn.1 at (begun-room _ _ _ _ _ _ _ _ c.loop-rate.invariant turn.0)

pub loop-rate-preserved : goal.loop-rate-preserved
loop-rate-preserved c =
    let turn = row-turn _ _ _ c.requires.1 c.requires.2 _ c.into_iter-rate-iterator.result _ c.next.new.self _ (cc) (cc) (cc) c.loop-rate.yielded_by c.next.ensures.steps _ c.in-Some.is in
    rw length-append (begun-more _ _ _ _ _ _ _ _ c.loop-rate.invariant turn.0 _ _ (rw turn.1 c.put_row-end.ensures))

pub returns : goal.returns
unfolding letters
returns c =
    let left = left-then (letters "rate buffer start\n") _ (left-all _ _ _ c.requires.0) _ _ c.put_bytes-end.ensures in
    let all = row-end _ _ _ c.requires.1 c.requires.2 _ c.into_iter-rate-iterator.result _ c.next.new.self _ (cc) (cc) (cc) c.loop-rate.yielded_by c.next.ensures.steps c.in-None.is in
    left.finish _ _ (begun-all _ _ _ _ _ _ _ _ c.loop-rate.invariant all)
