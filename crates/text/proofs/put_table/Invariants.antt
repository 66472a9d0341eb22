-- The lines of the rates passed so far are put behind the header line.
use lib.ListN.{length}
use Rattle.text.proofs.RowsLaws.{Begun}
use Rattle.text.proofs.put_table.Given as goal

abbrev pub invariant-loop-rate : goal.invariant-loop-rate
invariant-loop-rate l = Begun l.rates l.buffers l.fullnesses l.initial.text l.initial.end l.text l.end (length l.yielded)
