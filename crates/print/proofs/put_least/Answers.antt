-- `print::put_least` meets its contract: what was judged has a table, which is what `least::table` writes and `text::put_table` puts.
-- Assumes nothing.
use native.Mathlib.Nat.{le_of_eq}
use native.Mathlib.Omega.{arith}
use mathlib.Core.Path.{ap}
use lib.ListN.{length}
use Rattle.recording.specs.Given.{recording_of}
use Rattle.print.proofs.PrintLaws.{tables}
use Rattle.print.proofs.put_least.Goals as goal

pub unwrap-requires : goal.unwrap-requires
unwrap-requires c = (tables (recording_of c.args.recording) c.args.rates.now c.requires.0 c.requires.1 c.requires.2 _ _ _ c.table.ensures).given

pub put_table-requires : goal.put_table-requires
put_table-requires c =
    let t = tables (recording_of c.args.recording) c.args.rates.now c.requires.0 c.requires.1 c.requires.2 _ _ _ c.table.ensures in
    (omega (arith, ap length t.text, t.fits), le_of_eq t.buffers_fit.1, le_of_eq t.fullnesses_fit.1)
