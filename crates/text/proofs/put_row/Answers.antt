-- `text::put_row` meets its contract: of the whole line, what is left after each call is what the calls behind it put.
-- Assumes nothing.
use Rattle.layout.specs.Text.{letters, decimal}
use Rattle.text.proofs.PutLaws.{left-all, left-then}
use Rattle.text.proofs.put_row.Goals as goal

pub returns : goal.returns
unfolding letters
returns c =
    let left-1 = left-then (decimal c.args.rate) _ (left-all _ _ _ c.requires) _ _ c.put_decimal-rated.ensures in
    let left-2 = left-then (letters " ") _ left-1 _ _ c.put_bytes-second.ensures in
    let left-3 = left-then (decimal c.args.buffer) _ left-2 _ _ c.put_decimal-buffered.ensures in
    let left-4 = left-then (letters " ") _ left-3 _ _ c.put_bytes-third.ensures in
    let left-5 = left-then (decimal c.args.fullness) _ left-4 _ _ c.put_decimal-filled.ensures in
    left-5.finish _ _ c.put_bytes.ensures
