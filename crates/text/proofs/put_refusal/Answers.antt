-- `text::put_refusal` meets its contract: of the whole line, what is left after each call is what the calls behind it put.
-- Assumes nothing.
use Rattle.layout.specs.Text.{letters, decimal}
use Rattle.text.proofs.PutLaws.{left-all, left-then}
use Rattle.text.proofs.put_refusal.Goals as goal

pub returns : goal.returns
unfolding letters
returns c =
    let left-1 = left-then (letters "refused ") _ (left-all _ _ _ c.requires) _ _ c.put_bytes-refused.ensures in
    let left-2 = left-then (decimal c.args.number) _ left-1 _ _ (rw c.from.ensures at c.put_decimal-numbered.ensures) in
    let left-3 = left-then (letters " at ") _ left-2 _ _ c.put_bytes-at.ensures in
    let left-4 = left-then (decimal c.args.place) _ left-3 _ _ c.put_decimal-placed.ensures in
    left-4.finish _ _ c.put_bytes.ensures
