-- `print::put_sheet` meets its contract: the line of a refusal fits the room for a text.
-- Assumes nothing.
use native.Mathlib.Omega.{arith}
use borrow.Author.Rules.{rules}
use Rattle.rules.specs.Width.{Word}
use Rattle.layout.proofs.TextLaws.{refusal_line-fits}
use Rattle.print.proofs.put_sheet.Goals as goal

pub put_refusal-requires : goal.put_refusal-requires
put_refusal-requires c =
    let n : Word c.number.result = search rules in
    let i : Word c.place.result = search rules in
    omega (arith, refusal_line-fits _ _ n i)
