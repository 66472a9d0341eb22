-- `params::field_at` meets its contract: behind the first three, the field of a row or a length stands at its place (FieldAtLaws).
-- Assumes nothing.
use mathlib.Core.Path.{sym, ◌∙◌}
use borrow.Author.Rules.{rules}
use Rattle.params.proofs.FieldAtLaws.{field-row, field-tail}
use Rattle.params.proofs.field_at.Goals as goal

pub returns-in_default : goal.returns-in_default
returns-in_default c = c.row_field.ensures ∙ sym (field-row c.args.n _ (search rules) c.if-f-n.true)

pub returns-in_default-2 : goal.returns-in_default-2
returns-in_default-2 c = c.alone-in_default-2.ensures ∙ sym (field-tail c.args.n _ c.if-f-n.false c.requires.1)
