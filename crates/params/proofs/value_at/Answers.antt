-- `params::value_at` meets its contract: the place behind the first three values gives a row and a column, or one of the four lengths
-- (BackLaws.value-row, BackLaws.value-tail). Assumes nothing.
use mathlib.Core.Path.{sym}
use borrow.Author.Rules.{rules}
use Rattle.coding.proofs.BackLaws.{value-row, value-tail}
use Rattle.params.specs.Outcome.{params_of}
use Rattle.params.proofs.value_at.Goals as goal

pub returns-in-0-2 : goal.returns-in-0-2
returns-in-0-2 c = sym (value-row (params_of c.args.params.now) c.args.f _ 0 (search rules) (search rules) (search rules))

pub returns-in-1-2 : goal.returns-in-1-2
returns-in-1-2 c = sym (value-row (params_of c.args.params.now) c.args.f _ 1 (search rules) (search rules) (search rules))

pub returns-in_default-3 : goal.returns-in_default-3
returns-in_default-3 c = sym (value-row (params_of c.args.params.now) c.args.f _ 2 (search rules) (search rules) (search rules))

pub returns-in-0-3 : goal.returns-in-0-3
returns-in-0-3 c = sym (value-tail (params_of c.args.params.now) c.args.f 0 (search rules))

pub returns-in-1-3 : goal.returns-in-1-3
returns-in-1-3 c = sym (value-tail (params_of c.args.params.now) c.args.f 1 (search rules))

pub returns-in-2-2 : goal.returns-in-2-2
returns-in-2-2 c = sym (value-tail (params_of c.args.params.now) c.args.f 2 (search rules))

pub returns-in_default-4 : goal.returns-in_default-4
returns-in_default-4 c = sym (value-tail (params_of c.args.params.now) c.args.f 3 (search rules))
