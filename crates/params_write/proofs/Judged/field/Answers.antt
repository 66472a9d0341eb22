-- `params_write::Judged::field` meets its contract: in a record that passes each value is in its field's range.
-- Assumes nothing.
use Rattle.params.specs.Outcome.{params_of}
use Rattle.params_write.proofs.WriteLaws.{field-ready}
use Rattle.params_write.proofs.Judged.field.Goals as goal

pub invariant_of-result : goal.invariant_of-result
invariant_of-result c =
    let j = c.args.self.now in
    record { in_range = field-ready (params_of j.params) c.args.f c.requires _ _ (c.field_at.ensures, c.value_at.ensures) j.judged }
