-- One field at a time: what the code says of a field, in the terms of coding/specs/Fields.antt.
--     code_of     a code
--     width_of    the width of u(n), and 0 of ue(v)
--     rule_of     a rule
--     stand_of    a row, or none
--     field_of    the code's field
--     row_field   field number column of a row
--     kept_by     a value keeps its field's range and rule, after the same field of the row before
-- Assumes nothing.
use Rattle.std.specs.Prelude.{ℕ, zero, suc, Bool, ◌&&◌, leb, Option, Some, None}
use Rattle.coding.specs.Codes as codes
use Rattle.coding.specs.Fields as fields
use Rattle.params.specs.declared.Code.{Code}
use Rattle.params.specs.declared.Code.TheVariants as code
use Rattle.params.specs.declared.Field.{Field}
use Rattle.params.specs.declared.Rule.{Rule}
use Rattle.params.specs.declared.Rule.TheVariants as rule

abbrev pub code_of : Code → codes.Code
code_of (code.Unsigned w) = codes.u w
code_of code.ExpGolomb = codes.ue

abbrev pub width_of : codes.Code → ℕ
width_of (codes.u w) = w
width_of codes.ue = 0

abbrev pub rule_of : Rule → fields.Rule
rule_of rule.Free = fields.free
rule_of rule.Rises = fields.rises
rule_of rule.DoesNotRise = fields.does_not_rise

abbrev pub stand_of : (row : Option ℕ) → fields.Stand
stand_of None = fields.alone
stand_of (Some row) = fields.in_row row

abbrev pub field_of : Field → fields.Field
field_of f = fields.field (code_of f.code) f.most (rule_of f.rule) (stand_of f.row)

abbrev pub row_field : (row column : ℕ) → fields.Field
row_field row zero = fields.bit_rate_value_minus1 row
row_field row (suc zero) = fields.cpb_size_value_minus1 row
row_field row (suc (suc c)) = fields.cbr_flag row

abbrev pub kept_by : fields.Field → (before v : ℕ) → Bool
kept_by f before v = leb v f.most && fields.keeps_rule f.rule before v
