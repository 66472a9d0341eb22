-- Two answers that the promise allows are equal, and no two values of this crate's types say the same. Promise: specs/Promises.antt.
--     params_of-one     of a record
--     field_of-one      of a field
--     record-unique
-- Assumes nothing.
use Prim.Native.Nat.{ℕ}
use mathlib.Core.Path.{◌≡◌, refl, sym, ap, ◌∙◌}
use Rattle.std.specs.Prelude.{Option, Some, None, Result}
use Rattle.coding.specs.Codes as codes
use Rattle.coding.specs.Fields as fields
use Rattle.coding.specs.Params as params
use Rattle.judgement.specs.declared.Refusal.{Refusal}
use Rattle.judgement.proofs.Unique.{judgement_of-one}
use Rattle.params.specs.Outcome.{params_of}
use Rattle.params.specs.Steps.{code_of, rule_of, stand_of, field_of}
use Rattle.params.specs.Promises.{RecordPromise}
use Rattle.params.specs.declared.Code.{Code}
use Rattle.params.specs.declared.Code.TheVariants as code
use Rattle.params.specs.declared.Field.{Field}
use Rattle.params.specs.declared.Params.{Params}
use Rattle.params.specs.declared.Rule.{Rule}
use Rattle.params.specs.declared.Rule.TheVariants as rule

-- the record that means p
abbrev code_params : params.Params → Params
code_params p =
    record {
      cpb_cnt = p.cpb_cnt;
      bit_rate_scale = p.bit_rate_scale;
      cpb_size_scale = p.cpb_size_scale;
      bit_rate_value_minus1 = p.bit_rate_value_minus1;
      cpb_size_value_minus1 = p.cpb_size_value_minus1;
      cbr_flag = p.cbr_flag;
      initial_cpb_removal_delay_length_minus1 = p.initial_cpb_removal_delay_length_minus1;
      cpb_removal_delay_length_minus1 = p.cpb_removal_delay_length_minus1;
      dpb_output_delay_length_minus1 = p.dpb_output_delay_length_minus1;
      time_offset_length = p.time_offset_length;
    }

pub params_of-one : (v w : Params) → params_of v ≡ params_of w → v ≡ w
params_of-one v w e = ap code_params e

-- the field that means f
code_code : codes.Code → Code
code_code (codes.u w) = code.Unsigned w
code_code codes.ue = code.ExpGolomb

code_rule : fields.Rule → Rule
code_rule fields.free = rule.Free
code_rule fields.rises = rule.Rises
code_rule fields.does_not_rise = rule.DoesNotRise

code_row : fields.Stand → Option ℕ
code_row fields.alone = None
code_row (fields.in_row row) = Some row

code_field : fields.Field → Field
code_field f = record { code = code_code f.code; most = f.most; rule = code_rule f.rule; row = code_row f.stand }

code_code-back : (c : Code) → code_code (code_of c) ≡ c
unfolding code_code
code_code-back (code.Unsigned w) = refl
code_code-back code.ExpGolomb = refl

code_rule-back : (r : Rule) → code_rule (rule_of r) ≡ r
unfolding code_rule
code_rule-back rule.Free = refl
code_rule-back rule.Rises = refl
code_rule-back rule.DoesNotRise = refl

code_row-back : (row : Option ℕ) → code_row (stand_of row) ≡ row
unfolding code_row
code_row-back None = refl
code_row-back (Some row) = refl

code_field-back : (f : Field) → code_field (field_of f) ≡ f
unfolding code_field
code_field-back f = rw (code_code-back f.code, code_rule-back f.rule, code_row-back f.row)

pub field_of-one : (v w : Field) → field_of v ≡ field_of w → v ≡ w
field_of-one v w e = sym (code_field-back v) ∙ ap code_field e ∙ code_field-back w

pub record-unique : (p : Params) (v w : Result (Unit {0}) Refusal) → RecordPromise p v → RecordPromise p w → v ≡ w
record-unique p v w a b = judgement_of-one v w (a ∙ sym b)
