-- Reading one field.
--     after_code    what follows a field's code: the value is judged
--     field_step    reading one field
-- Assumes nothing.
use Rattle.std.specs.Prelude.{ℕ, cond, Result, Ok, Err}
use Rattle.coding.specs.Codes.{Bits, Read, got, ended, broken, read_code}
use Rattle.bits_read.specs.declared.Code.{Code}
use Rattle.params.specs.Steps.{code_of, field_of, kept_by}
use Rattle.params.specs.declared.Field.{Field}
use Rattle.params_read.specs.declared.FieldFault.{FieldFault}
use Rattle.params_read.specs.declared.FieldFault.TheVariants.{Short, Broken}

abbrev pub after_code : Field → (before p : ℕ) → Read → Result Code FieldFault
after_code f before p (got v next) = cond (kept_by (field_of f) before v) (Ok (record { value = v; next = next })) (Err (Broken p f.row))
after_code f before p (ended first) = Err (Short first)
after_code f before p (broken first) = Err (Broken first f.row)

abbrev pub field_step : Bits → Field → (before p : ℕ) → Result Code FieldFault
field_step x f before p = after_code f before p (read_code x (code_of f.code) p)
