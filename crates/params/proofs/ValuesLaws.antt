-- The values of a record, as the loops over its fields meet them. Definitions: coding/specs/Fields.antt, coding/specs/Params.antt, specs/Steps.antt.
--     At                             a field of a record and its value, as the code has them
--     within-fields, within-values   its number is below that of the fields, and of the values
-- Where each value stands: coding/proofs/BackLaws.antt. Assumes nothing.
use Prim.Native.Nat.{ℕ, ◌+◌, ◌*◌, ◌<◌}
use native.Mathlib.Omega.{arith}
use mathlib.Core.Path.{◌≡◌}
use lib.ListN.{length, get_or}
use Rattle.coding.specs.Fields.{cpb_cnt_minus1, fields_of}
use Rattle.coding.specs.Params.{Params, values_of}
use Rattle.coding.proofs.BackLaws.{values_of-length}
use Rattle.params.specs.Steps.{field_of}
use Rattle.params.specs.declared.Field as code
use Rattle.params.proofs.FieldAtLaws.{fields_of-length}

-- field number f of a record and its value, as the code has them
pub record At (p : Params) (f : ℕ) (field : code.Field) (v : ℕ) : Type 0 where
  pub within : f < 3 + 3 * p.cpb_cnt + 4
  pub is : field_of field ≡ get_or (fields_of p.cpb_cnt) f cpb_cnt_minus1
  pub value : v ≡ get_or (values_of p) f 0

module _ (p : Params) (f : ℕ) (field : code.Field) (v : ℕ) (at : At p f field v) where
  pub within-fields : f < length (fields_of p.cpb_cnt)
  within-fields = omega (arith, fields_of-length p.cpb_cnt, at.within)

  pub within-values : f < length (values_of p)
  within-values = omega (arith, values_of-length p, at.within)
