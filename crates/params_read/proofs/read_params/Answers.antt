-- `params_read::read_params` meets its contract: behind the count stand the fields of its rows, and the record has the values that were read.
-- Assumes nothing.
use Prim.Native.Nat.{ℕ, suc, ◌+◌, ◌-◌}
use native.Mathlib.Numerals.{add-one}
use native.Mathlib.Omega.{arith}
use mathlib.Core.Path.{◌≡◌, sym, ap, ◌∙◌}
use mathlib.Core.List.{List, [], ◌∷◌}
use Rattle.std.specs.Prelude.{Result, Ok}
use Rattle.terms.specs.Answers.{given}
use Rattle.coding.specs.Codes.{Bits, bits_of, read_code}
use Rattle.coding.specs.Fields as fields
use Rattle.coding.specs.Fields.{cpb_cnt_minus1, fields_after_count, read_on, read_fields}
use Rattle.coding.specs.Params.{params_with, params_reading, read_answer}
use Rattle.bits_read.specs.declared.Code.{Code}
use Rattle.params.specs.declared.Field.{Field}
use Rattle.params.specs.Steps.{field_of}
use Rattle.params_read.specs.declared.FieldFault.{FieldFault}
use Rattle.params_read.specs.Steps.{field_step}
use Rattle.params_read.proofs.ReadLaws.{on_step, read_on-step, read_fields-first}
use Rattle.params_read.proofs.read_params.Goals as goal

-- what follows a count less 1
abbrev rest : Bits → (c next : ℕ) → fields.FieldsRead
rest x c next = read_fields x (fields_after_count (suc c)) (c ∷ []) next

found : (x : Bits) (start : ℕ) (field : Field) (step : Result Code FieldFault) (count : Code) (all : List ℕ) (next : ℕ) → field_of field ≡ cpb_cnt_minus1
    → step ≡ field_step x field 0 start → step ≡ Ok count
    → fields.done all next ≡ read_fields x (fields_after_count (count.value + 1)) ((count.value + 1 - 1) ∷ []) count.next
    → record { answer = given next; params = params_with (count.value + 1) all } ≡ read_answer (params_reading x start)
found x start field step count all next same read was went =
    let back : count.value + 1 - 1 ≡ count.value = omega arith in
    let behind : fields.done all next ≡ rest x count.value count.next = rw (back, add-one) at went in
    let counted : rest x count.value count.next ≡ params_reading x start =
    ap (λ s. on_step s (rest x)) (sym was ∙ read) ∙ sym (read_on-step field [] start _ (rest x))
    ∙ ap (λ (g : fields.Field). read_on g [] start (read_code x g.code start) (rest x)) same in
    ap (λ n. record { answer = given next; params = params_with (n + 1) all }) (sym (read_fields-first x _ count.value [] count.next all next (sym behind)))
    ∙ ap read_answer (behind ∙ counted)

pub returns : goal.returns
returns c =
    ap (λ p. record { answer = given c.in_ok-next.next; params = p }) c.params_of.ensures
    ∙ found (bits_of c.args.bytes.now) _ _ _ _ _ _ c.field_at.ensures c.read_field.ensures c.in_ok-count.was c.in_ok-next.ensures
