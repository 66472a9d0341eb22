-- Reading goes on after a field as its step says. Definitions: coding/specs/Fields.antt, specs/Outcome.antt, specs/Steps.antt.
--     on_step                          what follows a step: reading goes on, or ends at a fault where the field stands
--     read_on-step, read_fields-step   a field read is its step, and what follows it
--     read_fields-first                what reading some fields adds stands behind the first value
-- Assumes nothing.
use Prim.Native.Nat.{ℕ}
use native.Mathlib.Omega.{arith}
use mathlib.Core.Path.{◌≡◌, refl, ap}
use mathlib.Core.Bool.{Bool, true, false, cond}
use mathlib.Core.List.{List, [], ◌∷◌, ◌++◌}
use lib.ListN.{get_or}
use Rattle.std.specs.Prelude.{Option, Result, Ok, Err}
use Rattle.coding.specs.Codes.{Bits, Read, got, ended, broken, read_code}
use Rattle.coding.specs.Fields as fields
use Rattle.coding.specs.Fields.{FieldsRead, row_before, keeps, read_on, read_fields}
use Rattle.bits_read.specs.declared.Code.{Code}
use Rattle.params.specs.Steps.{code_of, stand_of, field_of}
use Rattle.params.specs.declared.Field.{Field}
use Rattle.params_read.specs.declared.FieldFault.{FieldFault}
use Rattle.params_read.specs.declared.FieldFault.TheVariants.{Broken}
use Rattle.params_read.specs.Outcome.{fault_of}
use Rattle.params_read.specs.Steps.{after_code, field_step}

abbrev pub on_step : Result Code FieldFault → ((v next : ℕ) → FieldsRead) → FieldsRead
on_step (Ok code) more = more code.value code.next
on_step (Err fault) more = fault_of fault

on-cond : (kept : Bool) (p : ℕ) (row : Option ℕ) (code : Code) (more : (v next : ℕ) → FieldsRead)
    → cond kept (more code.value code.next) (fields.at_fault p (stand_of row)) ≡ on_step (cond kept (Ok code) (Err (Broken p row))) more
on-cond true p row code more = refl
on-cond false p row code more = refl

pub read_on-step : (f : Field) (earlier : List ℕ) (p : ℕ) (r : Read) (more : (v next : ℕ) → FieldsRead)
    → read_on (field_of f) earlier p r more ≡ on_step (after_code f (row_before earlier) p r) more
read_on-step f earlier p (got v next) more = on-cond (keeps (field_of f) earlier v) p f.row (record { value = v; next = next }) more
read_on-step f earlier p (ended first) more = refl
read_on-step f earlier p (broken first) more = refl

pub read_fields-step : (x : Bits) (f : Field) (fs : List fields.Field) (earlier : List ℕ) (p : ℕ)
    → read_fields x (field_of f ∷ fs) earlier p ≡ on_step (field_step x f (row_before earlier) p) (λ v next. read_fields x fs (earlier ++ (v ∷ [])) next)
unfolding read_fields
read_fields-step x f fs earlier p = read_on-step f earlier p (read_code x (code_of f.code) p) (λ v next. read_fields x fs (earlier ++ (v ∷ [])) next)

-- reading that ends well went on behind the field
on-done : (f : fields.Field) (earlier : List ℕ) (p : ℕ) (r : Read) (more : (v next : ℕ) → FieldsRead) (all : List ℕ) (next : ℕ)
    → read_on f earlier p r more ≡ fields.done all next → (v : ℕ) × (q : ℕ) × (more v q ≡ fields.done all next)
on-done f earlier p (got v q) more all next e = go (keeps f earlier v) e
  where
    go : (kept : Bool) → cond kept (more v q) (fields.at_fault p f.stand) ≡ fields.done all next → (v : ℕ) × (q : ℕ) × (more v q ≡ fields.done all next)
    go true e = (v, q, e)
    go false e = let z : ◌≡◌ {A = ℕ} 0 1 = cc in absurd (omega arith)
on-done f earlier p (ended q) more all next e = let z : ◌≡◌ {A = ℕ} 0 1 = cc in absurd (omega arith)
on-done f earlier p (broken q) more all next e = let z : ◌≡◌ {A = ℕ} 0 1 = cc in absurd (omega arith)

pub read_fields-first : (x : Bits) (fs : List fields.Field) (v : ℕ) (earlier : List ℕ) (p : ℕ) (all : List ℕ) (next : ℕ)
    → read_fields x fs (v ∷ earlier) p ≡ fields.done all next → get_or all 0 0 ≡ v
unfolding read_fields
read_fields-first x [] v earlier p all next e = let same : all ≡ v ∷ earlier = cc in ap (λ l. get_or l 0 0) same
read_fields-first x (f ∷ fs) v earlier p all next e =
    let (w, q, on) = on-done f (v ∷ earlier) p (read_code x f.code p) _ all next e in
    read_fields-first x fs v (earlier ++ (w ∷ [])) q all next on
