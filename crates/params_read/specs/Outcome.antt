-- What this crate's answers say, in document 01's numbers, places and values.
--     fault_of         a fault in a field
--     refusal_of       the refusal of it
--     fields_read_of   some fields read, with the values so far
--     params_read_of   what reading a record found: the record all zero on refusal
-- Assumes nothing.
use Rattle.std.specs.Prelude.{ℕ, List, Result, Ok, Err}
use Rattle.terms.specs.Answers.{given, refused}
use Rattle.coding.specs.Fields as fields
use Rattle.coding.specs.Params as params
use Rattle.judgement.specs.Outcome.{number_of, place_of}
use Rattle.judgement.specs.declared.Refusal.{Refusal}
use Rattle.judgement.specs.declared.Refusal.TheVariants as refusals
use Rattle.params.specs.Outcome.{params_of}
use Rattle.params.specs.Steps.{stand_of}
use Rattle.params_read.specs.declared.FieldFault.{FieldFault}
use Rattle.params_read.specs.declared.FieldFault.TheVariants.{Short, Broken}
use Rattle.params_read.specs.declared.ParamsRead.{ParamsRead}

abbrev pub fault_of : FieldFault → fields.FieldsRead
fault_of (Short first) = fields.short first
fault_of (Broken first row) = fields.at_fault first (stand_of row)

abbrev pub refusal_of : FieldFault → Refusal
refusal_of (Short first) = refusals.Short
refusal_of (Broken first row) = refusals.Field (fields.place_of (stand_of row))

abbrev pub fields_read_of : Result ℕ FieldFault → (values : List ℕ) → fields.FieldsRead
fields_read_of (Ok next) values = fields.done values next
fields_read_of (Err fault) values = fault_of fault

abbrev pub params_read_of : Result ParamsRead Refusal → params.ParamsRead
params_read_of (Ok r) = record { answer = given r.next; params = params_of r.params }
params_read_of (Err e) = record { answer = refused (number_of e) (place_of e); params = params.zero_params }
