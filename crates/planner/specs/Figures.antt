-- What the exports on least figures, tables and lookups promise of their structs and of the lists that they are lent, cited by their `ensures`.
--     ExportedLeast    planner_least
--     ExportedTable    planner_table, with its two lists afterwards
--     ExportedLookup   planner_look_up
-- Assumes nothing.
use Rattle.std.specs.Prelude.{ℕ, ◌≡◌, List}
use Rattle.model.specs.Recording.{Recording}
use Rattle.model.specs.Lookup.{Table}
use Rattle.model.specs.Outcomes.{least_outcome, table_outcome, lookup_outcome}
use Rattle.answers.specs.Figures.{bucket_answer, table_answer}
use Rattle.answers.specs.declared.recordings.PlannerJudgement.{PlannerJudgement}
use Rattle.answers.specs.declared.figures.PlannerBucket.{PlannerBucket}

abbrev pub ExportedLeast : Recording → (rate : ℕ) → PlannerBucket → Type 0
ExportedLeast k rate r = r ≡ bucket_answer (least_outcome k rate)

abbrev pub ExportedTable : Recording → (rates : List ℕ) (at : ℕ) (l m : List ℕ) → PlannerJudgement → (buffers fullnesses : List ℕ) → Type 0
ExportedTable k rates at l m r buffers fullnesses = table_answer r buffers fullnesses (table_outcome k rates at l m)

abbrev pub ExportedLookup : Table → (rate : ℕ) → PlannerBucket → Type 0
ExportedLookup w rate r = r ≡ bucket_answer (lookup_outcome w rate)
