-- For each exported operation: two outcomes that its promise allows are equal, the struct and the lists afterwards. Promises: specs/.
--     planner-judge-unique, planner-verdict-unique, planner-schedule-unique, planner-least-unique, planner-table-unique,
--     planner-look-up-unique, planner-seconds-unique, planner-panel-unique, planner-record-unique, planner-read-unique,
--     planner-write-unique, planner-row-unique, planner-open-unique, planner-print-unique, planner-length-unique,
--     planner-params-row-unique, planner-version-unique
-- Assumes nothing.
use Prim.Native.Nat.{ℕ}
use mathlib.Core.Path.{◌≡◌, sym, ◌∙◌}
use mathlib.Core.List.{List}
use lib.Ieee.{Float}
use Rattle.model.specs.Recording.{Recording}
use Rattle.model.specs.Arrival.{Bucket}
use Rattle.model.specs.Lookup.{Table}
use Rattle.coding.specs.Params.{read_outcome}
use Rattle.params.specs.declared.Params.{Params}
use Rattle.answers.specs.declared.recordings.PlannerJudgement.{PlannerJudgement}
use Rattle.answers.specs.declared.recordings.PlannerVerdict.{PlannerVerdict}
use Rattle.answers.specs.declared.figures.PlannerBucket.{PlannerBucket}
use Rattle.answers.specs.declared.seconds.PlannerSeconds.{PlannerSeconds}
use Rattle.answers.specs.declared.seconds.PlannerPanelReading.{PlannerPanelReading}
use Rattle.answers.specs.declared.records.PlannerParamsRead.{PlannerParamsRead}
use Rattle.answers.specs.declared.records.PlannerPosition.{PlannerPosition}
use Rattle.answers.specs.declared.records.PlannerLength.{PlannerLength}
use Rattle.answers.specs.declared.records.PlannerRow.{PlannerRow}
use Rattle.answers.specs.declared.sheets.PlannerSheet.{PlannerSheet}
use Rattle.answers.specs.declared.sheets.PlannerText.{PlannerText}
use Rattle.answers.proofs.Unique.{read_answer-one}
use Rattle.planner.specs.Recordings.{ExportedJudge, ExportedVerdict, ExportedSchedule}
use Rattle.planner.specs.Figures.{ExportedLeast, ExportedTable, ExportedLookup}
use Rattle.planner.specs.Seconds.{ExportedSeconds, ExportedPanel}
use Rattle.planner.specs.Records.{ExportedRecord, ExportedLength, ExportedParamsRow, ExportedRead, ExportedWrite, ExportedRow}
use Rattle.planner.specs.Sheets.{ExportedOpen, ExportedPrint}
use Rattle.planner.specs.Version.{ExportedVersion}

pub planner-judge-unique : (k : Recording) (v w : PlannerJudgement) → ExportedJudge k v → ExportedJudge k w → v ≡ w
planner-judge-unique k v w p q = p ∙ sym q

pub planner-verdict-unique : (k : Recording) (u : Bucket) (v w : PlannerVerdict) → ExportedVerdict k u v → ExportedVerdict k u w → v ≡ w
planner-verdict-unique k u v w p q = p ∙ sym q

pub planner-schedule-unique : (k : Recording) (u : Bucket) (at : ℕ) (l m : List ℕ) (v w : PlannerVerdict) (s e s' e' : List ℕ)
    → ExportedSchedule k u at l m v s e → ExportedSchedule k u at l m w s' e' → (v ≡ w) × (s ≡ s') × (e ≡ e')
planner-schedule-unique k u at l m v w s e s' e' p q = (p.0 ∙ sym q.0, p.1 ∙ sym q.1, p.2 ∙ sym q.2)

pub planner-least-unique : (k : Recording) (rate : ℕ) (v w : PlannerBucket) → ExportedLeast k rate v → ExportedLeast k rate w → v ≡ w
planner-least-unique k rate v w p q = p ∙ sym q

pub planner-table-unique : (k : Recording) (rates : List ℕ) (at : ℕ) (l m : List ℕ) (v w : PlannerJudgement) (b f b' f' : List ℕ)
    → ExportedTable k rates at l m v b f → ExportedTable k rates at l m w b' f' → (v ≡ w) × (b ≡ b') × (f ≡ f')
planner-table-unique k rates at l m v w b f b' f' p q = (p.0 ∙ sym q.0, p.1 ∙ sym q.1, p.2 ∙ sym q.2)

pub planner-look-up-unique : (t : Table) (rate : ℕ) (v w : PlannerBucket) → ExportedLookup t rate v → ExportedLookup t rate w → v ≡ w
planner-look-up-unique t rate v w p q = p ∙ sym q

pub planner-seconds-unique : (u : Bucket) (v w : PlannerSeconds) → ExportedSeconds u v → ExportedSeconds u w → v ≡ w
planner-seconds-unique u v w p q = p ∙ sym q

pub planner-panel-unique : (u : Bucket) (limit : Float) (v w : PlannerPanelReading) → ExportedPanel u limit v → ExportedPanel u limit w → v ≡ w
planner-panel-unique u limit v w p q = p ∙ sym q

pub planner-record-unique : (r : Params) (v w : PlannerJudgement) → ExportedRecord r v → ExportedRecord r w → v ≡ w
planner-record-unique r v w p q = p ∙ sym q

pub planner-length-unique : (r : Params) (v w : PlannerLength) → ExportedLength r v → ExportedLength r w → v ≡ w
planner-length-unique r v w p q = p ∙ sym q

pub planner-params-row-unique : (r : Params) (row : ℕ) (v w : PlannerRow) → ExportedParamsRow r row v → ExportedParamsRow r row w → v ≡ w
planner-params-row-unique r row v w p q = p ∙ sym q

pub planner-read-unique : (bytes : List ℕ) (start : ℕ) (v w : PlannerParamsRead) → ExportedRead bytes start v → ExportedRead bytes start w → v ≡ w
planner-read-unique bytes start v w p q = read_answer-one (read_outcome bytes start) v w p q

pub planner-write-unique : (r : Params) (bytes : List ℕ) (start : ℕ) (v w : PlannerPosition) (after after' : List ℕ)
    → ExportedWrite r bytes start v after → ExportedWrite r bytes start w after' → (v ≡ w) × (after ≡ after')
planner-write-unique r bytes start v w after after' p q = (p.0 ∙ sym q.0, p.1 ∙ sym q.1)

pub planner-row-unique : (k : Recording) (r : Params) (row fullness : ℕ) (v w : PlannerVerdict) → ExportedRow k r row fullness v → ExportedRow k r row fullness w → v ≡ w
planner-row-unique k r row fullness v w p q = p ∙ sym q

pub planner-open-unique : (bytes l m n : List ℕ) (v w : PlannerSheet) (s t r s' t' r' : List ℕ)
    → ExportedOpen bytes l m n v s t r → ExportedOpen bytes l m n w s' t' r' → (v ≡ w) × (s ≡ s') × (t ≡ t') × (r ≡ r')
planner-open-unique bytes l m n v w s t r s' t' r' p q = (p.0 ∙ sym q.0, p.1 ∙ sym q.1, p.2 ∙ sym q.2, p.3 ∙ sym q.3)

pub planner-print-unique : (bytes l : List ℕ) (v w : PlannerText) (t t' : List ℕ) → ExportedPrint bytes l v t → ExportedPrint bytes l w t' → (v ≡ w) × (t ≡ t')
planner-print-unique bytes l v w t t' p q = (p.0 ∙ sym q.0, p.1 ∙ sym q.1)

pub planner-version-unique : (v w : ℕ) → ExportedVersion v → ExportedVersion w → v ≡ w
planner-version-unique v w p q = p ∙ sym q
