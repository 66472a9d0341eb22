-- Demand 1 about the planner's own answers, as propositions. Proved in proofs/: Demand1, Printed.
--     Told    what a struct says is what an outcome says: a refusal its number and place, with zeros and untouched lists
--     Demand1Judge, Demand1Verdict, Demand1Schedule, Demand1Least, Demand1Table, Demand1Lookup, Demand1Seconds, Demand1Panel,
--     Demand1Record, Demand1Length, Demand1ParamsRow, Demand1Read, Demand1Write, Demand1Row, Demand1Open, Demand1Print    so does each exported operation, whatever it is handed
--     Demand1Line    a refusal line is said with the number and place with which the planner's own `open_sheet` refuses that sheet
-- Assumes nothing.
use Rattle.std.specs.Prelude.{ℕ, ◌≤◌, ◌≡◌, List, Float, Result, Ok}
use Rattle.terms.specs.Answers.{Answer, given, refused}
use Rattle.model.specs.Recording.{Recording}
use Rattle.model.specs.Arrival.{Bucket}
use Rattle.model.specs.Lookup.{Table}
use Rattle.model.specs.Outcomes.{judge_outcome, verdict_outcome, schedule_outcome, least_outcome, table_outcome, lookup_outcome}
use Rattle.model.specs.Panel.{zero_seconds, seconds_outcome, panel_outcome}
use Rattle.coding.specs.Params.{zero_params, params_judged, read_outcome, write_outcome, length_outcome, params_row_outcome}
use Rattle.row_verdict.specs.RowVerdict.{row_verdict_outcome}
use Rattle.layout.specs.Sheet.{open_outcome, print_outcome}
use Rattle.params.specs.Outcome.{params_of}
use Rattle.params.specs.declared.Params.{Params}
use Rattle.judgement.specs.Outcome.{judgement_of}
use Rattle.judgement.specs.declared.Refusal.{Refusal}
use Rattle.sheet.specs.Promises.{OpenPromise}
use Rattle.sheet.specs.Outcome.{opened_of}
use Rattle.sheet.specs.declared.Head.{Head}
use Rattle.print.specs.Promises.{PrintPromise}
use Rattle.print.specs.declared.Output.{Output}
use Rattle.answers.specs.declared.recordings.PlannerJudgement.{PlannerJudgement}
use Rattle.answers.specs.declared.recordings.PlannerVerdict.{PlannerVerdict}
use Rattle.answers.specs.declared.figures.PlannerBucket.{PlannerBucket}
use Rattle.answers.specs.declared.seconds.PlannerSeconds.{PlannerSeconds}
use Rattle.answers.specs.declared.seconds.PlannerPanelReading.{PlannerPanelReading}
use Rattle.answers.specs.declared.records.PlannerParamsRead.{PlannerParamsRead}
use Rattle.answers.specs.declared.records.PlannerPosition.{PlannerPosition}
use Rattle.answers.specs.declared.records.PlannerLength.{PlannerLength}
use Rattle.answers.specs.declared.records.PlannerRow.{PlannerRow}
use Rattle.answers.specs.declared.sheets.PlannerSheet.{PlannerSheet}
use Rattle.answers.specs.declared.sheets.PlannerText.{PlannerText}
use Rattle.planner.specs.Recordings.{ExportedJudge, ExportedVerdict, ExportedSchedule}
use Rattle.planner.specs.Figures.{ExportedLeast, ExportedTable, ExportedLookup}
use Rattle.planner.specs.Seconds.{ExportedSeconds, ExportedPanel}
use Rattle.planner.specs.Records.{ExportedRecord, ExportedLength, ExportedParamsRow, ExportedRead, ExportedWrite, ExportedRow}
use Rattle.planner.specs.Sheets.{ExportedOpen, ExportedPrint}

-- "Any bytes, any lists, any numbers get an answer." "a refusal gives its number and place, zeros for results, and writes nothing
-- in the caller's lists." Clear is what a refusal leaves: all figures 0, every lent list as it was.
pub record Told {A : Type 0} (a : Answer A) (kind number place : ℕ) (Clear : Type 0) : Type 0 where
  pub answers : (x : A) → a ≡ given x → (1 ≤ kind) × (number ≡ 0) × (place ≡ 0)
  pub refuses : (n i : ℕ) → a ≡ refused n i → (kind ≡ 0) × (number ≡ n) × (place ≡ i) × Clear

abbrev pub Demand1Judge : Type 0
Demand1Judge = (k : Recording) (r : PlannerJudgement) → ExportedJudge k r → Told (judge_outcome k) r.kind r.number r.place (Unit {0})

abbrev pub Demand1Verdict : Type 0
Demand1Verdict =
    (k : Recording) (u : Bucket) (r : PlannerVerdict) → ExportedVerdict k u r
    → Told (verdict_outcome k u) r.kind r.number r.place ((r.picture ≡ 0) × (r.units ≡ 0))

abbrev pub Demand1Schedule : Type 0
Demand1Schedule =
    (k : Recording) (u : Bucket) (at : ℕ) (l m : List ℕ) (r : PlannerVerdict) (starts ends : List ℕ) → ExportedSchedule k u at l m r starts ends
    → Told (schedule_outcome k u at l m).answer r.kind r.number r.place ((r.picture ≡ 0) × (r.units ≡ 0) × (starts ≡ l) × (ends ≡ m))

abbrev pub Demand1Least : Type 0
Demand1Least =
    (k : Recording) (rate : ℕ) (r : PlannerBucket) → ExportedLeast k rate r
    → Told (least_outcome k rate) r.kind r.number r.place ((r.buffer ≡ 0) × (r.fullness ≡ 0))

abbrev pub Demand1Table : Type 0
Demand1Table =
    (k : Recording) (rates : List ℕ) (at : ℕ) (l m : List ℕ) (r : PlannerJudgement) (buffers fullnesses : List ℕ)
    → ExportedTable k rates at l m r buffers fullnesses
    → Told (table_outcome k rates at l m).answer r.kind r.number r.place ((buffers ≡ l) × (fullnesses ≡ m))

abbrev pub Demand1Lookup : Type 0
Demand1Lookup =
    (w : Table) (rate : ℕ) (r : PlannerBucket) → ExportedLookup w rate r
    → Told (lookup_outcome w rate) r.kind r.number r.place ((r.buffer ≡ 0) × (r.fullness ≡ 0))

abbrev pub Demand1Seconds : Type 0
Demand1Seconds =
    (u : Bucket) (r : PlannerSeconds) → ExportedSeconds u r
    → Told (seconds_outcome u) r.kind r.number r.place ((r.wait ≡ zero_seconds) × (r.fill ≡ zero_seconds))

abbrev pub Demand1Panel : Type 0
Demand1Panel =
    (u : Bucket) (limit : Float) (r : PlannerPanelReading) → ExportedPanel u limit r
    → Told (panel_outcome u limit) r.kind r.number r.place ((r.wait ≡ zero_seconds) × (r.limit ≡ zero_seconds))

abbrev pub Demand1Record : Type 0
Demand1Record =
    (p : Params) (r : PlannerJudgement) → ExportedRecord p r → Told (params_judged (params_of p)) r.kind r.number r.place (Unit {0})

abbrev pub Demand1Length : Type 0
Demand1Length =
    (p : Params) (r : PlannerLength) → ExportedLength p r → Told (length_outcome (params_of p)) r.kind r.number r.place (r.bits ≡ 0)

abbrev pub Demand1ParamsRow : Type 0
Demand1ParamsRow =
    (p : Params) (row : ℕ) (r : PlannerRow) → ExportedParamsRow p row r
    → Told (params_row_outcome (params_of p) row) r.kind r.number r.place ((r.rate ≡ 0) × (r.size ≡ 0))

abbrev pub Demand1Read : Type 0
Demand1Read =
    (bytes : List ℕ) (start : ℕ) (r : PlannerParamsRead) → ExportedRead bytes start r
    → Told (read_outcome bytes start).answer r.kind r.number r.place ((r.next ≡ 0) × (params_of r.params ≡ zero_params))

abbrev pub Demand1Write : Type 0
Demand1Write =
    (p : Params) (bytes : List ℕ) (start : ℕ) (r : PlannerPosition) (after : List ℕ) → ExportedWrite p bytes start r after
    → Told (write_outcome (params_of p) bytes start).answer r.kind r.number r.place ((r.next ≡ 0) × (after ≡ bytes))

abbrev pub Demand1Row : Type 0
Demand1Row =
    (k : Recording) (p : Params) (row fullness : ℕ) (r : PlannerVerdict) → ExportedRow k p row fullness r
    → Told (row_verdict_outcome k (params_of p) row fullness) r.kind r.number r.place ((r.picture ≡ 0) × (r.units ≡ 0))

abbrev pub Demand1Open : Type 0
Demand1Open =
    (bytes l m n : List ℕ) (r : PlannerSheet) (sizes ticks rates : List ℕ) → ExportedOpen bytes l m n r sizes ticks rates
    → Told (open_outcome bytes l m n).answer r.kind r.number r.place
    ((r.pictures ≡ 0) × (r.rates ≡ 0) × (r.ts ≡ 0) × (r.nu ≡ 0) × (sizes ≡ l) × (ticks ≡ m) × (rates ≡ n))

abbrev pub Demand1Print : Type 0
Demand1Print =
    (bytes l : List ℕ) (r : PlannerText) (text : List ℕ) → ExportedPrint bytes l r text
    → Told (print_outcome bytes l).answer r.kind r.number r.place ((r.length ≡ 0) × (r.sheet_number ≡ 0) × (r.sheet_place ≡ 0) × (text ≡ l))

-- whatever room the opening has
abbrev pub Demand1Line : Type 0
Demand1Line =
    (bytes before text l m o sizes ticks rates : List ℕ) (output : Output) (n i : ℕ) (a : Result Head Refusal)
    → PrintPromise bytes before (Ok output) text → judgement_of output.judged ≡ refused n i
    → OpenPromise bytes l m o a sizes ticks rates → opened_of a ≡ refused n i
