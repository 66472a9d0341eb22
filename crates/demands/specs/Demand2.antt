-- Demand 2 about the planner's own answers, as propositions. Proved in proofs/: Demand2, LeastBits, Printed, Undoing.
--     Exactly            a verdict is "holds" exactly when both figures are at least two others
--     Judged             a verdict that is no refusal
--     Demand2Answers     the planner's verdict on a bucket is "holds" exactly when both figures are at least the planner's own least
--     Demand2Schedule    so is the verdict that a schedule answers
--     Demand2Row         and the verdict on a variable row
--     Demand2ParamsRow   whose bucket has the rate and the size that `params_row` gives
--     LateOrNone         late at some picture, or no bucket: refusal 7
--     LeastBits          what `least` gives: a bucket that gets "holds", and with any less of either figure is late or no bucket
--     Demand2Least       so is the pair that `least` gives
--     Demand2Table       and every row that `table` writes
--     PrintedLeast       a text: the lines of a table whose rows are such pairs
--     Demand2Print       so is what is printed of a sheet that opens
--     Demand2Written     what the writer wrote, the reader reads again: the record back, and the same next position
--     Demand2Read        what the reader read, the writer writes again: the bytes as they are, and the same next position
--     Demand2Length      what the writer wrote is as long as `length_of` gives
-- Assumes nothing.
use Rattle.std.specs.Prelude.{ℕ, ◌+◌, ◌≤◌, ◌<◌, ◌≡◌, ◌↔◌, ◌⊎◌, false, List, length, get_or, take, Result, Ok, Err}
use Rattle.model.specs.Recording.{Recording, recording}
use Rattle.model.specs.Arrival.{bucket}
use Rattle.model.specs.Faults.{bad_bucket}
use Rattle.coding.specs.Params.{row_rate, row_size}
use Rattle.coding.specs.Undoing.{RecordBack}
use Rattle.layout.specs.Text.{table_text}
use Rattle.judgement.specs.declared.Refusal.{Refusal}
use Rattle.judgement.specs.declared.Refusal.TheVariants.{Bucket}
use Rattle.schedule.specs.Promises.{VerdictPromise, SchedulePromise}
use Rattle.schedule.specs.declared.Verdict.{Verdict}
use Rattle.schedule.specs.declared.Verdict.TheVariants.{Holds, Late}
use Rattle.least.specs.Promises.{LeastPromise, TablePromise}
use Rattle.params.specs.Outcome.{params_of}
use Rattle.params.specs.declared.Params.{Params}
use Rattle.params_read.specs.Promises.{ReadPromise}
use Rattle.params_read.specs.declared.ParamsRead.{ParamsRead}
use Rattle.params_write.specs.Promises.{LengthPromise, WritePromise}
use Rattle.row_verdict.specs.Promises.{ParamsRowPromise, RowPromise}
use Rattle.sheet.specs.Promises.{OpenPromise}
use Rattle.sheet.specs.declared.Head.{Head}
use Rattle.print.specs.Promises.{PrintPromise}
use Rattle.print.specs.declared.Output.{Output}
use Rattle.demands.specs.Given.{figures}

-- "A bucket with fullness no larger than its buffer is judged to hold the recording exactly when both are at least those two figures"
abbrev pub Exactly : Result Verdict Refusal → (b f least_b least_f : ℕ) → Type 0
Exactly v b f least_b least_f = (v ≡ Ok Holds) ↔ ((least_b ≤ b) × (least_f ≤ f))

-- whatever the recording, where the least figures are not refused and b, f are a bucket
abbrev pub Demand2Answers : Type 0
Demand2Answers =
    (k : Recording) (rate b f least_b least_f : ℕ) (v : Result Verdict Refusal) → bad_bucket b f ≡ false → VerdictPromise k (bucket rate b f) v
    → LeastPromise k rate (figures rate least_b least_f) → Exactly v b f least_b least_f

abbrev pub Judged : Result Verdict Refusal → Type 0
Judged v = (e : Refusal) → ¬ (v ≡ Err e)

abbrev pub Demand2Schedule : Type 0
Demand2Schedule =
    (k : Recording) (rate b f at least_b least_f : ℕ) (l m starts ends : List ℕ) (v : Result Verdict Refusal)
    → SchedulePromise k (bucket rate b f) at l m v starts ends → Judged v
    → LeastPromise k rate (figures rate least_b least_f) → Exactly v b f least_b least_f

-- the bucket of a row has the row's rate and size
abbrev pub Demand2Row : Type 0
Demand2Row =
    (k : Recording) (params : Params) (row f least_b least_f : ℕ) (v : Result Verdict Refusal)
    → RowPromise k params row f v → get_or (params_of params).cbr_flag row 0 ≡ 0 → Judged v
    → LeastPromise k (row_rate (params_of params) row) (figures (row_rate (params_of params) row) least_b least_f) → Exactly v (row_size (params_of params) row) f least_b least_f

-- a row of a record that is judged has the verdict of the bucket with the rate and the size that the planner gives for the row
abbrev pub Demand2ParamsRow : Type 0
Demand2ParamsRow =
    (k : Recording) (params : Params) (row f rate size : ℕ) (v : Result Verdict Refusal) → RowPromise k params row f v → Judged v
    → ParamsRowPromise params row (Ok (record { rate = rate; size = size })) → VerdictPromise k (bucket rate size f) v

-- "one bit less must be late or no bucket"
abbrev pub LateOrNone : Result Verdict Refusal → Type 0
LateOrNone v = ((picture : ℕ) × (units : ℕ) × (v ≡ Ok (Late picture units))) ⊎ (v ≡ Err (Bucket 0))

-- "buffer and start fullness that we print are the least in whole bits"
pub record LeastBits (k : Recording) (rate b f : ℕ) : Type 0 where
  pub least : LeastPromise k rate (figures rate b f)
  pub is_bucket : bad_bucket b f ≡ false
  pub holds : VerdictPromise k (bucket rate b f) (Ok Holds)
  pub less_b : (b' f' : ℕ) → b' < b → (v : Result Verdict Refusal) → VerdictPromise k (bucket rate b' f') v → LateOrNone v
  pub less_f : (b' f' : ℕ) → f' < f → (v : Result Verdict Refusal) → VerdictPromise k (bucket rate b' f') v → LateOrNone v

abbrev pub Demand2Least : Type 0
Demand2Least = (k : Recording) (rate b f : ℕ) → LeastPromise k rate (figures rate b f) → LeastBits k rate b f

abbrev pub Demand2Table : Type 0
Demand2Table =
    (k : Recording) (rates : List ℕ) (at : ℕ) (l m buffers fullnesses : List ℕ) → TablePromise k rates at l m (Ok tt) buffers fullnesses
    → (i : ℕ) → i < length rates → LeastBits k (get_or rates i 0) (get_or buffers (at + i) 0) (get_or fullnesses (at + i) 0)

pub record PrintedLeast (k : Recording) (rates text : List ℕ) : Type 0 where
  pub buffers : List ℕ
  pub fullnesses : List ℕ
  pub lines : text ≡ table_text rates buffers fullnesses
  pub rows : (i : ℕ) → i < length rates → LeastBits k (get_or rates i 0) (get_or buffers i 0) (get_or fullnesses i 0)

-- the recording and the rates that the planner's own `open_sheet` gives, and the bytes that its `print_sheet` says it printed
abbrev pub Demand2Print : Type 0
Demand2Print =
    (bytes l m o sizes ticks rates before text : List ℕ) (head : Head) (output : Output)
    → OpenPromise bytes l m o (Ok head) sizes ticks rates → PrintPromise bytes before (Ok output) text
    → PrintedLeast (recording (take head.pictures sizes) (take head.pictures ticks) head.ts head.nu) (take head.rates rates) (take output.end text)

-- "Annex E's parameter bits are read and written to the letter, and each undoes the other"
abbrev pub Demand2Written : Type 0
Demand2Written =
    (params : Params) (bytes after : List ℕ) (start next : ℕ) (r : Result ParamsRead Refusal) → WritePromise params bytes start (Ok next) after
    → ReadPromise after start r → (back : Params) × (r ≡ Ok (record { next = next; params = back })) × RecordBack (params_of params) (params_of back)

abbrev pub Demand2Read : Type 0
Demand2Read =
    (bytes after : List ℕ) (start : ℕ) (r : ParamsRead) (w : Result ℕ Refusal) → ReadPromise bytes start (Ok r)
    → WritePromise r.params bytes start w after → (w ≡ Ok r.next) × (after ≡ bytes)

abbrev pub Demand2Length : Type 0
Demand2Length =
    (params : Params) (bytes after : List ℕ) (start next n : ℕ) → WritePromise params bytes start (Ok next) after
    → LengthPromise params (Ok n) → next ≡ start + n
