-- The rows that the planner's own `table` writes and those that its `print_sheet` prints are the least in whole bits, and a refusal line names
-- the refusal of `open_sheet`. Statements: specs/Demand2.antt, specs/Demand1.antt.
--     demand2-table    a row that was written is what `least` answers at its rate
--     sheet-promised   a sheet that opened has a recording and rates within the limits, and their table is its text
--     text-promised    which is what was printed
--     demand2-print    so its rows are what `least` answers too
--     demand1-line     a sheet that was refused does not open
-- Assumes nothing.
use Prim.Native.Nat.{ℕ, ◌+◌, ◌≤◌, ◌<◌}
use mathlib.Core.Path.{◌≡◌, refl, sym, ap, ◌∙◌}
use mathlib.Core.List.{List, [], ◌∷◌, map}
use lib.ListN.{length, get_or, take, length-map}
use Rattle.std.specs.Prelude.{Ok}
use Rattle.terms.specs.Numbers.{written}
use Rattle.terms.specs.Answers.{passed, refused, first}
use Rattle.terms.proofs.NumbersLaws.{written-at, written-front}
use Rattle.terms.proofs.AnswersLaws.{or_else-passed, first-passed, first-append, answer-passed, answer-refused, lowest-each, lowest-passed}
use Rattle.model.specs.Recording.{Recording}
use Rattle.model.specs.Least.{least_buffer, least_fullness}
use Rattle.model.specs.Faults.{rate_list_check, recording_faults}
use Rattle.model.specs.Outcomes.{judge_outcome}
use Rattle.layout.specs.Sheet as sheet
use Rattle.layout.specs.Sheet.{sheet_rates, sheet_recording, sheet_faults, open_faults, least_text, sheet_text}
use Rattle.sheet.specs.declared.Head.{Head}
use Rattle.sheet.specs.Outcome.{head_of}
use Rattle.sheet.specs.Promises.{OpenPromise}
use Rattle.sheet.proofs.OpenLaws.{rooms, head-pictures, head-rates, recording-read, rates-read}
use Rattle.print.specs.declared.Output.{Output}
use Rattle.print.specs.Promises.{PrintPromise}
use Rattle.print.proofs.PrintLaws.{front, output-printed}
use Rattle.demands.specs.Demand1.{Demand1Line}
use Rattle.demands.specs.Demand2.{Demand2Table, Demand2Print}
use Rattle.demands.proofs.Promised.{figures-row, table-promised}
use Rattle.demands.proofs.LeastBits.{demand2-least}

-- a column that was written, at a row
row-at : (rates : List ℕ) (at : ℕ) (l : List ℕ) (x : ℕ → ℕ) → at + length rates ≤ length l → (i : ℕ) → i < length rates
    → get_or (written l at (map x rates)) (at + i) 0 ≡ get_or (map x rates) i 0
row-at rates at l x room i h = written-at l at (map x rates) i (rw (length-map rates x) room) (rw (length-map rates x) h)

pub demand2-table : Demand2Table
demand2-table k rates at l m buffers fullnesses p i h =
    let said = table-promised k rates at l m buffers fullnesses p in
    demand2-least k _ _ _
    (rw (said.buffer, said.fullness, row-at rates at l (least_buffer k) said.room_b i h, row-at rates at m (least_fullness k) said.room_f i h)
    (figures-row k rates said.judged said.listed i h))

-- what a sheet that opened says, with k and rates at the front of the lists that it was opened to
pub record SheetSaid (bytes : List ℕ) (k : Recording) (rates : List ℕ) : Type 0 where
  pub judged : judge_outcome k ≡ passed
  pub listed : rate_list_check rates ≡ passed
  pub text : sheet_text bytes ≡ least_text k rates

-- a sheet with no fault says so of its own recording and rates
sheet-said : (bytes : List ℕ) → first (sheet_faults bytes) ≡ passed → SheetSaid bytes (sheet_recording bytes) (sheet_rates bytes)
sheet-said bytes ok =
    let rated = rate_list_check (sheet_rates bytes) ∷ [] in
    let (judged, rest) = lowest-each (recording_faults (sheet_recording bytes)) rated ((first-passed (sheet_faults bytes)).0 ok).1.1.1.1.0 in
    record { judged = judged; listed = ((lowest-passed rated).0 rest).0; text = rw ok }

pub sheet-promised : (bytes l m o sizes ticks rates : List ℕ) (head : Head) → OpenPromise bytes l m o (Ok head) sizes ticks rates
    → SheetSaid bytes (front sizes ticks head) (take head.rates rates)
sheet-promised bytes l m o sizes ticks rates head p =
    let room = rooms bytes l m o in
    let (ok, same) = answer-passed (first (open_faults bytes l m o)) (sheet.head_of bytes) (head_of head) (sym (ap (λ (t : sheet.Opened). t.answer) p)) in
    let said = sym same in
    let n = head-pictures bytes head said in
    let whole = recording-read bytes head said l sizes m ticks (ap (λ (t : sheet.Opened). t.sizes) p ∙ rw (ok, n)) (ap (λ (t : sheet.Opened). t.ticks) p ∙ rw (ok, n)) in
    let listed = rates-read bytes head said o rates (ap (λ (t : sheet.Opened). t.rates) p ∙ rw (ok, n, head-rates bytes head said)) in
    rw (whole, listed)
    (sheet-said bytes ((or_else-passed (first (sheet_faults bytes)) (first room)).0 (sym (first-append (sheet_faults bytes) room) ∙ ok)).0)

pub text-promised : (bytes before text : List ℕ) (output : Output) → PrintPromise bytes before (Ok output) text → take output.end text ≡ sheet_text bytes
text-promised bytes before text output p =
    let (ok, same) = output-printed bytes before text (Ok output) output p refl in
    written-front before text (sheet_text bytes) output.end (ap (λ (t : sheet.Printed). t.text) p ∙ rw ok) (ap (λ (t : sheet.Output). t.end) same)

pub demand2-print : Demand2Print
demand2-print bytes l m o sizes ticks rates before text head output p q =
    let said = sheet-promised bytes l m o sizes ticks rates head p in
    let k = front sizes ticks head in
    let r = take head.rates rates in
    record {
      buffers = map (least_buffer k) r;
      fullnesses = map (least_fullness k) r;
      lines = text-promised bytes before text output q ∙ said.text;
      rows = λ i h. demand2-least k _ _ _ (figures-row k r said.judged said.listed i h);
    }

pub demand1-line : Demand1Line
demand1-line bytes before text l m o sizes ticks rates output n i a p said q =
    let (_, same) = output-printed bytes before text (Ok output) output p refl in
    let refuses : first (sheet_faults bytes) ≡ refused n i = ap (λ (t : sheet.Output). t.judged) same ∙ said in
    let opens : first (open_faults bytes l m o) ≡ refused n i = first-append (sheet_faults bytes) (rooms bytes l m o) ∙ rw refuses in
    ap (λ (t : sheet.Opened). t.answer) q ∙ answer-refused (sheet.head_of bytes) opens
