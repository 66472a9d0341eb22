-- Demand 1 of each exported operation: a refusal in its outcome is a refusal in its struct, with zeros and with every lent list as it
-- was. Propositions: specs/Demand1.antt.
--     demand1-judge, demand1-verdict, demand1-schedule, demand1-least, demand1-table, demand1-lookup, demand1-seconds, demand1-panel,
--     demand1-record, demand1-length, demand1-params-row, demand1-read, demand1-write, demand1-row, demand1-open, demand1-print
-- Assumes nothing.
use Prim.Native.Nat.{ℕ, ◌≤◌}
use native.Mathlib.Omega.{arith}
use mathlib.Core.Path.{◌≡◌, refl, ap, ◌∙◌}
use mathlib.Core.List.{List, map}
use lib.Dec.{lit≤}
use lib.ListN.{length}
use Rattle.model.specs.Arrival.{Bucket, Verdict, holds, late, verdict_of, starts, ends}
use Rattle.model.specs.Least.{least_buffer, least_fullness}
use Rattle.terms.specs.Answers.{Answer, given, refused, Judgement, lowest, first, answer_with, written_if, room_check}
use Rattle.model.specs.Faults.{schedule_faults}
use Rattle.coding.specs.Codes.{bits_of}
use Rattle.model.specs.Panel.{Reading, within, over}
use Rattle.coding.specs.Fields.{FieldsRead as FieldsReading, done, short, at_fault}
use Rattle.coding.specs.Params as params
use Rattle.layout.specs.Sheet.{sheet_sizes, sheet_ticks, sheet_rates, open_faults, head_of, sheet_text, output_of}
use Rattle.params.specs.Outcome.{params_of}
use Rattle.answers.specs.Recordings.{judgement_answer, verdict_answer}
use Rattle.answers.specs.Figures.{bucket_answer}
use Rattle.answers.specs.Seconds.{seconds_answer, reading_answer}
use Rattle.answers.specs.Records.{position_answer, length_answer, row_answer}
use Rattle.answers.specs.Sheets.{sheet_answer, text_by, text_answer}
use Rattle.answers.specs.declared.recordings.PlannerJudgement.{PlannerJudgement}
use Rattle.answers.specs.declared.recordings.PlannerVerdict.{PlannerVerdict}
use Rattle.answers.specs.declared.figures.PlannerBucket.{PlannerBucket}
use Rattle.answers.specs.declared.records.PlannerPosition.{PlannerPosition}
use Rattle.demands.specs.Demand1.{Told, Demand1Judge, Demand1Verdict, Demand1Schedule, Demand1Least, Demand1Table, Demand1Lookup, Demand1Seconds, Demand1Panel, Demand1Record, Demand1Length, Demand1ParamsRow, Demand1Read, Demand1Write, Demand1Row, Demand1Open, Demand1Print}

-- one law for every operation: where its struct r is f of its outcome a, and f says "answered" and "refused" as it should
told : {A S : Type 0} (kind number place : S → ℕ) (f : Answer A → S) {a : Answer A} {r : S} {Clear : Type 0} → r ≡ f a
    → ((x : A) → (1 ≤ kind (f (given x))) × (number (f (given x)) ≡ 0) × (place (f (given x)) ≡ 0))
    → ((n i : ℕ) → (kind (f (refused n i)) ≡ 0) × (number (f (refused n i)) ≡ n) × (place (f (refused n i)) ≡ i))
    → ((n i : ℕ) → a ≡ refused n i → r ≡ f (refused n i) → Clear)
    → Told a (kind r) (number r) (place r) Clear
told kind number place f {a} {r} p answered refusing clear =
    record {
      answers = λ x e. let q : r ≡ f (given x) = p ∙ ap f e in rw q (answered x);
      refuses = λ n i e.
          let q : r ≡ f (refused n i) = p ∙ ap f e in
          (ap kind q ∙ (refusing n i).0, ap number q ∙ (refusing n i).1, ap place q ∙ (refusing n i).2, clear n i e q);
    }

-- a refused call keeps a lent list
kept : {A : Type 0} (j : Judgement) (x : A) (l : List ℕ) (at : ℕ) (xs : List ℕ) {n i : ℕ} → answer_with j x ≡ refused n i → written_if j l at xs ≡ l
kept (given a) x l at xs e = let z : ◌≡◌ {A = ℕ} 0 1 = cc in absurd (omega arith)
kept (refused n i) x l at xs e = refl

kept_bytes : {A : Type 0} (j : Judgement) (x : A) (bytes : List ℕ) (p : ℕ) (bits : List ℕ) {n i : ℕ} → answer_with j x ≡ refused n i → params.bytes_if j bytes p bits ≡ bytes
kept_bytes (given a) x bytes p bits e = let z : ◌≡◌ {A = ℕ} 0 1 = cc in absurd (omega arith)
kept_bytes (refused n i) x bytes p bits e = refl

-- and a refused reading has no record
zeroed : (reading : FieldsReading) {n i : ℕ} → (params.read_answer reading).answer ≡ refused n i → (params.read_answer reading).params ≡ params.zero_params
zeroed (done values next) e = let z : ◌≡◌ {A = ℕ} 0 1 = cc in absurd (omega arith)
zeroed (short p) e = refl
zeroed (at_fault p row) e = refl

-- a value has no number and no place
verdict_given : (v : Verdict) → let r = verdict_answer (given v) in (1 ≤ r.kind) × (r.number ≡ 0) × (r.place ≡ 0)
verdict_given holds = (lit≤ tt, refl, refl)
verdict_given (late j u) = (lit≤ tt, refl, refl)

reading_given : (x : Reading) → let r = reading_answer (given x) in (1 ≤ r.kind) × (r.number ≡ 0) × (r.place ≡ 0)
reading_given (within w) = (lit≤ tt, refl, refl)
reading_given (over w y) = (lit≤ tt, refl, refl)

told_verdict : {a : Answer Verdict} {r : PlannerVerdict} {Clear : Type 0} → r ≡ verdict_answer a
    → ((n i : ℕ) → a ≡ refused n i → (r.picture ≡ 0) × (r.units ≡ 0) → Clear)
    → Told a r.kind r.number r.place Clear
told_verdict p clear =
    told (λ r. r.kind) (λ r. r.number) (λ r. r.place) verdict_answer p
    verdict_given
    (λ n i. (refl, refl, refl))
    (λ n i e q. clear n i e (ap (λ r. r.picture) q, ap (λ r. r.units) q))

told_judgement : {a : Judgement} {r : PlannerJudgement} {Clear : Type 0} → r ≡ judgement_answer a
    → ((n i : ℕ) → a ≡ refused n i → Clear)
    → Told a r.kind r.number r.place Clear
told_judgement p clear =
    told (λ r. r.kind) (λ r. r.number) (λ r. r.place) judgement_answer p (λ x. (lit≤ tt, refl, refl)) (λ n i. (refl, refl, refl))
    (λ n i e q. clear n i e)

pub demand1-judge : Demand1Judge
demand1-judge k r p = told_judgement p (λ n i e. tt)

pub demand1-record : Demand1Record
demand1-record q r p = told_judgement p (λ n i e. tt)

pub demand1-verdict : Demand1Verdict
demand1-verdict k u r p = told_verdict p (λ n i e c. c)

pub demand1-schedule : Demand1Schedule
demand1-schedule k u at l m r s e p =
    told_verdict p.0
    (λ n i g c. (
      c.0,
      c.1,
      p.1 ∙ kept (lowest (schedule_faults k u at l m)) (verdict_of k u) l at (starts k u) g,
      p.2 ∙ kept (lowest (schedule_faults k u at l m)) (verdict_of k u) m at (ends k u) g,
    ))

pub demand1-row : Demand1Row
demand1-row k q row f r p = told_verdict p (λ n i e c. c)

told_bucket : {a : Answer Bucket} {r : PlannerBucket} → r ≡ bucket_answer a
    → Told a r.kind r.number r.place ((r.buffer ≡ 0) × (r.fullness ≡ 0))
told_bucket p =
    told (λ r. r.kind) (λ r. r.number) (λ r. r.place) bucket_answer p (λ x. (lit≤ tt, refl, refl)) (λ n i. (refl, refl, refl))
    (λ n i e q. (ap (λ r. r.buffer) q, ap (λ r. r.fullness) q))

pub demand1-least : Demand1Least
demand1-least k rate r p = told_bucket p

pub demand1-lookup : Demand1Lookup
demand1-lookup w rate r p = told_bucket p

pub demand1-table : Demand1Table
demand1-table k rates at l m r b f p =
    told_judgement p.0
    (λ n i e. (p.1 ∙ ap (λ j. written_if j l at (map (least_buffer k) rates)) e, p.2 ∙ ap (λ j. written_if j m at (map (least_fullness k) rates)) e))

pub demand1-seconds : Demand1Seconds
demand1-seconds u r p =
    told (λ r. r.kind) (λ r. r.number) (λ r. r.place) seconds_answer p (λ x. (lit≤ tt, refl, refl)) (λ n i. (refl, refl, refl))
    (λ n i e q. (ap (λ r. r.wait) q, ap (λ r. r.fill) q))

pub demand1-panel : Demand1Panel
demand1-panel u limit r p =
    told (λ r. r.kind) (λ r. r.number) (λ r. r.place) reading_answer p
    reading_given
    (λ n i. (refl, refl, refl))
    (λ n i e q. (ap (λ r. r.wait) q, ap (λ r. r.limit) q))

told_position : {a : Answer ℕ} {r : PlannerPosition} {Clear : Type 0} → r ≡ position_answer a
    → ((n i : ℕ) → a ≡ refused n i → Clear)
    → Told a r.kind r.number r.place ((r.next ≡ 0) × Clear)
told_position p clear =
    told (λ r. r.kind) (λ r. r.number) (λ r. r.place) position_answer p (λ x. (lit≤ tt, refl, refl)) (λ n i. (refl, refl, refl))
    (λ n i e q. (ap (λ r. r.next) q, clear n i e))

pub demand1-length : Demand1Length
demand1-length q r p =
    told (λ r. r.kind) (λ r. r.number) (λ r. r.place) length_answer p (λ x. (lit≤ tt, refl, refl)) (λ n i. (refl, refl, refl))
    (λ n i e q. ap (λ r. r.bits) q)

pub demand1-params-row : Demand1ParamsRow
demand1-params-row q row r p =
    told (λ r. r.kind) (λ r. r.number) (λ r. r.place) row_answer p (λ x. (lit≤ tt, refl, refl)) (λ n i. (refl, refl, refl))
    (λ n i e q. (ap (λ r. r.rate) q, ap (λ r. r.size) q))

pub demand1-read : Demand1Read
demand1-read bytes start r p = told_position p.0 (λ n i e. p.1 ∙ zeroed (params.params_reading (bits_of bytes) start) e)

pub demand1-write : Demand1Write
demand1-write q bytes start r after p =
    told_position p.0
    (λ n i e. p.1 ∙ kept_bytes (first (params.write_faults (params_of q) bytes start)) _ bytes start (params.params_bits (params_of q)) e)

pub demand1-open : Demand1Open
demand1-open bytes l m o r sizes ticks rates p =
    let j : Judgement = first (open_faults bytes l m o) in
    told (λ r. r.kind) (λ r. r.number) (λ r. r.place) sheet_answer p.0 (λ x. (lit≤ tt, refl, refl)) (λ n i. (refl, refl, refl))
    (λ n i e q. (
      ap (λ r. r.pictures) q,
      ap (λ r. r.rates) q,
      ap (λ r. r.ts) q,
      ap (λ r. r.nu) q,
      p.1 ∙ kept j (head_of bytes) l 0 (sheet_sizes bytes) e,
      p.2 ∙ kept j (head_of bytes) m 0 (sheet_ticks bytes) e,
      p.3 ∙ kept j (head_of bytes) o 0 (sheet_rates bytes) e,
    ))

pub demand1-print : Demand1Print
demand1-print bytes l r text p =
    told (λ r. r.kind) (λ r. r.number) (λ r. r.place) text_answer p.0 (λ o. output o.judged o.end) (λ n i. (refl, refl, refl))
    (λ n i e q. (
      ap (λ r. r.length) q,
      ap (λ r. r.sheet_number) q,
      ap (λ r. r.sheet_place) q,
      p.1 ∙ kept (room_check l 0 (length (sheet_text bytes))) (output_of bytes) l 0 (sheet_text bytes) e,
    ))
  where
    output : (j : Judgement) (end : ℕ) → (1 ≤ (text_by j end).kind) × ((text_by j end).number ≡ 0) × ((text_by j end).place ≡ 0)
    output (given tt) end = (lit≤ tt, refl, refl)
    output (refused n i) end = (lit≤ tt, refl, refl)
