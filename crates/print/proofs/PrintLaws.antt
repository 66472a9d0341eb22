-- What is printed of a sheet, step by step as the code does it. Definitions: layout/specs/Sheet.antt, specs/Outcome.antt.
--     rows-few, least-fits                      the text of the least figures of a recording and rates that were judged fits the room for a text
--     table-passed                              they have a table, where there is room for it
--     table-given                               which is not refused
--     buffers-written, fullnesses-written       and which is what the two lists then have at their front
--     Tables, tables                            so of two lists of zeros with room for every table
--     front                                     the recording at the front of two lists
--     open-judged                               lists with room for every sheet are never the fault in opening one
--     judged-refused                            so a sheet that does not open was refused as opening says
--     Opens                                     a sheet that opens: it passed, its lists stand at the front of the three, were judged there, and their table is printed
--     opens                                     it is so of each that opens
--     sheet-refused, sheet-opens                the same of lists of zeros with room for every sheet
--     print-given                               a text that was put together is printed to a lent list with room for it
--     output-printed                            what the answer says of a text is what the sheet comes to, and there was room for it
-- Assumes nothing.
use Prim.Native.Nat.{ℕ, ◌+◌, ◌*◌, ◌≤◌}
use native.Mathlib.Nat.{le_of_eq, le_trans, lt_of_le_of_lt}
use native.Mathlib.Omega.{arith}
use mathlib.Core.Path.{◌≡◌, refl, sym, ap, ◌∙◌}
use mathlib.Core.Bool.{false}
use mathlib.Core.List.{List, [], ◌∷◌, ◌++◌, map}
use lib.Dec.{lit<}
use lib.ListN.{length, get_or, take, replicate, length-map, length-replicate}
use Rattle.std.specs.Prelude.{Result, Ok, Err}
use Rattle.std.specs.Result.{IsOk, IsErrAnd}
use Rattle.rules.specs.Limits.{header_bytes, sheet_pictures_max, rows_max, bucket_max, text_max}
use Rattle.rules.specs.Refusals as refusal
use Rattle.terms.specs.Numbers.{written, outside}
use Rattle.terms.specs.Words.{word_at, words_at}
use Rattle.terms.specs.Answers.{Answer, Judgement, given, passed, refused, or_else, lowest, first, answer_with, written_if, room_check}
use Rattle.terms.proofs.NumbersLaws.{map-at, list_of-length, written-front, written-fits, outside-false}
use Rattle.terms.proofs.AnswersLaws.{refused-not-passed, refuse_if-passed, or_else-passed, first-passed, first-append, test-false, answer-passed, answer-refuses, lowest-both, lower-both, lowest-each, lowest-passed, room_check-passed}
use Rattle.model.specs.Recording.{Recording, recording, Within}
use Rattle.model.specs.Least.{least_buffer, least_fullness}
use Rattle.model.specs.Faults.{rate_count_check, rate_list_check, recording_faults, rates_faults, room_faults, table_faults}
use Rattle.model.specs.Outcomes as outcomes
use Rattle.model.specs.Outcomes.{judge_outcome, table_outcome}
use Rattle.model.proofs.FaultsLaws.{judge_outcome-within, rate_list-within, within-recorded}
use Rattle.model.proofs.LeastLaws.{least_fullness-buffer, least_buffer-limit}
use Rattle.layout.specs.Text.{table_text}
use Rattle.layout.specs.Sheet as sheet
use Rattle.layout.specs.Sheet.{picture_count, rate_count, sheet_rates, sheet_recording, header_faults, list_faults, sheet_faults, open_faults, open_outcome, least_text, sheet_text, print_outcome}
use Rattle.layout.proofs.TextLaws.{table_text-fits}
use Rattle.layout.proofs.SheetLaws.{Laid, header_faults-laid}
use Rattle.least.specs.Outcome.{tabled}
use Rattle.text.specs.Put.{Put}
use Rattle.words.proofs.FrontLaws.{words-fit}
use Rattle.sheet.specs.declared.Head.{Head}
use Rattle.sheet.specs.Outcome.{head_of, opened_of, opened}
use Rattle.sheet.proofs.OpenLaws.{rooms, head-pictures, head-rates, recording-read, rates-read}
use Rattle.judgement.specs.Outcome.{number_of, place_of, judgement_of}
use Rattle.judgement.specs.declared.Refusal.{Refusal}
use Rattle.judgement.proofs.Steps.{stopped, passes as step-passes}
use Rattle.print.specs.declared.Output.{Output}
use Rattle.print.specs.Outcome.{output_of, printed_of, printed}

is_ok : (r : Result (Unit {0}) Refusal) → judgement_of r ≡ passed → IsOk r
is_ok (Ok x) e = refl
is_ok (Err r) e = absurd (refused-not-passed e)

-- a table that was written to the front of two lists: what it says is the text of the recording's least figures, which fits
pub record Tables (k : Recording) (rates : List ℕ) (r : Result (Unit {0}) Refusal) (buffers fullnesses : List ℕ) : Type 0 where
  pub given : IsOk r
  pub buffers_fit : (length rates ≤ length buffers) × (length rates ≡ length (take (length rates) buffers))
  pub fullnesses_fit : (length rates ≤ length fullnesses) × (length rates ≡ length (take (length rates) fullnesses))
  pub text : table_text rates (take (length rates) buffers) (take (length rates) fullnesses) ≡ least_text k rates
  pub fits : length (least_text k rates) ≤ text_max

-- a recording and rates that were judged
module _ (k : Recording) (rates : List ℕ) (judged : judge_outcome k ≡ passed) (counted : rate_count_check rates ≡ passed) (listed : rate_list_check rates ≡ passed) where
  pub rows-few : length rates ≤ rows_max
  rows-few = ((outside-false 1 rows_max (length rates)).0 ((refuse_if-passed _ refusal.rate 0).0 counted)).1

  within : Within k
  within = (judge_outcome-within k).0 judged

  buffer-small : (rate : ℕ) → least_buffer k rate ≤ bucket_max
  buffer-small rate = least_buffer-limit rate (within-recorded within) within.few within.small

  pub least-fits : length (least_text k rates) ≤ text_max
  least-fits =
      table_text-fits rates (map (least_buffer k) rates) (map (least_fullness k) rates) rows-few
      (λ i h.
      let r = (rate_list-within rates).0 listed in
      let b = buffer-small (get_or rates i 0) in
      let f = le_trans (least_fullness-buffer k (get_or rates i 0) within.ticking) b in
      rw (map-at (least_buffer k) rates i h, map-at (least_fullness k) rates i h)
      (lt_of_le_of_lt (r.small i h) (lit< tt), lt_of_le_of_lt b (lit< tt), lt_of_le_of_lt f (lit< tt)))

  module _ (l m : List ℕ) (room_b : length rates ≤ length l) (room_f : length rates ≤ length m) where
    pub table-passed : lowest (table_faults k rates 0 l m) ≡ passed
    table-passed =
        let faults = rates_faults rates ++ room_faults l m 0 (length rates) in
        let room_b = (room_check-passed l 0 (length rates)).1 (omega arith) in
        let room_f = (room_check-passed m 0 (length rates)).1 (omega arith) in
        lowest-both (recording_faults k) faults
        ∙ (lower-both (judge_outcome k) (lowest faults)).1 (judged, (lowest-passed faults).1 (counted, (listed, (room_b, (room_f, tt)))))

    module _ (r : Result (Unit {0}) Refusal) (b f : List ℕ) (p : tabled r b f ≡ table_outcome k rates 0 l m) where
      pub table-given : IsOk r
      table-given = is_ok r (ap (λ (t : outcomes.Tabled). t.answer) p ∙ table-passed)

      pub buffers-written : b ≡ written l 0 (map (least_buffer k) rates)
      buffers-written = ap (λ (t : outcomes.Tabled). t.buffers) p ∙ ap (λ j. written_if j l 0 (map (least_buffer k) rates)) table-passed

      pub fullnesses-written : f ≡ written m 0 (map (least_fullness k) rates)
      fullnesses-written = ap (λ (t : outcomes.Tabled). t.fullnesses) p ∙ ap (λ j. written_if j m 0 (map (least_fullness k) rates)) table-passed

  pub tables : (r : Result (Unit {0}) Refusal) (b f : List ℕ) → tabled r b f ≡ table_outcome k rates 0 (replicate rows_max 0) (replicate rows_max 0) → Tables k rates r b f
  tables r b f p =
      let l : List ℕ = replicate rows_max 0 in
      let bs : b ≡ written l 0 (map (least_buffer k) rates) = buffers-written l l rows-few rows-few r b f p in
      let fs : f ≡ written l 0 (map (least_fullness k) rates) = fullnesses-written l l rows-few rows-few r b f p in
      record {
        given = table-given l l rows-few rows-few r b f p;
        buffers_fit = written-fits l b (map (least_buffer k) rates) _ bs (length-map rates (least_buffer k));
        fullnesses_fit = written-fits l f (map (least_fullness k) rates) _ fs (length-map rates (least_fullness k));
        text = rw (written-front l b _ _ bs (length-map rates (least_buffer k)), written-front l f _ _ fs (length-map rates (least_fullness k)));
        fits = least-fits;
      }

-- the recording at the front of two lists
abbrev pub front : (sizes ticks : List ℕ) → Head → Recording
front sizes ticks head = recording (take head.pictures sizes) (take head.pictures ticks) head.ts head.nu

-- a sheet that opened, into three lists with room for it
pub record Opens (bytes sizes ticks rates : List ℕ) (head : Head) : Type 0 where
  pub sizes_fit : (head.pictures ≤ length sizes) × (head.pictures ≡ length (take head.pictures sizes))
  pub ticks_fit : (head.pictures ≤ length ticks) × (head.pictures ≡ length (take head.pictures ticks))
  pub rates_fit : (head.rates ≤ length rates) × (head.rates ≡ length (take head.rates rates))
  pub judged : (judge_outcome (front sizes ticks head) ≡ passed) × (rate_count_check (take head.rates rates) ≡ passed) × (rate_list_check (take head.rates rates) ≡ passed)
  pub passes : first (sheet_faults bytes) ≡ passed
  pub text : sheet_text bytes ≡ least_text (front sizes ticks head) (take head.rates rates)

-- lists with room for every sheet
module _ (bytes l m r : List ℕ) (hl : sheet_pictures_max ≤ length l) (hm : sheet_pictures_max ≤ length m) (hr : rows_max ≤ length r) where
  rooms-passed : Laid bytes → first (rooms bytes l m r) ≡ passed
  rooms-passed h =
      let room : (l : List ℕ) (n most : ℕ) → n ≤ most → most ≤ length l → room_check l 0 n ≡ passed = λ l n most few fits. (room_check-passed l 0 n).1 (omega arith) in
      (first-passed (rooms bytes l m r)).1 (room l _ _ h.few hl, (room m _ _ h.few hm, (room r _ _ h.rows hr, tt)))

  -- a sheet with no fault is laid out, and has none in its lists
  parts : first (sheet_faults bytes) ≡ passed → Laid bytes × (lowest (list_faults bytes) ≡ passed)
  parts e =
      let lists = lowest (list_faults bytes) ∷ [] in
      let both = (or_else-passed (first (header_faults bytes)) (first lists)).0 (sym (first-append (header_faults bytes) lists) ∙ e) in
      ((header_faults-laid bytes).0 both.0, ((first-passed lists).0 both.1).0)

  pub open-judged : first (open_faults bytes l m r) ≡ first (sheet_faults bytes)
  open-judged = first-append (sheet_faults bytes) (rooms bytes l m r) ∙ go _ refl
    where
      go : (j : Judgement) → first (sheet_faults bytes) ≡ j → or_else (first (sheet_faults bytes)) (first (rooms bytes l m r)) ≡ first (sheet_faults bytes)
      go (given tt) e = rw e (rooms-passed (parts e).0)
      go (refused n i) e = rw e

  module _ (o : Result Head Refusal) (sizes ticks rates : List ℕ) (p : opened o sizes ticks rates ≡ open_outcome bytes l m r) where
    answers : {a : Answer sheet.Head} → (opened o sizes ticks rates).answer ≡ a → answer_with (first (open_faults bytes l m r)) (sheet.head_of bytes) ≡ a
    answers e = sym (ap (λ (t : sheet.Opened). t.answer) p) ∙ e

    pub judged-refused : (e : Refusal) → o ≡ Err e → first (sheet_faults bytes) ≡ refused (number_of e) (place_of e)
    judged-refused e was = sym open-judged ∙ answer-refuses _ (sheet.head_of bytes) _ _ (answers (ap opened_of was))

    module _ (head : Head) (e : o ≡ Ok head) where
      said : (first (open_faults bytes l m r) ≡ passed) × (head_of head ≡ sheet.head_of bytes)
      said = let (ok, same) = answer-passed _ (sheet.head_of bytes) (head_of head) (answers (ap opened_of e)) in (ok, sym same)

      passes : first (sheet_faults bytes) ≡ passed
      passes = sym open-judged ∙ said.0

      -- what stands at the front of the three lists
      sizes-written : sizes ≡ written l 0 (words_at bytes header_bytes head.pictures)
      sizes-written = ap (λ (t : sheet.Opened). t.sizes) p ∙ rw (said.0, head-pictures bytes head said.1)

      ticks-written : ticks ≡ written m 0 (words_at bytes (header_bytes + 4 * head.pictures) head.pictures)
      ticks-written = ap (λ (t : sheet.Opened). t.ticks) p ∙ rw (said.0, head-pictures bytes head said.1)

      rates-written : rates ≡ written r 0 (words_at bytes (header_bytes + 8 * head.pictures) head.rates)
      rates-written = ap (λ (t : sheet.Opened). t.rates) p ∙ rw (said.0, head-pictures bytes head said.1, head-rates bytes head said.1)

      whole : front sizes ticks head ≡ sheet_recording bytes
      whole = recording-read bytes head said.1 l sizes m ticks sizes-written ticks-written

      listed : take head.rates rates ≡ sheet_rates bytes
      listed = rates-read bytes head said.1 r rates rates-written

      lists : (judge_outcome (sheet_recording bytes) ≡ passed) × (rate_list_check (sheet_rates bytes) ≡ passed)
      lists =
          let rated = rate_list_check (sheet_rates bytes) ∷ [] in
          let both = lowest-each (recording_faults (sheet_recording bytes)) rated (parts passes).1 in
          (both.0, ((lowest-passed rated).0 both.1).0)

      counted : outside 1 rows_max (length (sheet_rates bytes)) ≡ false
      counted =
          let h : Laid bytes = (parts passes).0 in
          rw (list_of-length (λ i. word_at bytes (header_bytes + 8 * picture_count bytes + 4 * i)) (rate_count bytes))
          ((outside-false 1 rows_max (rate_count bytes)).1 (h.rated, h.rows))

      pub opens : Opens bytes sizes ticks rates head
      opens =
          record {
            sizes_fit = words-fit bytes header_bytes head.pictures l sizes sizes-written;
            ticks_fit = words-fit bytes (header_bytes + 4 * head.pictures) head.pictures m ticks ticks-written;
            rates_fit = words-fit bytes (header_bytes + 8 * head.pictures) head.rates r rates rates-written;
            judged = (ap judge_outcome whole ∙ lists.0, ap rate_count_check listed ∙ test-false refusal.rate 0 counted, ap rate_list_check listed ∙ lists.1);
            passes = passes;
            text = rw (passes, whole, listed);
          }

-- lists of zeros have room for every sheet
abbrev zeros : ℕ → List ℕ
zeros n = replicate n 0

enough : (n : ℕ) → n ≤ length (zeros n)
enough n = le_of_eq (sym (length-replicate {A = ℕ} n 0))

module _ (bytes : List ℕ) (o : Result Head Refusal) (sizes ticks rates : List ℕ)
    (p : opened o sizes ticks rates ≡ open_outcome bytes (zeros sheet_pictures_max) (zeros sheet_pictures_max) (zeros rows_max)) where
  pub sheet-refused : {A : Type 0} (e : Refusal) → o ≡ Err e → (out : Result A Refusal) → IsErrAnd out (λ y. y ≡ e) → judgement_of out ≡ first (sheet_faults bytes)
  sheet-refused e was out back =
      ap judgement_of (stopped out e back)
      ∙ sym (judged-refused bytes (zeros sheet_pictures_max) (zeros sheet_pictures_max) (zeros rows_max) (enough _) (enough _) (enough _) o sizes ticks rates p e was)

  pub sheet-opens : (head : Head) → o ≡ Ok head → Opens bytes sizes ticks rates head
  sheet-opens head was =
      opens bytes (zeros sheet_pictures_max) (zeros sheet_pictures_max) (zeros rows_max) (enough _) (enough _) (enough _) o sizes ticks rates p head was

-- printing to a lent list, with room for it, what was put together
pub print-given : (bytes text whole₀ whole : List ℕ) (o : Output) → Put whole₀ 0 (sheet_text bytes) whole o.end × (judgement_of o.judged ≡ first (sheet_faults bytes))
    → (r : Result (Unit {0}) Refusal) (x : Unit {0}) → judgement_of r ≡ room_check text 0 o.end → r ≡ Ok x
    → (text' : List ℕ) → text' ≡ written text 0 (take o.end whole) → printed (Ok o) text' ≡ print_outcome bytes text
print-given bytes text whole₀ whole o (put, said) r x says was text' w =
    let ends : length (sheet_text bytes) ≡ o.end = omega (arith, put.1) in
    let front : take o.end whole ≡ sheet_text bytes = written-front whole₀ whole (sheet_text bytes) o.end put.0 ends in
    rw (ends, step-passes r x says was, w, front, said)

-- what an answer with a text says
pub output-printed : (bytes text₀ text : List ℕ) (v : Result Output Refusal) (o : Output) → printed v text ≡ print_outcome bytes text₀ → v ≡ Ok o
    → (room_check text₀ 0 (length (sheet_text bytes)) ≡ passed) × (sheet.output_of bytes ≡ output_of o)
output-printed bytes text₀ text v o p e =
    answer-passed _ (sheet.output_of bytes) (output_of o) (sym (ap (λ (t : sheet.Printed). t.answer) p) ∙ ap printed_of e)
