-- What the promises come to where nothing is refused.
--     LeastSaid, least-promised   least figures that are given are the definition's, of a recording and a rate within the limits
--     least-promise               and the definition's are what is given for such a recording and rate
--     figures-row                 so are, row by row, those of a list of rates within the limits
--     TableSaid, table-promised   a table that was written has these in its two lists
--     a-bucket, least-bucket      figures within the limits are a bucket; so are the least of a recording within the limits
--     verdict-promised            the verdict on it is the definition's
-- Promises: schedule/specs/Promises.antt, least/specs/Promises.antt. Assumes nothing.
use Prim.Native.Nat.{ℕ, ◌+◌, ◌≤◌, ◌<◌}
use native.Mathlib.Nat.{le_trans}
use mathlib.Core.Path.{◌≡◌, sym, ap, ◌∙◌}
use mathlib.Core.Bool.{false}
use mathlib.Core.List.{List, [], ◌∷◌, ◌++◌, map}
use lib.ListN.{length, get_or}
use Rattle.std.specs.Prelude.{Ok}
use Rattle.rules.specs.Limits.{rate_max, bucket_max}
use Rattle.rules.specs.Refusals as refusal
use Rattle.terms.specs.Numbers.{outside, written}
use Rattle.terms.specs.Answers.{Judgement, given, passed, lowest}
use Rattle.terms.proofs.NumbersLaws.{map-at, or-false, outside-false}
use Rattle.terms.proofs.AnswersLaws.{refuse_if-passed, test-false, answer-given, answer-passed, lowest-both, lower-both, lowest-each, lowest-passed, room_check-passed}
use Rattle.model.specs.Recording.{Recording, Within}
use Rattle.model.specs.Arrival.{Bucket, bucket, verdict_of}
use Rattle.model.specs.Least.{least_buffer, least_fullness, least_bucket}
use Rattle.model.specs.Faults.{bad_rate, bad_bucket, rate_check, rate_count_check, rate_list_check, recording_faults, rates_faults, room_faults, least_faults, table_faults, seconds_faults}
use Rattle.model.specs.Outcomes as outcomes
use Rattle.model.specs.Outcomes.{judge_outcome, verdict_outcome}
use Rattle.model.proofs.FaultsLaws.{rate_list-within, within-recorded}
use Rattle.model.proofs.LeastLaws.{least_fullness-buffer, least_fullness-some, least_buffer-limit}
use Rattle.least.specs.Promises.{LeastPromise, TablePromise}
use Rattle.demands.specs.Given.{figures}

-- what least figures that are not refused say
pub record LeastSaid (k : Recording) (rate least_b least_f : ℕ) : Type 0 where
  pub judged : judge_outcome k ≡ passed
  pub rated : bad_rate rate ≡ false
  pub buffer : least_b ≡ least_buffer k rate
  pub fullness : least_f ≡ least_fullness k rate

pub least-promised : (k : Recording) (rate least_b least_f : ℕ) → LeastPromise k rate (figures rate least_b least_f) → LeastSaid k rate least_b least_f
least-promised k rate least_b least_f p =
    let (ok, same) = answer-passed (lowest (least_faults k rate)) (least_bucket k rate) (bucket rate least_b least_f) (sym p) in
    let (judged, rest) = lowest-each (recording_faults k) (rate_check rate ∷ []) ok in
    record {
      judged = judged;
      rated = (refuse_if-passed (bad_rate rate) refusal.rate 0).0 ((lowest-passed (rate_check rate ∷ [])).0 rest).0;
      buffer = sym (ap (λ u. u.buffer) same);
      fullness = sym (ap (λ u. u.fullness) same);
    }

-- a recording that passes, with further checks that pass
judged-and : (k : Recording) (js : List Judgement) → judge_outcome k ≡ passed → lowest js ≡ passed → lowest (recording_faults k ++ js) ≡ passed
judged-and k js judged ok = lowest-both (recording_faults k) js ∙ (lower-both (judge_outcome k) (lowest js)).1 (judged, ok)

pub least-promise : (k : Recording) (r : ℕ) → judge_outcome k ≡ passed → bad_rate r ≡ false → LeastPromise k r (figures r (least_buffer k r) (least_fullness k r))
least-promise k r judged rated =
    sym (answer-given (least_bucket k r) (judged-and k (rate_check r ∷ []) judged ((lowest-passed (rate_check r ∷ [])).1 (test-false refusal.rate 0 rated, tt))))

pub figures-row : (k : Recording) (rates : List ℕ) → judge_outcome k ≡ passed → rate_list_check rates ≡ passed → (i : ℕ) → i < length rates
    → LeastPromise k (get_or rates i 0) (figures (get_or rates i 0) (get_or (map (least_buffer k) rates) i 0) (get_or (map (least_fullness k) rates) i 0))
figures-row k rates judged listed i h =
    let r = (rate_list-within rates).0 listed in
    rw (map-at (least_buffer k) rates i h, map-at (least_fullness k) rates i h)
    (least-promise k (get_or rates i 0) judged ((outside-false 1 rate_max _).1 (r.some i h, r.small i h)))

-- what a table that was written says
pub record TableSaid (k : Recording) (rates : List ℕ) (at : ℕ) (l m buffers fullnesses : List ℕ) : Type 0 where
  pub judged : judge_outcome k ≡ passed
  pub counted : rate_count_check rates ≡ passed
  pub listed : rate_list_check rates ≡ passed
  pub room_b : at + length rates ≤ length l
  pub room_f : at + length rates ≤ length m
  pub buffer : buffers ≡ written l at (map (least_buffer k) rates)
  pub fullness : fullnesses ≡ written m at (map (least_fullness k) rates)

pub table-promised : (k : Recording) (rates : List ℕ) (at : ℕ) (l m buffers fullnesses : List ℕ) → TablePromise k rates at l m (Ok tt) buffers fullnesses
    → TableSaid k rates at l m buffers fullnesses
table-promised k rates at l m buffers fullnesses p =
    let room = room_faults l m at (length rates) in
    let ok : lowest (table_faults k rates at l m) ≡ passed = sym (ap (λ (t : outcomes.Tabled). t.answer) p) in
    let (judged, rest) = lowest-each (recording_faults k) (rates_faults rates ++ room) ok in
    let (rated, roomy) = lowest-each (rates_faults rates) room rest in
    let of-rates = (lowest-passed (rates_faults rates)).0 rated in
    let of_room = (lowest-passed room).0 roomy in
    record {
      judged = judged;
      counted = of-rates.0;
      listed = of-rates.1.0;
      room_b = (room_check-passed l at (length rates)).0 of_room.0;
      room_f = (room_check-passed m at (length rates)).0 of_room.1.0;
      buffer = ap (λ (t : outcomes.Tabled). t.buffers) p ∙ rw ok;
      fullness = ap (λ (t : outcomes.Tabled). t.fullnesses) p ∙ rw ok;
    }

pub a-bucket : (b f : ℕ) → b ≤ bucket_max → 1 ≤ f → f ≤ b → bad_bucket b f ≡ false
a-bucket b f most some within =
    (or-false (outside 1 bucket_max b) (outside 1 b f)).1
    ((outside-false 1 bucket_max b).1 (le_trans some within, most), (outside-false 1 b f).1 (some, within))

pub least-bucket : (k : Recording) → Within k → (rate : ℕ) → bad_bucket (least_buffer k rate) (least_fullness k rate) ≡ false
least-bucket k w rate =
    let rec = within-recorded w in
    a-bucket _ _ (least_buffer-limit rate rec w.few w.small) (least_fullness-some rate rec) (least_fullness-buffer k rate w.ticking)

pub verdict-promised : (k : Recording) (u : Bucket) → judge_outcome k ≡ passed → bad_rate u.rate ≡ false → bad_bucket u.buffer u.fullness ≡ false
    → verdict_outcome k u ≡ given (verdict_of k u)
verdict-promised k u judged rated ok =
    answer-given (verdict_of k u)
    (judged-and k (seconds_faults u) judged ((lowest-passed (seconds_faults u)).1 (test-false refusal.rate 0 rated, (test-false refusal.bucket 0 ok, tt))))
