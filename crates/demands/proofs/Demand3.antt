-- Demand 3 about the planner's own answers. Statements: specs/Demand3.antt; over the definitions: model/proofs/Demand3.antt.
--     lookup-said       a lookup that gives a bucket has passed its checks
--     figure-between    between neighbouring rows and on them it gives the figure interpolated and rounded up
--     demand3-answers   it holds by the planner's own verdict, within the allowance
--     lookup-passed     a lookup in a table of least figures is not refused
--     demand3-table     so that the same is true of it
-- Assumes nothing.
use Prim.Native.Nat.{ℕ, suc, ◌+◌, ◌-◌, ◌*◌, ◌≤◌, ◌<◌}
use native.Mathlib.Nat.{le_trans, le_antisymm, le_of_lt, eq-or-lt_of_le, zero-add, mul-zero, sub_self, add-zero, mul-le-mul_right, le_of_mul-le-mul_left}
use native.Mathlib.Omega.{arith}
use mathlib.Core.Path.{◌≡◌, sym, ap, ◌∙◌}
use mathlib.Core.Bool.{false}
use mathlib.Core.Logic.{⊎_elim}
use mathlib.Core.List.{List, map}
use lib.ListN.{length, get_or, length-map}
use lib.Dec.{ltb}
use borrow.Author.Tests.{eq-eqb, le-ltb}
use Rattle.rules.specs.Limits.{span_max, ts_max, nu_max, rate_max, bucket_max}
use Rattle.rules.specs.Refusals as refusal
use Rattle.terms.specs.Numbers.{round_up, outside}
use Rattle.terms.specs.Answers.{given, passed, lowest}
use Rattle.model.specs.Recording.{Recording, Within, pictures, span}
use Rattle.model.specs.Arrival.{bucket}
use Rattle.model.specs.Least.{least_buffer, least_fullness}
use Rattle.model.specs.Lookup.{Axis, Table, table, axis_of, blend, figure_at, lookup_of}
use Rattle.model.specs.Faults.{bad_clock, bad_rate, bad_bucket, bad_row, rate_count_check, rate_list_check, RatesWithin, lookup_faults}
use Rattle.model.specs.Outcomes.{judge_outcome}
use Rattle.model.specs.Demands.{between}
use Rattle.terms.proofs.NumbersLaws.{round_up-le, round_up-above, map-at, written-all, or-false, outside-false}
use Rattle.terms.proofs.AnswersLaws.{first_fault-passed, lowest-passed, test-false, answer-given, answer-passed}
use Rattle.model.proofs.RecordingLaws.{within-near}
use Rattle.model.proofs.FaultsLaws.{judge_outcome-within, rate_list-within, within-recorded}
use Rattle.model.proofs.LeastLaws.{least_fullness-some, least_buffer-limit}
use Rattle.model.proofs.LookupLaws.{figure_at-on, figure_at-between}
use Rattle.model.proofs.Demand3.{demand3-holds, demand3-excess}
use Rattle.lookup.specs.Promises.{LookupPromise}
use Rattle.lookup.proofs.Unique.{found_of-one}
use Rattle.demands.specs.Given.{figures}
use Rattle.demands.specs.Demand3.{Demand3Answers, Demand3Table}
use Rattle.demands.proofs.Promised.{least-promised, least-promise, figures-row, table-promised, a-bucket, least-bucket, verdict-promised}

round_up-exact : (x d : ℕ) → 0 < d → round_up (x * d) d ≡ x
round_up-exact x d h =
    le_antisymm ((round_up-le d (x * d) x h).1 (omega arith)) (le_of_mul-le-mul_left (omega (arith, round_up-above d (x * d) h)) h)

-- on the two rows themselves an interpolated figure is the row's
blend-left : (ra rb xa xb : ℕ) → ra < rb → blend ra rb xa xb ra ≡ xa
blend-left ra rb xa xb h = rw (sub_self ra, mul-zero, add-zero) (round_up-exact xa (rb - ra) (omega arith))

blend-right : (ra rb xa xb : ℕ) → ra < rb → blend ra rb xa xb rb ≡ xb
blend-right ra rb xa xb h = rw (sub_self rb, mul-zero, zero-add) (round_up-exact xb (rb - ra) (omega arith))

blend-limit : (ra rb xa xb r m : ℕ) → ra < rb → ra ≤ r → r ≤ rb → xa ≤ m → xb ≤ m → blend ra rb xa xb r ≤ m
blend-limit ra rb xa xb r m apart lo hi ha hb =
    let split : rb - ra ≡ r - ra + (rb - r) = omega arith in
    (round_up-le (rb - ra) _ m (omega arith)).1
    (rw split (omega (arith, mul-le-mul_right (rb - r) ha, mul-le-mul_right (r - ra) hb)))

-- what a lookup that gives a bucket says
record LookupSaid (w : Table) (r b f : ℕ) : Type 0 where
  rates : RatesWithin w.rates
  buffer : b ≡ figure_at (axis_of w) w.buffers r
  fullness : f ≡ figure_at (axis_of w) w.fullnesses r

lookup-said : (w : Table) (r b f : ℕ) → LookupPromise w r (figures r b f) → LookupSaid w r b f
lookup-said w r b f p =
    let (ok, same) = answer-passed (lowest (lookup_faults w r)) (lookup_of w r) (bucket r b f) (sym p) in
    let (_, (_, (_, (listed, _)))) = (lowest-passed (lookup_faults w r)).0 ok in
    record {
      rates = (rate_list-within w.rates).0 listed;
      buffer = sym (ap (λ u. u.buffer) same);
      fullness = sym (ap (λ u. u.fullness) same);
    }

figure-between : (a : Axis) (xs : List ℕ) (i r : ℕ) → RatesWithin a.rates → suc i < length a.rates
    → get_or a.rates i 0 ≤ r → r ≤ get_or a.rates (suc i) 0
    → figure_at a xs r ≡ blend (get_or a.rates i 0) (get_or a.rates (suc i) 0) (get_or xs i 0) (get_or xs (suc i) 0) r
figure-between a xs i r rates h lo hi =
    let apart = rates.rising i h in
    ⊎_elim
    (λ e. figure_at-on a xs r rates.rising i (le_of_lt h) e ∙ sym (blend-left _ _ _ _ apart) ∙ ap (blend _ _ _ _) e)
    (λ lt. ⊎_elim
    (λ e. figure_at-on a xs r rates.rising (suc i) h (sym e) ∙ sym (blend-right _ _ _ _ apart) ∙ ap (blend _ _ _ _) (sym e))
    (λ lt'. figure_at-between a xs r rates.rising i h lt lt')
    (eq-or-lt_of_le hi))
    (eq-or-lt_of_le lo)

pub demand3-answers : Demand3Answers
demand3-answers k w i r b f h row_a row_b lo hi p =
    let said = lookup-said w r b f p in
    let rates = said.rates in
    let a = least-promised k _ _ _ row_a in
    let c = least-promised k _ _ _ row_b in
    let within = (judge_outcome-within k).0 a.judged in
    let rec = within-recorded within in
    let ra = get_or w.rates i 0 in
    let rb = get_or w.rates (suc i) 0 in
    let apart : ra < rb = rates.rising i h in
    let is_b : b ≡ between (least_buffer k) ra rb r = said.buffer ∙ figure-between (axis_of w) w.buffers i r rates h lo hi ∙ rw (a.buffer, c.buffer) in
    let is_f : f ≡ between (least_fullness k) ra rb r = said.fullness ∙ figure-between (axis_of w) w.fullnesses i r rates h lo hi ∙ rw (a.fullness, c.fullness) in
    let (full, enough_b, enough_f, held) = demand3-holds k rec ra rb r apart lo hi in
    let (tight_b, tight_f) = demand3-excess k rec ra rb r apart lo hi in
    let limit : (rate : ℕ) → least_buffer k rate ≤ bucket_max = λ rate. least_buffer-limit rate rec within.few within.small in
    let ok : bad_bucket (between (least_buffer k) ra rb r) (between (least_fullness k) ra rb r) ≡ false = a-bucket _ _ (blend-limit ra rb _ _ r bucket_max apart lo hi (limit ra) (limit rb)) (le_trans (least_fullness-some r rec) enough_f) full in
    let rated : bad_rate r ≡ false = (outside-false 1 rate_max r).1 (le_trans (rates.some i (le_of_lt h)) lo, le_trans hi (rates.small (suc i) h)) in
    rw (is_b, is_f)
    (record {
      least_b = least_buffer k r;
      least_f = least_fullness k r;
      least = least-promise k r a.judged rated;
      holds = sym (verdict-promised k (bucket r (between (least_buffer k) ra rb r) (between (least_fullness k) ra rb r)) a.judged rated ok ∙ ap given held);
      enough_b = enough_b;
      enough_f = enough_f;
      tight_b = tight_b;
      tight_f = tight_f;
    })

module _ (k : Recording) (rates : List ℕ) (judged : judge_outcome k ≡ passed) (counted : rate_count_check rates ≡ passed) (listed : rate_list_check rates ≡ passed) where
  within : Within k
  within = (judge_outcome-within k).0 judged

  row-bucket : (j : ℕ) → j < length rates → bad_row (map (least_buffer k) rates) (map (least_fullness k) rates) j ≡ false
  row-bucket j g = rw (map-at (least_buffer k) rates j g, map-at (least_fullness k) rates j g) (least-bucket k within (get_or rates j 0))

  abbrev t : Table
  t = table rates (map (least_buffer k) rates) (map (least_fullness k) rates) k.ts k.nu (span k)

  lookup-passed : (r : ℕ) → bad_rate r ≡ false → lowest (lookup_faults t r) ≡ passed
  lookup-passed r rated =
      let clock : bad_clock k.ts k.nu ≡ false = (or-false (outside 1 ts_max k.ts) (outside 1 nu_max k.nu)).1
      ((outside-false 1 ts_max k.ts).1 (within.ticking, within.scale), (outside-false 1 nu_max k.nu).1 (within.lasting, within.units)) in
      let near : span k ≤ span_max = within-near within (pictures k - 1) (omega (arith, within.some)) in
      (lowest-passed (lookup_faults t r)).1 (
        test-false refusal.lengths 0 (rw (eq-eqb _ _ (length-map rates (least_buffer k)), eq-eqb _ _ (length-map rates (least_fullness k)))),
        (
          test-false refusal.clock 0 ((or-false (bad_clock k.ts k.nu) (ltb span_max (span k))).1 (clock, le-ltb _ _ near)),
          (counted, (listed, (test-false refusal.rate 0 rated, ((first_fault-passed refusal.bucket _ (length rates)).1 row-bucket, tt)))),
        ),
      )

pub demand3-table : Demand3Table
demand3-table k rates l m buffers fullnesses hl hm p i r h lo hi a q =
    let said = table-promised k rates 0 l m buffers fullnesses p in
    let rates-ok = (rate_list-within rates).0 said.listed in
    let rated : bad_rate r ≡ false = (outside-false 1 rate_max r).1 (le_trans (rates-ok.some i (le_of_lt h)) lo, le_trans hi (rates-ok.small (suc i) h)) in
    let bs : buffers ≡ map (least_buffer k) rates = said.buffer ∙ written-all l _ (length-map rates (least_buffer k) ∙ sym hl) in
    let fs : fullnesses ≡ map (least_fullness k) rates = said.fullness ∙ written-all m _ (length-map rates (least_fullness k) ∙ sym hm) in
    let w : Table = t k rates said.judged said.counted said.listed in
    let row = figures-row k rates said.judged said.listed in
    let gives = answer-given (lookup_of w r) (lookup-passed k rates said.judged said.counted said.listed r rated) in
    let b = figure_at (axis_of w) w.buffers r in
    let f = figure_at (axis_of w) w.fullnesses r in
    (b, f, found_of-one a (figures r b f) (rw (bs, fs) at q ∙ gives), demand3-answers k w i r b f h (row i (le_of_lt h)) (row (suc i) h) lo hi (sym gives))
