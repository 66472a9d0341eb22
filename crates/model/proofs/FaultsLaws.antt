-- What the checks of an operation say together. Definitions: specs/Faults.antt.
--     entry_before-more       one entry on, the entry before is this one
--     bad_tick-after          after the first picture a tick is judged by the one before it and the first
--     recording_faults-ascending, verdict_faults-ascending, schedule_faults-ascending, least_faults-ascending,
--     table_faults-ascending, lookup_faults-ascending, seconds_faults-ascending
--                             the checks of an operation stand in the order of their numbers, so that the lowest is the first
--     judge-first             so a recording's refusal is the first
--     faults-after            and after those of a recording further checks are judged where the recording passes
--     verdict_faults-first    so a rate and a bucket are judged after the recording
--     verdict_faults-after    and what follows is judged after all three
--     verdict_faults-within   a recording, a rate and a bucket that are not refused keep the limits
--     judge_outcome-within    a recording is not refused exactly when it keeps every limit
--     rate_list-within        a list of rates is not refused exactly when all are in range and rise
--     within-recorded         such a recording has all that the theorems ask
-- Assumes nothing.
use Prim.Native.Nat.{ℕ, zero, suc, ◌+◌, ◌-◌, ◌≤◌, ◌<◌}
use native.Mathlib.Nat.{not-suc-le-zero}
use native.Mathlib.Numerals.{add-one}
use mathlib.Core.Path.{◌≡◌, refl, sym, ap, ◌∙◌}
use mathlib.Core.Bool.{false, not, ◌||◌}
use mathlib.Core.Logic.Iff
use mathlib.Core.Logic.{◌↔◌}
use mathlib.Core.List.{List, ◌++◌}
use lib.Dec.{leb, ltb}
use lib.ListN.{length, get_or}
use borrow.Author.Tests.{ltb-false, le-ltb, leb-false, lt-leb, not-false, eqb-true, eq-eqb}
use Rattle.rules.specs.Limits.{pictures_max, size_max, span_max, ts_max, nu_max, rate_max, bucket_max}
use Rattle.rules.specs.Refusals as refusal
use Rattle.model.specs.Recording.{Recording, Recorded, Within, pictures, size, tick, distance}
use Rattle.model.specs.Arrival.{Bucket}
use Rattle.model.specs.Lookup.{Table}
use Rattle.terms.specs.Answers.{Judgement, passed, or_else, lowest, first}
use Rattle.terms.specs.Numbers.{outside}
use Rattle.model.specs.Faults.{pictures_check, lengths_check, clock_check, bad_clock, size_check, bad_size, entry_before, bad_tick, tick_check, bad_rate, bad_rate_at, rate_list_check, RatesWithin, recording_faults, verdict_faults, schedule_faults, least_faults, table_faults, lookup_faults, seconds_faults}
use Rattle.model.specs.Outcomes.{judge_outcome}
use Rattle.terms.proofs.NumbersLaws.{or-false, outside-false}
use Rattle.terms.proofs.AnswersLaws.{refuse_if-passed, first-passed, first_fault-passed, Ascending, none, test, list, lowest-first, or_else-passed, lowest-append}

pub entry_before-more : (l : List ℕ) (i : ℕ) → entry_before l (i + 1) ≡ get_or l i 0
entry_before-more l i = rw add-one

pub bad_tick-after : (ticks : List ℕ) (i : ℕ) → 1 ≤ i → bad_tick ticks i ≡ (leb (get_or ticks i 0) (entry_before ticks i) || ltb span_max (get_or ticks i 0 - get_or ticks 0 0))
bad_tick-after ticks zero h = absurd (not-suc-le-zero h)
bad_tick-after ticks (suc i) h = refl

pub recording_faults-ascending : (k : Recording) {js : List Judgement} → Ascending refusal.tick js → Ascending refusal.pictures (recording_faults k ++ js)
recording_faults-ascending k h =
    test refusal.pictures _ 0 tt
    (test refusal.lengths _ 0 tt
    (test refusal.clock _ 0 tt
    (list refusal.size _ (pictures k) tt
    (list refusal.tick _ (pictures k) tt h))))

pub verdict_faults-ascending : (k : Recording) (u : Bucket) {js : List Judgement} → Ascending refusal.bucket js → Ascending refusal.pictures (verdict_faults k u ++ js)
verdict_faults-ascending k u h =
    recording_faults-ascending k
    (test refusal.rate _ 0 tt (test refusal.bucket _ 0 tt h))

pub schedule_faults-ascending : (k : Recording) (u : Bucket) (at : ℕ) (starts ends : List ℕ) → Ascending refusal.pictures (schedule_faults k u at starts ends)
schedule_faults-ascending k u at starts ends =
    verdict_faults-ascending k u
    (test refusal.room _ 0 tt (test refusal.room _ 0 tt none))

pub least_faults-ascending : (k : Recording) (rate : ℕ) → Ascending refusal.pictures (least_faults k rate)
least_faults-ascending k rate = recording_faults-ascending k (test refusal.rate _ 0 tt none)

pub table_faults-ascending : (k : Recording) (rates : List ℕ) (at : ℕ) (buffers fullnesses : List ℕ) → Ascending refusal.pictures (table_faults k rates at buffers fullnesses)
table_faults-ascending k rates at buffers fullnesses =
    recording_faults-ascending k
    (test refusal.rate _ 0 tt
    (list refusal.rate _ (length rates) tt
    (test refusal.room _ 0 tt
    (test refusal.room _ 0 tt none))))

pub lookup_faults-ascending : (w : Table) (r : ℕ) → Ascending refusal.lengths (lookup_faults w r)
lookup_faults-ascending w r =
    test refusal.lengths _ 0 tt
    (test refusal.clock _ 0 tt
    (test refusal.rate _ 0 tt
    (list refusal.rate _ (length w.rates) tt
    (test refusal.rate _ 0 tt
    (list refusal.bucket _ (length w.rates) tt none)))))

pub seconds_faults-ascending : (u : Bucket) {js : List Judgement} → Ascending refusal.bucket js → Ascending refusal.rate (seconds_faults u ++ js)
seconds_faults-ascending u h = test refusal.rate _ 0 tt (test refusal.bucket _ 0 tt h)

-- the tests of a recording, and what each asks
bad_tick-false : (k : Recording) (i : ℕ) → (bad_tick k.ticks (suc i) ≡ false) ↔ ((tick k i < tick k (suc i)) × (distance k 0 (suc i) ≤ span_max))
bad_tick-false k i =
    let both = or-false (leb (tick k (suc i)) (tick k i)) (ltb span_max (distance k 0 (suc i))) in
    (λ e. (leb-false _ _ (both.0 e).0, ltb-false _ _ (both.0 e).1), λ h. both.1 (lt-leb _ _ h.0, le-ltb _ _ h.1))

clock-passed : (ts nu : ℕ) → (clock_check ts nu ≡ passed) ↔ ((1 ≤ ts) × (ts ≤ ts_max) × (1 ≤ nu) × (nu ≤ nu_max))
clock-passed ts nu =
    let whole = refuse_if-passed (bad_clock ts nu) refusal.clock 0 in
    let both = or-false (outside 1 ts_max ts) (outside 1 nu_max nu) in
    let s = outside-false 1 ts_max ts in
    let n = outside-false 1 nu_max nu in (
      λ e.
          let g = both.0 (whole.0 e) in
          ((s.0 g.0).0, (s.0 g.0).1, (n.0 g.1).0, (n.0 g.1).1),
      λ h. whole.1 (both.1 (s.1 (h.0, h.1), n.1 (h.2, h.3))),
    )

module _ (k : Recording) where
  pub judge-first : judge_outcome k ≡ first (recording_faults k)
  judge-first = lowest-first (recording_faults-ascending k none)

  count-passed : (pictures_check k ≡ passed) ↔ ((1 ≤ pictures k) × (pictures k ≤ pictures_max))
  count-passed = Iff.trans (refuse_if-passed _ refusal.pictures 0) (outside-false 1 pictures_max (pictures k))

  lengths-passed : (lengths_check k ≡ passed) ↔ (length k.ticks ≡ pictures k)
  lengths-passed =
      Iff.trans (refuse_if-passed _ refusal.lengths 0)
      (λ e. eqb-true _ _ (not-false _ e), λ e. ap not (eq-eqb _ _ e))

  sizes-passed : (size_check k ≡ passed) ↔ ((i : ℕ) → i < pictures k → (1 ≤ size k i) × (size k i ≤ size_max))
  sizes-passed =
      let all = first_fault-passed refusal.size (bad_size k.sizes) (pictures k) in
      (λ e i h. (outside-false 1 size_max (size k i)).0 (all.0 e i h), λ h. all.1 (λ i g. (outside-false 1 size_max (size k i)).1 (h i g)))

  ticks-passed : (tick_check k ≡ passed) ↔ ((i : ℕ) → suc i < pictures k → (tick k i < tick k (suc i)) × (distance k 0 (suc i) ≤ span_max))
  ticks-passed =
      let all = first_fault-passed refusal.tick (bad_tick k.ticks) (pictures k) in
      (λ e i h. (bad_tick-false k i).0 (all.0 e (suc i) h), λ h. all.1 (later h))
    where
      later : ((i : ℕ) → suc i < pictures k → (tick k i < tick k (suc i)) × (distance k 0 (suc i) ≤ span_max)) → (i : ℕ) → i < pictures k → bad_tick k.ticks i ≡ false
      later h zero g = refl
      later h (suc i) g = (bad_tick-false k i).1 (h i g)

  pub judge_outcome-within : (judge_outcome k ≡ passed) ↔ Within k
  judge_outcome-within =
      let each = first-passed (recording_faults k) in (
        λ e.
            let h = each.0 (sym judge-first ∙ e) in
            let count = count-passed.0 h.0 in
            let clock = (clock-passed k.ts k.nu).0 h.1.1.0 in
            record {
              some = count.0;
              few = count.1;
              paired = lengths-passed.0 h.1.0;
              ticking = clock.0;
              scale = clock.1;
              lasting = clock.2;
              units = clock.3;
              sized = λ i g. (sizes-passed.0 h.1.1.1.0 i g).0;
              small = λ i g. (sizes-passed.0 h.1.1.1.0 i g).1;
              rising = λ i g. (ticks-passed.0 h.1.1.1.1.0 i g).0;
              near = λ i g. (ticks-passed.0 h.1.1.1.1.0 i g).1;
            },
        λ w.
            judge-first
            ∙ each.1 (
              count-passed.1 (w.some, w.few),
              (
                lengths-passed.1 w.paired,
                (
                  (clock-passed k.ts k.nu).1 (w.ticking, w.scale, w.lasting, w.units),
                  (
                    sizes-passed.1 (λ i g. (w.sized i g, w.small i g)),
                    (ticks-passed.1 (λ i g. (w.rising i g, w.near i g)), tt),
                  ),
                ),
              ),
            ),
      )

pub faults-after : (k : Recording) (js : List Judgement) → Ascending refusal.tick js → lowest (recording_faults k ++ js) ≡ or_else (judge_outcome k) (first js)
faults-after k js h = lowest-append (recording_faults k) js (recording_faults-ascending k none) (recording_faults-ascending k h)

pub verdict_faults-after : (k : Recording) (u : Bucket) (js : List Judgement) → Ascending refusal.bucket js
    → lowest (verdict_faults k u ++ js) ≡ or_else (lowest (verdict_faults k u)) (first js)
verdict_faults-after k u js h =
    lowest-append (verdict_faults k u) js (verdict_faults-ascending k u none) (verdict_faults-ascending k u h)

pub verdict_faults-first : (k : Recording) (u : Bucket) → lowest (verdict_faults k u) ≡ or_else (judge_outcome k) (first (seconds_faults u))
verdict_faults-first k u = faults-after k (seconds_faults u) (test refusal.rate _ 0 tt (test refusal.bucket _ 0 tt none))

pub verdict_faults-within : (k : Recording) (u : Bucket) → lowest (verdict_faults k u) ≡ passed
    → Within k × (u.rate ≤ rate_max) × (u.buffer ≤ bucket_max) × (u.fullness ≤ u.buffer)
verdict_faults-within k u e =
    let both = (or_else-passed (judge_outcome k) (first (seconds_faults u))).0 (sym (verdict_faults-first k u) ∙ e) in
    let each = (first-passed (seconds_faults u)).0 both.1 in
    let figures = (or-false _ _).0 ((refuse_if-passed _ refusal.bucket 0).0 each.1.0) in (
      (judge_outcome-within k).0 both.0,
      ((outside-false 1 rate_max u.rate).0 ((refuse_if-passed _ refusal.rate 0).0 each.0)).1,
      ((outside-false 1 bucket_max u.buffer).0 figures.0).1,
      ((outside-false 1 u.buffer u.fullness).0 figures.1).1,
    )

pub rate_list-within : (rates : List ℕ) → (rate_list_check rates ≡ passed) ↔ RatesWithin rates
rate_list-within rates =
    let all = first_fault-passed refusal.rate (bad_rate_at rates) (length rates) in (
      λ e.
          record {
            some = λ i h. ((bad_rate_at-false i).0 (all.0 e i h)).0;
            small = λ i h. ((bad_rate_at-false i).0 (all.0 e i h)).1;
            rising = λ i h. ((bad_rate_at-false (suc i)).0 (all.0 e (suc i) h)).2;
          },
      λ w. all.1 (passes w),
    )
  where
    bad_rate_at-false : (i : ℕ) → (bad_rate_at rates i ≡ false) ↔ ((1 ≤ get_or rates i 0) × (get_or rates i 0 ≤ rate_max) × (entry_before rates i < get_or rates i 0))
    bad_rate_at-false i =
        let both = or-false (bad_rate (get_or rates i 0)) (leb (get_or rates i 0) (entry_before rates i)) in
        let range = outside-false 1 rate_max (get_or rates i 0) in (
          λ e. let (some, small) = range.0 (both.0 e).0 in (some, small, leb-false _ _ (both.0 e).1),
          λ h. both.1 (range.1 (h.0, h.1), lt-leb _ _ h.2),
        )

    passes : RatesWithin rates → (i : ℕ) → i < length rates → bad_rate_at rates i ≡ false
    passes w zero h = (bad_rate_at-false 0).1 (w.some 0 h, w.small 0 h, w.some 0 h)
    passes w (suc i) h = (bad_rate_at-false (suc i)).1 (w.some (suc i) h, w.small (suc i) h, w.rising i h)

pub within-recorded : {k : Recording} → Within k → Recorded k
within-recorded w = record { some = w.some; sized = w.sized; rising = w.rising; ticking = w.ticking }
