-- The refusal of a lookup, and what a lookup that is not refused has. Definitions: model/specs/Faults.antt.
--     lookup-lengths      lists that pass have one figure of each kind for each rate
--     lookup-first        lengths, clock, rates, the rate asked and the rows are judged in the order of their numbers
--     lookup-rate-some, axis-ready, buffers-ready, fullnesses-ready    a lookup that is not refused is ready for both figures
-- Assumes nothing.
use Prim.Native.Nat.{ℕ, ◌≤◌, ◌<◌}
use native.Mathlib.Nat.{le_trans}
use mathlib.Core.Path.{◌≡◌, sym, ap, ◌∙◌}
use mathlib.Core.List.{[], ◌∷◌}
use lib.ListN.{length, get_or}
use borrow.Author.Tests.{ltb-false, eqb-true, not-false}
use Rattle.rules.specs.Limits.{rows_max, ts_max, nu_max, rate_max, bucket_max}
use Rattle.rules.specs.Refusals as refusal
use Rattle.terms.specs.Answers.{passed, or_else, lowest, first}
use Rattle.terms.proofs.NumbersLaws.{or-false, outside-false}
use Rattle.terms.proofs.AnswersLaws.{refuse_if-passed, AllPassed, first-append, first_fault-passed, none, test, list, lowest-first, lowest-passed}
use Rattle.model.specs.Lookup.{Table, axis_of}
use Rattle.model.specs.Faults.{bad_row, rate_check, table_lengths_check, table_clock_check, rates_faults, rows_check, lookup_faults}
use Rattle.model.proofs.FaultsLaws.{rate_list-within, lookup_faults-ascending}
use Rattle.lookup.specs.Ready.{AxisReady, ColumnReady}

module _ (w : Table) where
  pub lookup-lengths : table_lengths_check w ≡ passed → (length w.buffers ≡ length w.rates) × (length w.fullnesses ≡ length w.rates)
  lookup-lengths ok =
      let (b, f) = (or-false _ _).0 ((refuse_if-passed _ refusal.lengths 0).0 ok) in
      (eqb-true _ _ (not-false _ b), eqb-true _ _ (not-false _ f))

  module _ (r : ℕ) where
    pub lookup-first : lowest (lookup_faults w r)
        ≡ first (table_lengths_check w ∷ table_clock_check w ∷ lowest (rates_faults w.rates) ∷ rate_check r ∷ rows_check w ∷ [])
    unfolding first
    lookup-first =
        let rated = lowest-first {n = refusal.rate} (test refusal.rate _ 0 tt (list refusal.rate _ (length w.rates) tt none)) in
        lowest-first (lookup_faults-ascending w r)
        ∙ ap (λ j. or_else (table_lengths_check w) (or_else (table_clock_check w) j))
        (first-append (rates_faults w.rates) (rate_check r ∷ rows_check w ∷ [])
        ∙ ap (λ j. or_else j (first (rate_check r ∷ rows_check w ∷ []))) (sym rated))

    -- what a lookup that is not refused has
    module _ (ok : lowest (lookup_faults w r) ≡ passed) where
      each : AllPassed (lookup_faults w r)
      each = (lowest-passed (lookup_faults w r)).0 ok

      row-fits : (i : ℕ) → i < length w.rates → (get_or w.buffers i 0 ≤ bucket_max) × (get_or w.fullnesses i 0 ≤ get_or w.buffers i 0)
      row-fits i h =
          let (b, f) = (or-false _ _).0 ((first_fault-passed refusal.bucket (bad_row w.buffers w.fullnesses) (length w.rates)).0 each.1.1.1.1.1.0 i h) in
          (((outside-false 1 bucket_max (get_or w.buffers i 0)).0 b).1, ((outside-false 1 (get_or w.buffers i 0) (get_or w.fullnesses i 0)).0 f).1)

      pub lookup-rate-some : 1 ≤ r
      lookup-rate-some = ((outside-false 1 rate_max r).0 ((refuse_if-passed _ refusal.rate 0).0 each.1.1.1.1.0)).0

      pub axis-ready : AxisReady (axis_of w)
      axis-ready =
          let (clock, near) = (or-false _ _).0 ((refuse_if-passed _ refusal.clock 0).0 each.1.0) in
          let (t, n) = (or-false _ _).0 clock in
          let (ticking, scale) = (outside-false 1 ts_max w.ts).0 t in
          record {
            some = ((outside-false 1 rows_max (length w.rates)).0 ((refuse_if-passed _ refusal.rate 0).0 each.1.1.0)).0;
            rated = (rate_list-within w.rates).0 each.1.1.1.0;
            ticking = ticking;
            scale = scale;
            units = ((outside-false 1 nu_max w.nu).0 n).1;
            near = ltb-false _ _ near;
          }

      pub buffers-ready : ColumnReady (length w.rates) w.buffers
      buffers-ready = let pair = (lookup-lengths each.0).0 in record { paired = pair; small = λ i h. (row-fits i (rw pair at h)).0 }

      pub fullnesses-ready : ColumnReady (length w.rates) w.fullnesses
      fullnesses-ready =
          let pair = (lookup-lengths each.0).1 in
          record { paired = pair; small = λ i h. let (b, f) = row-fits i (rw pair at h) in le_trans f b }
