-- What is true of a sheet's header, its length and its lists. Definitions: specs/Sheet.antt.
--     Laid                 a sheet whose counts are in range and whose offsets and length are as the counts have it
--     misplaced-false      offsets and length are not misplaced exactly when they are as the counts have it
--     misplaced-true       and one that is not makes them misplaced
--     header-short         a file shorter than a header is 12, whatever it says
--     header-pictures      a picture count out of range is 1 before all that follows
--     header-rates         then a rate count out of range is 6
--     header-misplaced     and only then offsets or a length that do not fit are 12
--     header-passed        and what is left passes
--     header_faults-laid   so a header passes exactly when the sheet is laid out
--     list_faults-first    its recording is judged first, and then its rates
--     sheet_text-long      a file longer than the largest sheet prints what its two counts say
--     sheet_text-cut       so no byte after the first one too many changes what is printed
-- Assumes nothing.
use Prim.Native.Nat.{ℕ, suc, ◌+◌, ◌*◌, ◌≤◌, ◌<◌}
use native.Mathlib.Omega.{arith}
use mathlib.Core.Path.{◌≡◌, refl, sym, ap, ap₂, ◌∙◌}
use mathlib.Core.Bool.{Bool, true, false, not, ◌||◌}
use mathlib.Core.Logic.{◌↔◌}
use mathlib.Core.List.{List, [], ◌∷◌}
use lib.Dec.{eqb, lit<}
use lib.ListN.{length, take}
use lib.Seq.{length-take-le, get_or-take}
use borrow.Author.Tests.{ltb-false, lt-ltb, le-ltb, not-false, eqb-true, eq-eqb}
use Rattle.rules.specs.Limits.{header_bytes, sheet_pictures_max, rows_max, sheet_bytes_max}
use Rattle.rules.specs.Refusals as refusal
use Rattle.terms.specs.Answers.{Judgement, passed, refused, refuse_if, or_else, lowest, first}
use Rattle.terms.specs.Numbers.{outside}
use Rattle.model.specs.Faults.{rate_list_check}
use Rattle.model.specs.Outcomes.{judge_outcome}
use Rattle.terms.specs.Words.{word_at}
use Rattle.layout.specs.Sheet.{picture_count, sizes_offset, ticks_offset, rate_count, rates_offset, sheet_recording, sheet_rates, misplaced, header_faults, list_faults, text_or, sheet_text}
use Rattle.terms.proofs.AnswersLaws.{refuse_if-passed, first-passed, first-append, test-false, test-true, skip, here, none, list}
use Rattle.terms.proofs.NumbersLaws.{or-false, outside-false}
use Rattle.model.proofs.FaultsLaws.{faults-after}

-- counts in range, and offsets and length as the counts have it
pub record Laid (bytes : List ℕ) : Type 0 where
  pub there : header_bytes ≤ length bytes
  pub some : 1 ≤ picture_count bytes
  pub few : picture_count bytes ≤ sheet_pictures_max
  pub rated : 1 ≤ rate_count bytes
  pub rows : rate_count bytes ≤ rows_max
  pub sizes_at : sizes_offset bytes ≡ header_bytes
  pub ticks_at : ticks_offset bytes ≡ header_bytes + 4 * picture_count bytes
  pub rates_at : rates_offset bytes ≡ header_bytes + 8 * picture_count bytes
  pub whole : length bytes ≡ header_bytes + 8 * picture_count bytes + 4 * rate_count bytes

differ-false : (a b : ℕ) → (not (eqb a b) ≡ false) ↔ (a ≡ b)
differ-false a b = (λ e. eqb-true a b (not-false _ e), λ e. ap not (eq-eqb a b e))

or-differ : (a b : ℕ) (t : Bool) → (not (eqb a b) || t ≡ false) ↔ ((a ≡ b) × (t ≡ false))
or-differ a b t =
    let both = or-false (not (eqb a b)) t in
    (λ e. ((differ-false a b).0 (both.0 e).0, (both.0 e).1), λ h. both.1 ((differ-false a b).1 h.0, h.1))

is-true : (t : Bool) → (t ≡ false → ⊥) → t ≡ true
is-true true h = refl
is-true false h = absurd (h refl)

module _ (bytes : List ℕ) where
  pub misplaced-false : (misplaced bytes ≡ false)
      ↔ ((sizes_offset bytes ≡ header_bytes)
      × (ticks_offset bytes ≡ header_bytes + 4 * picture_count bytes)
      × (rates_offset bytes ≡ header_bytes + 8 * picture_count bytes)
      × (length bytes ≡ header_bytes + 8 * picture_count bytes + 4 * rate_count bytes))
  misplaced-false =
      let a = or-differ (sizes_offset bytes) header_bytes _ in
      let b = or-differ (ticks_offset bytes) (header_bytes + 4 * picture_count bytes) _ in
      let c = or-differ (rates_offset bytes) (header_bytes + 8 * picture_count bytes) _ in
      let d = differ-false (length bytes) (header_bytes + 8 * picture_count bytes + 4 * rate_count bytes) in (
        λ e.
            let f = a.0 e in
            let g = b.0 f.1 in
            let h = c.0 g.1 in
            (f.0, g.0, h.0, d.0 h.1),
        λ h. a.1 (h.0, b.1 (h.1, c.1 (h.2, d.1 h.3))),
      )

  pub misplaced-true : (misplaced bytes ≡ false → ⊥) → misplaced bytes ≡ true
  misplaced-true = is-true (misplaced bytes)

  pub header-short : length bytes < header_bytes → first (header_faults bytes) ≡ refused refusal.sheet 0
  header-short h = here _ (test-true refusal.sheet 0 (lt-ltb _ _ h))

  module _ (there : header_bytes ≤ length bytes) where
    long : first (header_faults bytes) ≡ first (refuse_if (outside 1 sheet_pictures_max (picture_count bytes)) refusal.pictures 0 ∷ refuse_if (outside 1 rows_max (rate_count bytes)) refusal.rate 0 ∷ refuse_if (misplaced bytes) refusal.sheet 0 ∷ [])
    long = skip _ (test-false refusal.sheet 0 (le-ltb _ _ there))

    pub header-pictures : outside 1 sheet_pictures_max (picture_count bytes) ≡ true → first (header_faults bytes) ≡ refused refusal.pictures 0
    header-pictures e = long ∙ here _ (test-true refusal.pictures 0 e)

    module _ (few : outside 1 sheet_pictures_max (picture_count bytes) ≡ false) where
      pub header-rates : outside 1 rows_max (rate_count bytes) ≡ true → first (header_faults bytes) ≡ refused refusal.rate 0
      header-rates e = long ∙ skip _ (test-false refusal.pictures 0 few) ∙ here _ (test-true refusal.rate 0 e)

      module _ (rows : outside 1 rows_max (rate_count bytes) ≡ false) where
        counted : first (header_faults bytes) ≡ first (refuse_if (misplaced bytes) refusal.sheet 0 ∷ [])
        counted = long ∙ skip _ (test-false refusal.pictures 0 few) ∙ skip _ (test-false refusal.rate 0 rows)

        pub header-misplaced : misplaced bytes ≡ true → first (header_faults bytes) ≡ refused refusal.sheet 0
        header-misplaced e = counted ∙ here _ (test-true refusal.sheet 0 e)

        pub header-passed : misplaced bytes ≡ false → first (header_faults bytes) ≡ passed
        unfolding first
        header-passed e = counted ∙ skip [] (test-false refusal.sheet 0 e)

  pub header_faults-laid : (first (header_faults bytes) ≡ passed) ↔ Laid bytes
  header_faults-laid = (
    λ e.
        let h = (first-passed (header_faults bytes)).0 e in
        let n = (outside-false 1 sheet_pictures_max (picture_count bytes)).0 ((refuse_if-passed _ refusal.pictures 0).0 h.1.0) in
        let m = (outside-false 1 rows_max (rate_count bytes)).0 ((refuse_if-passed _ refusal.rate 0).0 h.1.1.0) in
        let p = misplaced-false.0 ((refuse_if-passed _ refusal.sheet 0).0 h.1.1.1.0) in
        record {
          there = ltb-false _ _ ((refuse_if-passed _ refusal.sheet 0).0 h.0);
          some = n.0;
          few = n.1;
          rated = m.0;
          rows = m.1;
          sizes_at = p.0;
          ticks_at = p.1;
          rates_at = p.2;
          whole = p.3;
        },
    λ l.
        header-passed l.there
        ((outside-false 1 sheet_pictures_max (picture_count bytes)).1 (l.some, l.few))
        ((outside-false 1 rows_max (rate_count bytes)).1 (l.rated, l.rows))
        (misplaced-false.1 (l.sizes_at, l.ticks_at, l.rates_at, l.whole)),
  )

  pub list_faults-first : lowest (list_faults bytes) ≡ or_else (judge_outcome (sheet_recording bytes)) (first (rate_list_check (sheet_rates bytes) ∷ []))
  list_faults-first =
      faults-after (sheet_recording bytes) (rate_list_check (sheet_rates bytes) ∷ []) (list refusal.rate _ (length (sheet_rates bytes)) tt none)

-- what the two counts of a file say that is longer than the largest sheet
abbrev long_faults : (few rows : Bool) → List Judgement
long_faults few rows = refuse_if few refusal.pictures 0 ∷ refuse_if rows refusal.rate 0 ∷ refused refusal.sheet 0 ∷ []

long_faults-text : (few rows : Bool) (more : Judgement) (text : List ℕ) → text_or (or_else (first (long_faults few rows)) more) text ≡ text_or (first (long_faults few rows)) []
unfolding first refuse_if
long_faults-text true rows more text = refl
long_faults-text false true more text = refl
long_faults-text false false more text = refl

module _ (bytes : List ℕ) (large : sheet_bytes_max < length bytes) where
  misplaced-large : outside 1 sheet_pictures_max (picture_count bytes) ≡ false → outside 1 rows_max (rate_count bytes) ≡ false → misplaced bytes ≡ true
  misplaced-large few rows =
      misplaced-true bytes (λ e.
      let whole = ((misplaced-false bytes).0 e).3 in
      let n = ((outside-false 1 sheet_pictures_max (picture_count bytes)).0 few).1 in
      let m = ((outside-false 1 rows_max (rate_count bytes)).0 rows).1 in
      omega (arith, whole, n, m, large))

  header_faults-large : first (header_faults bytes) ≡ first (long_faults (outside 1 sheet_pictures_max (picture_count bytes)) (outside 1 rows_max (rate_count bytes)))
  header_faults-large = go _ _ refl refl
    where
      there : header_bytes ≤ length bytes
      there = omega arith

      go : (few rows : Bool) → outside 1 sheet_pictures_max (picture_count bytes) ≡ few → outside 1 rows_max (rate_count bytes) ≡ rows → first (header_faults bytes) ≡ first (long_faults few rows)
      go true rows e f = header-pictures bytes there e ∙ sym (here _ (test-true refusal.pictures 0 refl))
      go false true e f = header-rates bytes there e f ∙ sym (skip _ (test-false refusal.pictures 0 refl) ∙ here _ (test-true refusal.rate 0 refl))
      go false false e f =
          header-misplaced bytes there e f (misplaced-large e f)
          ∙ sym (skip _ (test-false refusal.pictures 0 refl) ∙ skip _ (test-false refusal.rate 0 refl) ∙ here _ refl)

  pub sheet_text-long : sheet_text bytes ≡ text_or (first (long_faults (outside 1 sheet_pictures_max (picture_count bytes)) (outside 1 rows_max (rate_count bytes)))) []
  sheet_text-long = rw (first-append (header_faults bytes) (lowest (list_faults bytes) ∷ []), header_faults-large) (long_faults-text _ _ _ _)

-- a word that ends before the cut is the same word
word_at-cut : (n : ℕ) (bytes : List ℕ) (i : ℕ) → i + 3 < n → word_at (take n bytes) i ≡ word_at bytes i
word_at-cut n bytes i h =
    rw (
      get_or-take n bytes i 0 (omega arith),
      get_or-take n bytes (i + 1) 0 (omega arith),
      get_or-take n bytes (i + 2) 0 (omega arith),
      get_or-take n bytes (i + 3) 0 h,
    )

pub sheet_text-cut : (bytes : List ℕ) → sheet_bytes_max < length bytes → sheet_text (take (suc sheet_bytes_max) bytes) ≡ sheet_text bytes
sheet_text-cut bytes large =
    let cut : length (take (suc sheet_bytes_max) bytes) ≡ suc sheet_bytes_max = length-take-le (suc sheet_bytes_max) bytes large in
    let n : picture_count (take (suc sheet_bytes_max) bytes) ≡ picture_count bytes = word_at-cut (suc sheet_bytes_max) bytes 0 (lit< tt) in
    let m : rate_count (take (suc sheet_bytes_max) bytes) ≡ rate_count bytes = word_at-cut (suc sheet_bytes_max) bytes 12 (lit< tt) in
    sheet_text-long (take (suc sheet_bytes_max) bytes) (omega (arith, cut))
    ∙ ap₂ (λ a b. text_or (first (long_faults (outside 1 sheet_pictures_max a) (outside 1 rows_max b))) []) n m
    ∙ sym (sheet_text-long bytes large)
