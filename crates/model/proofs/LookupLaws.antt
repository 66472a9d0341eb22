-- The lookup's four cases are document 01's. Definitions: specs/Lookup.antt.
--     blend-above         an interpolated figure is at least the exact one
--     blend-lt            and exceeds it by less than 1
--     rows_up_to-last     what the last row at or below a rate is
--     rows_up_to-row      the last row at or below a rate is the one with no such row after it
--     figure_at-row       the figure goes by that row
--     figure_at-below     below the first row the figure grows
--     figure_at-on        on a row it is that row's
--     figure_at-between   between two rows it is interpolated and rounded up
--     figure_at-above     above the last row of a table of any length it is the last row's
-- Assumes nothing.
use Prim.Native.Nat.{ℕ, zero, suc, ◌+◌, ◌-◌, ◌*◌, ◌≤◌, ◌<◌, zero-le}
use native.Mathlib.Nat.{le_refl, lt_of_not-le, suc-ne-zero, suc_inj, le_of_lt, lt-suc_self, lt_of_lt_of_le, le_step, not-suc-le-zero, suc-le-suc_iff, eq-or-lt_of_le, ne_of_lt}
use native.Mathlib.Decide.{dec_le}
use native.Mathlib.Omega.{arith}
use mathlib.Core.Path.{◌≡◌, refl, sym, ap, ◌∙◌, subst}
use mathlib.Core.Logic.{⊎_elim}
use mathlib.Core.List.{List}
use lib.ListN.{length, get_or}
use borrow.Author.Tests.{le-leb, lt-leb, eq-eqb, ne_eqb}
use Rattle.terms.specs.Numbers.{Rising}
use Rattle.model.specs.Lookup.{Axis, rows_up_to, spot_after, growth, blend, figure_on, figure_at}
use Rattle.terms.proofs.NumbersLaws.{round_up-above, round_up-lt, rising-lt, rising-le}

module _ (ra rb xa xb r : ℕ) (apart : ra < rb) where
  pub blend-above : xa * (rb - r) + xb * (r - ra) ≤ (rb - ra) * blend ra rb xa xb r
  blend-above = round_up-above (rb - ra) (xa * (rb - r) + xb * (r - ra)) (omega arith)

  pub blend-lt : (rb - ra) * blend ra rb xa xb r < xa * (rb - r) + xb * (r - ra) + (rb - ra)
  blend-lt = round_up-lt (rb - ra) (xa * (rb - r) + xb * (r - ra)) (omega arith)

pub rows_up_to-none : (rates : List ℕ) (r n : ℕ) → ((j : ℕ) → j < n → r < get_or rates j 0) → rows_up_to rates r n ≡ 0
unfolding rows_up_to
rows_up_to-none rates r zero h = refl
rows_up_to-none rates r (suc n) h = rw (lt-leb _ _ (h n (lt-suc_self n)), rows_up_to-none rates r n (λ j g. h j (le_step g)))

pub rows_up_to-row : (rates : List ℕ) (r n i : ℕ) → i < n → get_or rates i 0 ≤ r → ((j : ℕ) → i < j → j < n → r < get_or rates j 0) → rows_up_to rates r n ≡ suc i
unfolding rows_up_to
rows_up_to-row rates r zero i h lo hi = absurd (not-suc-le-zero h)
rows_up_to-row rates r (suc n) i h lo hi =
    ⊎_elim (λ e. rw (← e, le-leb _ _ lo))
    (λ g. rw (lt-leb _ _ (hi n g (lt-suc_self n)), rows_up_to-row rates r n i g lo (λ j a b. hi j a (le_step b))))
    (eq-or-lt_of_le (suc-le-suc_iff.0 h))

-- what the last row at or below a rate is, and what the rows after it are not
pub record LastRow (rates : List ℕ) (r n row : ℕ) : Type 0 where
  pub within : row ≤ n
  pub low : (a : ℕ) → row ≡ suc a → get_or rates a 0 ≤ r
  pub high : (j : ℕ) → row ≤ j → j < n → r < get_or rates j 0

pub rows_up_to-last : (rates : List ℕ) (r n : ℕ) → LastRow rates r n (rows_up_to rates r n)
unfolding rows_up_to
rows_up_to-last rates r zero = record { within = zero-le; low = λ a e. absurd (suc-ne-zero a (sym e)); high = λ j h g. absurd (not-suc-le-zero g) }
rows_up_to-last rates r (suc n) =
    elim (dec_le (get_or rates n 0) r) [
      | yes h ↦
          rw (le-leb _ _ h)
          (record { within = le_refl (suc n); low = λ a e. subst (λ m. get_or rates m 0 ≤ r) (suc_inj e) h; high = λ j a b. absurd (omega arith) })
      | no h ↦
          let last = rows_up_to-last rates r n in
          let over = lt_of_not-le h in
          rw (lt-leb _ _ over)
          (record {
            within = le_step last.within;
            low = last.low;
            high = λ j a b. ⊎_elim (λ e. rw e over) (λ g. last.high j a g) (eq-or-lt_of_le (suc-le-suc_iff.0 b));
          })
    ]

module _ (a : Axis) (xs : List ℕ) (r : ℕ) where
  -- the figure, from the last row at or below r
  pub figure_at-row : (n : ℕ) → rows_up_to a.rates r (length a.rates) ≡ n → figure_at a xs r ≡ figure_on a xs r (spot_after a.rates r n)
  figure_at-row n e = ap (λ n. figure_on a xs r (spot_after a.rates r n)) e

  pub figure_at-above : 0 < length a.rates → get_or a.rates (length a.rates - 1) 0 < r → figure_at a xs r ≡ get_or xs (length a.rates - 1) 0
  figure_at-above some lo =
      let n = length a.rates - 1 in
      let e : suc n ≡ length a.rates = omega arith in
      figure_at-row (suc n) (rows_up_to-row a.rates r (length a.rates) n (omega arith) (le_of_lt lo) (λ j g l. absurd (omega arith)))
      ∙ rw (ne_eqb _ _ (ne_of_lt lo), eq-eqb _ _ e)

  pub figure_at-below : Rising a.rates (length a.rates) → 0 < length a.rates → r < get_or a.rates 0 0 → figure_at a xs r ≡ get_or xs 0 0 + growth a r
  figure_at-below up some lo =
      figure_at-row 0 (rows_up_to-none a.rates r (length a.rates) (λ j h. lt_of_lt_of_le lo (rising-le a.rates up 0 j zero-le h)))

  pub figure_at-on : Rising a.rates (length a.rates) → (i : ℕ) → i < length a.rates → get_or a.rates i 0 ≡ r → figure_at a xs r ≡ get_or xs i 0
  figure_at-on up i h e =
      figure_at-row (suc i) (rows_up_to-row a.rates r (length a.rates) i h (omega arith) (λ j g l. omega (arith, rising-lt a.rates up i j g l)))
      ∙ rw (eq-eqb _ _ e)

  pub figure_at-between : Rising a.rates (length a.rates) → (i : ℕ) → suc i < length a.rates → get_or a.rates i 0 < r → r < get_or a.rates (suc i) 0
      → figure_at a xs r ≡ blend (get_or a.rates i 0) (get_or a.rates (suc i) 0) (get_or xs i 0) (get_or xs (suc i) 0) r
  figure_at-between up i h lo hi =
      figure_at-row (suc i)
      (rows_up_to-row a.rates r (length a.rates) i (le_of_lt h) (le_of_lt lo) (λ j g l. lt_of_lt_of_le hi (rising-le a.rates up (suc i) j g l)))
      ∙ rw (ne_eqb _ _ (ne_of_lt lo), ne_eqb _ _ (ne_of_lt h))
