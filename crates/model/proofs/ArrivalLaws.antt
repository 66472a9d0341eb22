-- What a schedule and a verdict are. Definitions: specs/Arrival.antt.
--     arrival_start-later   a start is at least both of the times that it is the later of, and is one of them, also where the
--                           earliest lies below zero; so it is never below zero
--     free_at               from when the line is free for picture i: the end of the picture before it, and 0 for picture 0
--     arrival_start-free    with F at most B every start, that of picture 0 too, is the later of that and the earliest
--     arrival_start-le      and is at most the units of all bits before and of the ticks since picture 0
--     starts-length         a schedule has as many entries as pictures
--     then-late             a picture with some units is late, where none was before
--     verdict_of-holds      the verdict is "holds" exactly when no picture is late
--     verdict_of-first      the picture it names is late by its units, at least 1, and no earlier one is late
-- Assumes nothing.
use Prim.Native.Nat.{ℕ, zero, suc, ◌+◌, ◌*◌, ◌≤◌, ◌<◌, max, zero-le}
use native.Mathlib.Nat.{sub_self, mul-zero, mul-le-mul_left, le_of_lt, not-suc-le-zero, suc-le-suc_iff, suc-ne-zero, eq-or-lt_of_le, lt-suc_self, le_step}
use native.Mathlib.Decide.{dec_le}
use native.Mathlib.Omega.{arith}
use mathlib.Core.Path.{◌≡◌, refl, sym, ap, ◌∙◌}
use mathlib.Core.Logic.{◌↔◌, ◌⊎◌, inl, inr, ⊎_elim}
use lib.ListN.{length}
use Rattle.model.specs.Recording.{Recording, Recorded, pictures, distance}
use Rattle.model.specs.Arrival.{Bucket, removal, earliest, arrival_start, arrival_end, late_by, Verdict, holds, late, then, verdict_below, verdict_of, starts, ends}
use Rattle.model.specs.Least.{bits_before}
use Rattle.terms.proofs.NumbersLaws.{list_of-length}

pub arrival_start-later : (k : Recording) (u : Bucket) (i : ℕ)
    → (arrival_end k u i ≤ arrival_start k u (suc i))
    × (removal k u (suc i) ≤ arrival_start k u (suc i) + k.ts * u.buffer)
    × ((arrival_start k u (suc i) ≡ arrival_end k u i) ⊎ (arrival_start k u (suc i) + k.ts * u.buffer ≡ removal k u (suc i)))
unfolding arrival_start
arrival_start-later k u i = (
  omega arith,
  omega arith,
  elim (dec_le (earliest k u (suc i)) (arrival_end k u i)) [ yes h ↦ inl (omega arith) | no h ↦ inr (omega arith) ],
)

abbrev pub free_at : Recording → Bucket → ℕ → ℕ
free_at k u zero = 0
free_at k u (suc i) = arrival_end k u i

module _ (k : Recording) (u : Bucket) (h : u.fullness ≤ u.buffer) where
  earliest-zero : earliest k u 0 ≡ 0
  earliest-zero = rw (sub_self, mul-zero) (omega (arith, mul-le-mul_left k.ts h))

  pub arrival_start-free : (i : ℕ) → arrival_start k u i ≡ max (free_at k u i) (earliest k u i)
  unfolding arrival_start
  arrival_start-free zero = rw earliest-zero
  arrival_start-free (suc i) = refl

  pub arrival_start-le : Recorded k → (i : ℕ) → i < pictures k → arrival_start k u i ≤ k.ts * bits_before k i + u.rate * k.nu * distance k 0 i
  unfolding arrival_start bits_before
  arrival_start-le rec zero g = zero-le
  arrival_start-le rec (suc i) g =
      let up : distance k 0 i ≤ distance k 0 (suc i) = omega (arith, rec.rising i g) in
      omega (arith, arrival_start-le rec i (le_of_lt g), mul-le-mul_left (u.rate * k.nu) up, mul-le-mul_left k.ts h)

pub starts-length : (k : Recording) (u : Bucket) → (length (starts k u) ≡ pictures k) × (length (ends k u) ≡ pictures k)
starts-length k u = (list_of-length (arrival_start k u) (pictures k), list_of-length (arrival_end k u) (pictures k))

late-not-holds : {i x : ℕ} → late i x ≡ holds → ⊥
late-not-holds e = let z : ◌≡◌ {A = ℕ} 0 1 = cc in omega arith

pub then-late : (i units : ℕ) → (units ≡ 0 → ⊥) → then holds i units ≡ late i units
then-late i zero some = absurd (some refl)
then-late i (suc x) some = refl

-- "holds" after one picture more: it held before, and that picture is not late
then-holds : (v : Verdict) (i x : ℕ) → (then v i x ≡ holds) ↔ ((v ≡ holds) × (x ≡ 0))
then-holds holds i zero = (λ e. (refl, refl), λ h. refl)
then-holds holds i (suc x) = (λ e. absurd (late-not-holds e), λ h. absurd (suc-ne-zero x h.1))
then-holds (late j y) i x = (λ e. absurd (late-not-holds e), λ h. absurd (late-not-holds h.0))

verdict_below-holds : (k : Recording) (u : Bucket) (n : ℕ) → (verdict_below k u n ≡ holds) ↔ ((i : ℕ) → i < n → late_by k u i ≡ 0)
unfolding verdict_below
verdict_below-holds k u zero = (λ e i h. absurd (not-suc-le-zero h), λ h. refl)
verdict_below-holds k u (suc n) =
    let both = then-holds (verdict_below k u n) n (late_by k u n) in (
      λ e i h.
          ⊎_elim (λ g. ap (late_by k u) g ∙ (both.0 e).1) (λ g. (verdict_below-holds k u n).0 (both.0 e).0 i g)
          (eq-or-lt_of_le (suc-le-suc_iff.0 h)),
      λ h. both.1 ((verdict_below-holds k u n).1 (λ i g. h i (le_step g)), h n (lt-suc_self n)),
    )

pub verdict_of-holds : (k : Recording) (u : Bucket) → (verdict_of k u ≡ holds) ↔ ((i : ℕ) → i < pictures k → late_by k u i ≡ 0)
verdict_of-holds k u = verdict_below-holds k u (pictures k)

-- picture i is the first late one of n, by x units
pub record FirstLate (k : Recording) (u : Bucket) (n i x : ℕ) : Type 0 where
  pub among : i < n
  pub units : late_by k u i ≡ x
  pub some : 1 ≤ x
  pub first : (j : ℕ) → j < i → late_by k u j ≡ 0

then-first : (k : Recording) (u : Bucket) (n i x : ℕ) → (verdict_below k u n ≡ late i x → FirstLate k u n i x) → (v : Verdict) (y : ℕ)
    → verdict_below k u n ≡ v → late_by k u n ≡ y → then v n y ≡ late i x → FirstLate k u (suc n) i x
then-first k u n i x before holds zero ev ey e = absurd (late-not-holds (sym e))
then-first k u n i x before holds (suc y) ev ey e =
    let at : n ≡ i = cc in
    let by : suc y ≡ x = cc in
    record {
      among = omega arith;
      units = ap (late_by k u) (sym at) ∙ ey ∙ by;
      some = omega arith;
      first = λ j h. (verdict_below-holds k u n).0 ev j (omega arith);
    }
then-first k u n i x before (late j y) z ev ey e =
    let h = before (ev ∙ e) in
    record { among = le_step h.among; units = h.units; some = h.some; first = h.first }

verdict_below-first : (k : Recording) (u : Bucket) (n i x : ℕ) → verdict_below k u n ≡ late i x → FirstLate k u n i x
unfolding verdict_below
verdict_below-first k u zero i x e = absurd (late-not-holds (sym e))
verdict_below-first k u (suc n) i x e =
    then-first k u n i x (verdict_below-first k u n i x) (verdict_below k u n) (late_by k u n) refl refl e

pub verdict_of-first : (k : Recording) (u : Bucket) (i x : ℕ) → verdict_of k u ≡ late i x → FirstLate k u (pictures k) i x
verdict_of-first k u i x = verdict_below-first k u (pictures k) i x
