-- Demand 2, from three bounds on the end of a picture. Statements: specs/Demands.antt.
--     end-above-zero                                             an end is no earlier than all bits up to it take
--     end-above                                                  nor earlier than the bits from picture i on take after i's earliest start
--     end-below                                                  and no later than any time that is not before all of these
--     demand2                                                    a bucket holds the recording exactly when both figures are at least the least
--     least-holds, buffer-tight, fullness-tight, growing-holds   what follows from it
-- Assumes nothing.
use Prim.Native.Nat.{ℕ, zero, suc, ◌+◌, ◌-◌, ◌*◌, ◌≤◌, ◌<◌, zero-le}
use native.Mathlib.Nat.{le_trans, le_refl, le_step, not-suc-le-zero, suc-le-suc_iff, eq-or-lt_of_le, mul-le-mul_left, mul-add, mul-zero, not-le_of_lt, le_of_sub-eq-zero, sub-eq-zero_of_le}
use native.Mathlib.Omega.{arith}
use mathlib.Core.Path.{◌≡◌, ap, ◌∙◌}
use mathlib.Core.Logic.{⊎_elim}
use Rattle.model.specs.Recording.{Recording, Recorded, pictures, size, distance}
use Rattle.model.specs.Arrival.{Bucket, bucket, removal, arrival_start, arrival_end}
use Rattle.model.specs.Least.{bits_before, need, least_fullness, least_buffer}
use Rattle.model.specs.Demands.{Demand2, LeastHolds, BufferTight, FullnessTight, GrowingHolds}
use Rattle.model.proofs.RecordingLaws.{distance-split}
use Rattle.model.proofs.ArrivalLaws.{arrival_start-later, verdict_of-holds}
use Rattle.model.proofs.LeastLaws.{need-le, least_fullness-le, least_buffer-le, least_fullness-buffer, least_fullness-some}

-- all bits before picture j, in units
abbrev units : Recording → ℕ → ℕ
units k j = k.ts * bits_before k j

units-step : (k : Recording) (j : ℕ) → units k (suc j) ≡ units k j + k.ts * size k j
unfolding bits_before
units-step k j = mul-add k.ts (bits_before k j) (size k j)

first-bits : (k : Recording) → units k 0 ≡ 0
unfolding bits_before
first-bits k = mul-zero k.ts

end-above-zero : (k : Recording) (u : Bucket) (j : ℕ) → units k (suc j) ≤ arrival_end k u j
unfolding bits_before arrival_start
end-above-zero k u zero = omega arith
end-above-zero k u (suc j) = omega (arith, units-step k (suc j), end-above-zero k u j)

end-above : (k : Recording) (u : Bucket) (i j : ℕ) → 1 ≤ i → i ≤ j → removal k u i + units k (suc j) ≤ arrival_end k u j + k.ts * u.buffer + units k i
end-above k u i zero h g = absurd (not-suc-le-zero (le_trans h g))
end-above k u i (suc j) h g =
    let later = arrival_start-later k u j in
    ⊎_elim (λ e. rw e (omega (arith, units-step k (suc j), later.1)))
    (λ l. omega (arith, units-step k (suc j), end-above k u i j h (suc-le-suc_iff.0 l), later.0))
    (eq-or-lt_of_le g)

end-below : (k : Recording) (u : Bucket) (j y : ℕ) → units k (suc j) ≤ y
    → ((i : ℕ) → 1 ≤ i → i ≤ j → removal k u i + units k (suc j) ≤ y + k.ts * u.buffer + units k i)
    → arrival_end k u j ≤ y
unfolding bits_before arrival_start
end-below k u zero y h g = omega arith
end-below k u (suc j) y h g =
    let step = units-step k (suc j) in
    let z : ℕ = y - k.ts * size k (suc j) in
    let before : arrival_end k u j ≤ z = end-below k u j z (omega arith) (λ i a b. omega (arith, step, g i a (le_trans b (omega arith)))) in
    omega (arith, step, g (suc j) (omega arith) (le_refl (suc j)))

-- the ticks of a span in units, split at picture i
ticks-split : {k : Recording} → Recorded k → (rate i j : ℕ) → i ≤ j → j < pictures k
    → rate * k.nu * distance k 0 j ≡ rate * k.nu * distance k 0 i + rate * k.nu * distance k i j
ticks-split {k} rec rate i j h g = ap (λ d. rate * k.nu * d) (distance-split rec zero-le h g) ∙ mul-add (rate * k.nu) _ _

-- every picture in time: what Annex C asks of a bucket, and what the verdict "holds" says
abbrev InTime : Recording → Bucket → Type 0
InTime k u = (j : ℕ) → j < pictures k → arrival_end k u j ≤ removal k u j

module _ (k : Recording) (rec : Recorded k) (rate b f : ℕ) (within : f ≤ b) where
  fullness-covers : InTime k (bucket rate b f) → (j : ℕ) → j < pictures k → need k rate 0 j ≤ k.ts * f
  fullness-covers on j g =
      (need-le k rate 0 j (k.ts * f) zero-le).1 (omega (arith, on j g, end-above-zero k (bucket rate b f) j))

  buffer-covers : InTime k (bucket rate b f) → (i j : ℕ) → i ≤ j → j < pictures k → need k rate i j ≤ k.ts * b
  buffer-covers on zero j h g = le_trans (fullness-covers on j g) (mul-le-mul_left k.ts within)
  buffer-covers on (suc i) j h g =
      (need-le k rate (suc i) j (k.ts * b) (le_step h)).1
      (omega (arith, on j g, end-above k (bucket rate b f) (suc i) j (omega arith) h, ticks-split rec rate (suc i) j h g))

  in-time : least_buffer k rate ≤ b → least_fullness k rate ≤ f → InTime k (bucket rate b f)
  in-time hb hf j g =
      end-below k (bucket rate b f) j (removal k (bucket rate b f) j)
      (omega (arith, (need-le k rate 0 j (k.ts * f) zero-le).0 ((least_fullness-le k rate f rec.ticking).0 hf j g), first-bits k))
      (λ i a c.
      omega (
        arith,
        (need-le k rate i j (k.ts * b) (le_step c)).0 ((least_buffer-le k rate b rec.ticking).0 hb i j c g),
        ticks-split rec rate i j c g,
      ))

pub demand2 : Demand2
demand2 k rec rate b f some within =
    let u = bucket rate b f in (
      λ e.
          let on : InTime k u = λ j g. le_of_sub-eq-zero ((verdict_of-holds k u).0 e j g) in
          let hb = (least_buffer-le k rate b rec.ticking).1 (buffer-covers k rec rate b f within on) in
          let hf = (least_fullness-le k rate f rec.ticking).1 (fullness-covers k rec rate b f within on) in
          omega arith,
      λ h. (verdict_of-holds k u).1 (λ j g. sub-eq-zero_of_le (in-time k rec rate b f within (omega arith) (omega arith) j g)),
    )

pub least-holds : LeastHolds
least-holds k rec rate =
    (demand2 k rec rate (least_buffer k rate) (least_fullness k rate) (least_fullness-some rate rec) (least_fullness-buffer k rate rec.ticking)).1
    (le_refl (least_buffer k rate), le_refl (least_fullness k rate))

pub buffer-tight : BufferTight
buffer-tight k rec rate b f some within less e = not-le_of_lt less ((demand2 k rec rate b f some within).0 e).0

pub fullness-tight : FullnessTight
fullness-tight k rec rate b f some within less e = not-le_of_lt less ((demand2 k rec rate b f some within).0 e).1

pub growing-holds : GrowingHolds
growing-holds k rec rate b f b' f' some within hb hf within' e =
    let least = (demand2 k rec rate b f some within).0 e in
    (demand2 k rec rate b' f' (le_trans some hf) within').1 (le_trans least.0 hb, le_trans least.1 hf)
