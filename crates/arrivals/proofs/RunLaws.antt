-- The loop of `run`, one picture a turn. Definitions: model/specs/Arrival.antt, specs/Seen.antt.
--     Running          the invariant: the line is free from the last end on, and what was seen is the verdict on the pictures passed
--     Arrives          start, end and units late of a picture
--     begun            the invariant before the first picture
--     rises, end-fit   what the code computes fits the word
--     arrives          what `arrive` answers in a turn is the picture's arrival
--     next             the invariant after a turn
--     done             and after the last
-- Assumes nothing.
use Prim.Native.Nat.{ℕ, ◌+◌, ◌-◌, ◌*◌, ◌≤◌, ◌<◌, max, zero-le}
use native.Mathlib.Nat.{le_antisymm}
use native.Mathlib.Numerals.{add-one}
use native.Mathlib.Omega.{arith}
use mathlib.Core.Path.{◌≡◌, refl, sym, ap, ◌∙◌}
use Rattle.std.specs.Prelude.{Option, None}
use Rattle.rules.specs.Limits.{size_max, span_max, rate_max, bucket_max}
use Rattle.rules.specs.Width.{Word}
use Rattle.rules.proofs.Fits.{bits-fits, tick_units-le, end-fits}
use Rattle.model.specs.Recording.{Recording, Within, pictures, size, tick, distance}
use Rattle.model.specs.Arrival.{Bucket, removal, earliest, arrival_start, arrival_end, late_by, then, verdict_below, verdict_of}
use Rattle.model.specs.Least.{bits_before}
use Rattle.terms.proofs.NumbersLaws.{rising-le}
use Rattle.model.proofs.RecordingLaws.{within-near}
use Rattle.model.proofs.LeastLaws.{bits_before-le}
use Rattle.model.proofs.ArrivalLaws.{free_at, arrival_start-free, arrival_start-le}
use Rattle.model.proofs.FaultsLaws.{within-recorded}
use Rattle.arrivals.specs.Seen.{seen_of}
use Rattle.arrivals.specs.declared.Late.{Late}

pub record Running (k : Recording) (u : Bucket) (free : ℕ) (seen : Option Late) (i : ℕ) : Type 0 where
  pub within : Within k
  pub rate : u.rate ≤ rate_max
  pub buffer : u.buffer ≤ bucket_max
  pub fullness : u.fullness ≤ u.buffer
  pub passed : i ≤ pictures k
  pub line : free ≡ free_at k u i
  pub verdict : seen_of seen ≡ verdict_below k u i

pub record Arrives (k : Recording) (u : Bucket) (i from to units : ℕ) : Type 0 where
  pub start : from ≡ arrival_start k u i
  pub end : to ≡ arrival_end k u i
  pub late : units ≡ late_by k u i

pub begun : (k : Recording) (u : Bucket) → Within k → (u.rate ≤ rate_max) × (u.buffer ≤ bucket_max) × (u.fullness ≤ u.buffer)
    → Running k u 0 None 0
unfolding verdict_below
begun k u w h =
    record { within = w; rate = h.0; buffer = h.1; fullness = h.2; passed = zero-le; line = refl; verdict = refl }

module _ {k : Recording} {u : Bucket} {free : ℕ} {seen : Option Late} {i : ℕ} (w : Running k u free seen i) where
  pub done : pictures k ≤ i → seen_of seen ≡ verdict_of k u
  done h = w.verdict ∙ ap (verdict_below k u) (le_antisymm w.passed h)

  later : max free (earliest k u i) ≡ arrival_start k u i
  later = rw w.line (sym (arrival_start-free k u w.fullness i))

  pub arrives : {from to units : ℕ}
      → (from ≡ max free (earliest k u i))
      × (to ≡ max free (earliest k u i) + k.ts * size k i)
      × (units ≡ max free (earliest k u i) + k.ts * size k i - removal k u i)
      → Arrives k u i from to units
  arrives e = record { start = rw later at e.0; end = rw later at e.1; late = rw later at e.2 }

  module _ (h : i < pictures k) where
    near : distance k 0 i ≤ span_max
    near = within-near w.within i h

    pub rises : tick k 0 ≤ tick k i
    rises = rising-le k.ticks w.within.rising 0 i zero-le h

    before-fits : bits_before k i ≤ bucket_max
    before-fits =
        (bits-fits {n = i} (omega (arith, w.within.few)) (bits_before-le k size_max i (λ j g. w.within.small j (omega arith)))).0

    pub end-fit : Word (max free (earliest k u i) + k.ts * size k i)
    end-fit =
        rw later
        (omega (
          arith,
          arrival_start-le k u w.fullness (within-recorded w.within) i h,
          end-fits w.within.scale before-fits (tick_units-le w.rate w.within.units near) (w.within.small i h),
        ))

    pub next : {from to units : ℕ} {after : Option Late} → Arrives k u i from to units → seen_of after ≡ then (seen_of seen) i units
        → Running k u to after (i + 1)
    unfolding verdict_below
    next a e =
        record {
          within = w.within;
          rate = w.rate;
          buffer = w.buffer;
          fullness = w.fullness;
          passed = omega arith;
          line = rw add-one a.end;
          verdict = rw (add-one, e, w.verdict, a.late);
        }
