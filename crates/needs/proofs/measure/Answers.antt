-- `needs::measure` meets its contract. The loop's invariant: it holds what the pictures passed need, and `last` is the
-- tick before the next one.
-- Assumes nothing.
use Prim.Native.Nat.{ℕ, ◌+◌, ◌-◌, ◌*◌, ◌≤◌, ◌<◌, zero-le}
use native.Mathlib.Nat.{le_refl}
use native.Mathlib.Omega.{arith}
use mathlib.Core.Path.{◌≡◌, refl, sym, ◌∙◌}
use lib.ListN.{length, get_or, length-append}
use borrow.Author.Rules.{rules}
use Rattle.std.proofs.lemmas.Slice.Zip.{zip_turn}
use Rattle.rules.specs.Limits.{span_max, bucket_max}
use Rattle.rules.specs.Width.{Word}
use Rattle.rules.proofs.Fits.{units-fits, tick_units-fits}
use Rattle.model.specs.Recording.{Recording, size, tick}
use Rattle.model.specs.Needs.{Needs, needs_step, needs_below}
use Rattle.model.proofs.RecordingLaws.{within-near}
use Rattle.model.proofs.FaultsLaws.{within-recorded}
use Rattle.model.proofs.NeedsLaws.{tick_before-more, tick_before-between, needs_below-more, needs_below-covers, needs_below-limit}
use Rattle.recording.specs.Given.{recording_of}
use Rattle.needs.proofs.measure.Invariants.{Measured}
use Rattle.needs.proofs.measure.Goals as goal

-- what a turn of the loop knows of the picture that it passes: which it is, and that x and y are its size and its tick
abbrev At : (k : Recording) (i x y : ℕ) → Type 0
At k i x y = (i < length k.sizes) × (i < length k.ticks) × ((d : ℕ) → x ≡ get_or k.sizes i d) × ((d : ℕ) → y ≡ get_or k.ticks i d)

module _ {k : Recording} {rate last : ℕ} {m : Needs} {i x y : ℕ} (p : Measured k rate last m i) (h : At k i x y) where
  ready : Word (m.total + k.ts * x) × Word (m.level + k.ts * x)
  ready =
      let most : (needs_below k rate i).total + k.ts * size k i ≤ k.ts * bucket_max = rw needs_below-more at (needs_below-limit p.kept rate {n = i + 1} (omega (arith, h.0))) in
      let fits : Word (k.ts * bucket_max) = units-fits p.kept.scale (le_refl bucket_max) in
      rw (h.2 0, p.needed) (omega (arith, most, fits), omega (arith, most, fits, (needs_below-covers k rate i).0))

  last-le : (tick k 0 ≤ last) × (last ≤ y)
  last-le = rw (p.before, h.3 0) (tick_before-between (within-recorded p.kept) i h.0)

  near : y - tick k 0 ≤ span_max
  near = rw (h.3 0) (within-near p.kept i h.0)

  last-fits : Word (rate * k.nu * (y - last))
  last-fits = (tick_units-fits p.low p.kept.units (omega (arith, last-le, near))).2

  first-fits : Word (rate * k.nu * (y - tick k 0))
  first-fits = (tick_units-fits p.low p.kept.units near).2

  next : (n : Needs) → n ≡ needs_step m (k.ts * x) (rate * k.nu * (y - last)) (rate * k.nu * (y - tick k 0)) → Measured k rate y n (i + 1)
  next n e =
      record {
        kept = p.kept;
        low = p.low;
        among = omega (arith, h.0);
        before = h.3 0 ∙ sym (tick_before-more k i);
        needed = e ∙ rw (h.2 0, h.3 0, p.before, p.needed) (sym (needs_below-more k rate i));
      }

pub overflow_mul-fall : goal.overflow_mul-fall
overflow_mul-fall c = record { fits = (tick_units-fits c.requires c.args.judged.within.units zero-le).0 }

pub loop-size-init : goal.loop-size-init
unfolding needs_below
loop-size-init c = record { kept = c.args.judged.within; low = c.requires; among = zero-le; before = refl; needed = search rules }

here : (c : goal.In-Some) → At (recording_of c.args.judged.recording) (length c.loop-size.yielded) c.in-Some.field-0-0.now c.in-Some.field-0-1.now
here c =
    zip_turn _ _ _ c.into_iter-size-iterator.result _ c.next.new.self _ (cc) (cc) c.loop-size.yielded_by _ c.in-Some.is c.next.ensures.steps

pub overflow_sub-tick : goal.overflow_sub-tick
overflow_sub-tick c = (last-le c.loop-size.invariant (here c)).1

pub overflow_mul-fall-in-loop-size : goal.overflow_mul-fall-in-loop-size
overflow_mul-fall-in-loop-size c = record { fits = last-fits c.loop-size.invariant (here c) }

pub overflow_sub-tick-in-loop-size : goal.overflow_sub-tick-in-loop-size
overflow_sub-tick-in-loop-size c = omega (arith, last-le c.loop-size.invariant (here c))

pub overflow_mul-fall-in-loop-size-2 : goal.overflow_mul-fall-in-loop-size-2
overflow_mul-fall-in-loop-size-2 c = record { fits = first-fits c.loop-size.invariant (here c) }

pub step-m-requires : goal.step-m-requires
step-m-requires c = ready c.loop-size.invariant (here c)

pub loop-size-preserved : goal.loop-size-preserved
loop-size-preserved c = rw length-append (next c.loop-size.invariant (here c.before) _ c.step-m.ensures)
