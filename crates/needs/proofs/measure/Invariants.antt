-- `needs::measure` meets its contract. The loop's invariant: it holds what the pictures passed need, and `last` is the
-- tick before the next one.
-- Assumes nothing.
use Prim.Native.Nat.{ℕ, ◌≤◌}
use mathlib.Core.Path.{◌≡◌}
use lib.ListN.{length}
use Rattle.rules.specs.Limits.{rate_max}
use Rattle.model.specs.Recording.{Recording, Within, pictures}
use Rattle.model.specs.Needs.{Needs, tick_before, needs_below}
use Rattle.recording.specs.Given.{recording_of}
use Rattle.needs.specs.Outcome.{needs_of}
use Rattle.needs.proofs.measure.Given as goal

-- what is known of the pictures passed
pub record Measured (k : Recording) (rate last : ℕ) (m : Needs) (i : ℕ) : Type 0 where
  pub kept : Within k
  pub low : rate ≤ rate_max
  pub among : i ≤ pictures k
  pub before : last ≡ tick_before k i
  pub needed : m ≡ needs_below k rate i

abbrev pub invariant-loop-size : goal.invariant-loop-size
invariant-loop-size l = Measured (recording_of l.fn.judged.recording) l.fn.rate l.last (needs_of l.m) (length l.yielded)
