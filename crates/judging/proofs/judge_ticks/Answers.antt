-- `judging::judge_ticks` meets its contract: a tick that is refused is the first, and at the end of the list there was none.
-- Assumes nothing.
use Prim.Native.Nat.{ℕ, zero, suc, ◌-◌, ◌≤◌}
use native.Mathlib.Nat.{not-suc-le-zero}
use native.Mathlib.Omega.{arith}
use mathlib.Core.Path.{◌≡◌, sym, ◌∙◌}
use mathlib.Core.Bool.{◌||◌}
use mathlib.Core.List.{List}
use lib.Dec.{leb, ltb}
use lib.ListN.{get_or}
use Rattle.rules.specs.Limits.{span_max}
use Rattle.model.specs.Faults.{bad_tick}
use Rattle.judging.proofs.Places.{first_met, none_met}
use Rattle.judging.proofs.judge_ticks.Goals as goal

after : (ticks : List ℕ) (i : ℕ) → 1 ≤ i
    → bad_tick ticks i ≡ (leb (get_or ticks i 0) (get_or ticks (i - 1) 0) || ltb span_max (get_or ticks i 0 - get_or ticks 0 0))
after ticks zero h = absurd (not-suc-le-zero h)
after ticks (suc i) h = let e : suc i - 1 ≡ i = omega arith in rw e

pub returns-then-is_bad_tick : goal.returns-then-is_bad_tick
returns-then-is_bad_tick c =
    first_met _ c.loop-i.invariant.1 c.loop-i-test.true
    (after c.args.ticks.now c.loop-i.i c.loop-i.auto.i ∙ sym c.is_bad_tick.ensures ∙ c.if-is_bad_tick.true)

pub returns : goal.returns
returns c = none_met _ c.loop-i.invariant.1 c.loop-i-test.false
