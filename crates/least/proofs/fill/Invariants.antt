-- `least::fill` meets its contract. The loop's invariant: each list begins with its figures at the rates passed, and what stands
-- behind them is as it was. Assumes nothing.
use Prim.Native.Nat.{ℕ}
use mathlib.Core.List.{List}
use lib.ListN.{get_or}
use Rattle.model.specs.Least.{least_buffer, least_fullness}
use Rattle.terms.proofs.FilledLaws.{Filled}
use Rattle.recording.specs.Given.{recording_of}
use Rattle.least.proofs.fill.Given as goal

-- a list with f of each of the first i rates at its front, and at last of all of them
abbrev pub Rated : (f : ℕ → ℕ) (rates l₀ l : List ℕ) (i : ℕ) → Type 0
Rated f rates l₀ l i = Filled (λ j. f (get_or rates j 0)) l₀ l i

abbrev pub invariant-loop-i : goal.invariant-loop-i
invariant-loop-i l =
    let k = recording_of l.fn.judged.recording in
    Rated (least_buffer k) l.rates l.initial.buffers l.buffers l.i × Rated (least_fullness k) l.rates l.initial.fullnesses l.fullnesses l.i
