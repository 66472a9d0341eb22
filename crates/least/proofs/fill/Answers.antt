-- `least::fill` meets its contract. The loop's invariant: each list begins with its figures at the rates passed, and what stands
-- behind them is as it was. Assumes nothing.
use Prim.Native.Nat.{ℕ, ◌≤◌}
use mathlib.Core.Path.{◌≡◌, refl, sym, ap, ◌∙◌}
use mathlib.Core.List.{List, map}
use lib.ListN.{length}
use Rattle.terms.specs.Numbers.{written}
use Rattle.model.specs.Arrival.{Bucket}
use Rattle.model.specs.Least.{least_buffer, least_fullness}
use Rattle.recording.specs.Given.{recording_of}
use Rattle.terms.proofs.NumbersLaws.{map-list_of}
use Rattle.terms.proofs.FilledLaws.{filled-none, filled-more, filled-all}
use Rattle.least.proofs.fill.Invariants.{Rated}
use Rattle.least.proofs.fill.Goals as goal

rated-all : (f : ℕ → ℕ) (rates l₀ l : List ℕ) (i : ℕ) → Rated f rates l₀ l i → i ≤ length rates → length rates ≤ i → length rates ≤ length l₀ → l ≡ written l₀ 0 (map f rates)
rated-all f rates l₀ l i p h g room = filled-all p h g room ∙ ap (written l₀ 0) (sym (map-list_of f rates))

pub loop-i-init : goal.loop-i-init
loop-i-init c = (filled-none _ _, filled-none _ _)

pub loop-i-preserved : goal.loop-i-preserved
loop-i-preserved c =
    let e = c.least_at-bucket.ensures in
    (filled-more c.loop-i.invariant.0 refl (ap (λ (u : Bucket). u.buffer) e), filled-more c.loop-i.invariant.1 refl (ap (λ (u : Bucket). u.fullness) e))

pub returns : goal.returns
returns c =
    let a = c.args in
    let k = recording_of a.judged.recording in
    let (buffers, fullnesses) = c.loop-i.invariant in (
      rated-all (least_buffer k) a.rates.now _ _ _ buffers c.loop-i.auto.i-end c.loop-i-test.false c.requires.1,
      rated-all (least_fullness k) a.rates.now _ _ _ fullnesses c.loop-i.auto.i-end c.loop-i-test.false c.requires.2,
    )
