-- `lookup::Axis::figure` meets its contract: each arm is one of the lookup's four cases.
-- Assumes nothing.
use Prim.Native.Nat.{ℕ, ◌+◌, ◌-◌, ◌<◌}
use native.Mathlib.Numerals.{add-one}
use native.Mathlib.Omega.{arith}
use mathlib.Core.Path.{◌≡◌, sym, ap, ◌∙◌}
use mathlib.Core.List.{List}
use lib.ListN.{length, get_or}
use Rattle.std.proofs.Common.{rules}
use Rattle.model.specs.Lookup.{Axis, growth, blend, figure_at}
use Rattle.model.proofs.LookupLaws.{figure_at-below, figure_at-on, figure_at-between, figure_at-above}
use Rattle.lookup.specs.Ready.{AxisReady}
use Rattle.lookup.proofs.Axis.figure.Goals as goal

module _ {a : Axis} (ready : AxisReady a) (xs : List ℕ) (r : ℕ) where
  below : {y : ℕ} → y ≡ growth a r → r < get_or a.rates 0 0 → get_or xs 0 0 + y ≡ figure_at a xs r
  below grown low = ap (λ y. get_or xs 0 0 + y) grown ∙ sym (figure_at-below a xs r ready.rated.rising ready.some low)

  above : (i : ℕ) → i + 1 ≡ length a.rates → get_or a.rates i 0 < r → get_or xs i 0 ≡ figure_at a xs r
  above i e low =
      let last : length a.rates - 1 ≡ i = omega (arith, e) in
      rw (← last) (sym (figure_at-above a xs r ready.some (rw last low)))

  between : (i : ℕ) → i + 1 < length a.rates → get_or a.rates i 0 < r → r < get_or a.rates (i + 1) 0
      → blend (get_or a.rates i 0) (get_or a.rates (i + 1) 0) (get_or xs i 0) (get_or xs (i + 1) 0) r ≡ figure_at a xs r
  between i h low high = rw add-one (sym (figure_at-between a xs r ready.rated.rising i (rw add-one at h) low (rw add-one at high)))

pub returns-in-None : goal.returns-in-None
returns-in-None c = below c.args.self.ready c.args.xs.now _ c.growth.ensures.0 (search rules)

pub returns-in-Some : goal.returns-in-Some
returns-in-Some c = sym (figure_at-on _ _ _ c.args.self.ready.rated.rising _ (search rules) c.if-rates-a.true)

pub returns-in-Some-2 : goal.returns-in-Some-2
returns-in-Some-2 c = above c.args.self.ready c.args.xs.now _ c.in-Some-2.a c.if-a-rates.true (search rules)

pub returns-in-Some-3 : goal.returns-in-Some-3
returns-in-Some-3 c = c.blend.ensures ∙ between c.args.self.ready c.args.xs.now _ c.in-Some-3.a (search rules) (search rules) (search rules)
