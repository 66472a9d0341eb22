-- `needs::least_at` meets its contract: after the last picture it holds the needs of the least figures, which fit with
-- TS - 1 added.
-- Assumes nothing.
use Prim.Native.Nat.{ℕ, ◌+◌, ◌-◌}
use native.Mathlib.Nat.{le_refl, le_trans}
use native.Mathlib.Omega.{arith}
use mathlib.Core.Path.{◌≡◌, ap, ap₂, ◌∙◌}
use Rattle.rules.specs.Limits.{bucket_max}
use Rattle.rules.specs.Width.{Word}
use Rattle.rules.proofs.Fits.{round_up-fits}
use Rattle.terms.specs.Numbers.{round_up}
use Rattle.model.specs.Recording.{Recording, Within, pictures}
use Rattle.model.specs.Arrival.{bucket}
use Rattle.model.specs.Least.{least_buffer, least_fullness}
use Rattle.model.specs.Needs.{Needs, needs_below}
use Rattle.model.proofs.FaultsLaws.{within-recorded}
use Rattle.model.proofs.NeedsLaws.{needs_below-covers, needs_below-limit, needs_below-least}
use Rattle.needs.proofs.least_at.Goals as goal

module _ (k : Recording) (rate : ℕ) (m : Needs) (e : m ≡ needs_below k rate (pictures k)) (w : Within k) where
  both-fit : Word (m.buffer + (k.ts - 1)) × Word (m.fullness + (k.ts - 1))
  both-fit =
      let covers = needs_below-covers k rate (pictures k) in
      let most = needs_below-limit w rate (le_refl (pictures k)) in
      rw e (
        round_up-fits w.scale (le_refl bucket_max) (le_trans covers.1 most),
        round_up-fits w.scale (le_refl bucket_max) (le_trans covers.2 most),
      )

  both-least : (round_up m.buffer k.ts ≡ least_buffer k rate) × (round_up m.fullness k.ts ≡ least_fullness k rate)
  both-least =
      let (buffer, fullness) = needs_below-least k (within-recorded w) rate in
      rw e (ap (λ x. round_up x k.ts) buffer, ap (λ x. round_up x k.ts) fullness)

pub round_up-requires : goal.round_up-requires
round_up-requires c = omega (arith, both-fit _ _ _ c.measure-m.ensures c.args.judged.within, c.args.judged.within.ticking)

pub round_up-requires-2 : goal.round_up-requires-2
round_up-requires-2 c = omega (arith, both-fit _ _ _ c.measure-m.ensures c.args.judged.within, c.args.judged.within.ticking)

pub returns : goal.returns
returns c =
    let (buffer, fullness) = both-least _ _ _ c.measure-m.ensures c.args.judged.within in
    ap₂ (bucket c.args.rate) (c.round_up.ensures ∙ buffer) (c.round_up-2.ensures ∙ fullness)
