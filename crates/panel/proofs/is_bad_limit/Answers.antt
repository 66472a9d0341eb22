-- `panel::is_bad_limit` meets its contract: both comparisons are the definition's, whose two bounds the code writes as 0.0 and infinity.
-- Assumes nothing.
use mathlib.Core.Path.{◌≡◌, sym, ap, ◌∙◌}
use mathlib.Core.Bool.{Bool, not, ◌&&◌}
use lib.Ieee.{Float, binary64, of_bits, lt}
use Rattle.model.specs.Panel.{bad_limit}
use Rattle.panel.proofs.is_bad_limit.Goals as goal
use Rattle.panel.proofs.is_bad_limit.Goals.{then-limit, else-limit}

-- the two tests as the code writes them, the second bound by its bits
written : (limit : Float) {x : Bool} → lt (of_bits binary64 0) limit ≡ x → not (x && lt limit (of_bits binary64 9218868437227405312)) ≡ bad_limit limit
unfolding of_bits
written limit above = ap (λ x. not (x && lt limit (of_bits binary64 9218868437227405312))) (sym above)

pub returns : goal.returns
returns c =
    elim c.if-limit.branch [
      | then-limit w ↦ ap not w.result-is ∙ written c.args.limit w.if-limit.true
      | else-limit w ↦ ap not (w.result-is ∙ w.if-limit.false) ∙ written c.args.limit w.if-limit.false
    ]
