-- A bucket at its rate and a limit, judged; and what passes is held exactly by a double. Definitions: model/specs/Faults.antt,
-- model/specs/Panel.antt.
--     seconds-exact    a rate and a bucket that pass are at most 2^53
--     panel-first      a bucket is judged first, then a limit
--     panel-refused    a reading that is refused
--     panel-given      and one that is not, from the wait that was computed
-- Assumes nothing.
use Prim.Native.Nat.{◌^◌, ◌≤◌}
use native.Mathlib.Nat.{le_trans}
use mathlib.Core.Path.{◌≡◌, sym, ap, ◌∙◌}
use mathlib.Core.Bool.{Bool, cond}
use mathlib.Core.List.{[], ◌∷◌}
use lib.Dec.{lit≤}
use lib.Ieee.{Float, le}
use Rattle.std.specs.Prelude.{Result}
use Rattle.std.specs.Result.{IsErrAnd}
use Rattle.rules.specs.Limits.{rate_max, bucket_max}
use Rattle.rules.specs.Refusals as refusal
use Rattle.terms.specs.Answers.{Judgement, given, passed, refuse_if, lowest, first, answer_with}
use Rattle.terms.proofs.NumbersLaws.{or-false, outside-false}
use Rattle.terms.proofs.AnswersLaws.{refuse_if-passed, none, test, skip, answer-given, lowest-append, lowest-passed}
use Rattle.model.specs.Arrival.{Bucket}
use Rattle.model.specs.Faults.{seconds_faults}
use Rattle.model.specs.Panel as panel
use Rattle.model.specs.Panel.{seconds_of, bad_limit, within, over, panel_faults, panel_outcome}
use Rattle.model.proofs.FaultsLaws.{seconds_faults-ascending}
use Rattle.judgement.specs.Outcome.{judgement_of}
use Rattle.judgement.specs.declared.Refusal.{Refusal}
use Rattle.judgement.proofs.Steps.{stopped, last}
use Rattle.panel.specs.Outcome.{reading_of}
use Rattle.panel.specs.declared.Reading.{Reading}

module _ (u : Bucket) where
  -- each figure is held exactly by a double
  pub seconds-exact : lowest (seconds_faults u) ≡ passed → (u.rate ≤ 2 ^ 53) × (u.buffer ≤ 2 ^ 53) × (u.fullness ≤ 2 ^ 53)
  seconds-exact pass =
      let each = (lowest-passed (seconds_faults u)).0 pass in
      let (inside, full) = (or-false _ _).0 ((refuse_if-passed _ refusal.bucket 0).0 each.1.0) in
      let most : u.buffer ≤ 2 ^ 53 = le_trans ((outside-false 1 bucket_max u.buffer).0 inside).1 (lit≤ tt) in (
        le_trans ((outside-false 1 rate_max u.rate).0 ((refuse_if-passed _ refusal.rate 0).0 each.0)).1 (lit≤ tt),
        most,
        le_trans ((outside-false 1 u.buffer u.fullness).0 full).1 most,
      )

  module _ (limit : Float) where
    pub panel-first : lowest (panel_faults u limit) ≡ first (lowest (seconds_faults u) ∷ refuse_if (bad_limit limit) refusal.limit 0 ∷ [])
    unfolding first
    panel-first =
        lowest-append (seconds_faults u) (refuse_if (bad_limit limit) refusal.limit 0 ∷ []) (seconds_faults-ascending u none)
        (seconds_faults-ascending u (test refusal.limit _ 0 tt none))

    pub panel-refused : (out : Result Reading Refusal) (e : Refusal) → IsErrAnd out (λ y. y ≡ e)
        → judgement_of out ≡ first (lowest (seconds_faults u) ∷ refuse_if (bad_limit limit) refusal.limit 0 ∷ [])
        → reading_of out ≡ panel_outcome u limit
    panel-refused out e left says =
        let is = stopped out e left in
        ap reading_of is ∙ ap (λ (j : Judgement). answer_with j (panel.reading_of u limit)) (sym (ap judgement_of is) ∙ says ∙ sym panel-first)

    pub panel-given : (wait : Float) {b : Bool} → lowest (seconds_faults u) ≡ passed → refuse_if (bad_limit limit) refusal.limit 0 ≡ passed
        → wait ≡ (seconds_of u).wait → le wait limit ≡ b → given (cond b (within wait) (over wait limit)) ≡ panel_outcome u limit
    panel-given wait sound finite e h =
        sym (answer-given _ (panel-first ∙ skip _ sound ∙ last _ ∙ finite) ∙ ap given (rw (← e, h)))
