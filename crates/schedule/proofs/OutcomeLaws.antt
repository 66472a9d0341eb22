-- The answers of this crate, step by step. Definitions: model/specs/Faults.antt, model/specs/Outcomes.antt, specs/Outcome.antt.
--     roomy               lists that pass have room
--     verdict-first       a recording is judged first, then a bucket
--     verdict-passed      and both pass where each does
--     schedule-first      then the room of two lists
--     schedule-refused    a schedule that is refused leaves both lists
--     schedule-given      one that is not has the verdict and fills both lists
-- Assumes nothing.
use Prim.Native.Nat.{ℕ, ◌+◌, ◌≤◌}
use mathlib.Core.Path.{◌≡◌, sym, ap, ◌∙◌}
use mathlib.Core.List.{List, [], ◌∷◌}
use lib.ListN.{length}
use Rattle.std.specs.Prelude.{Result, Ok}
use Rattle.std.specs.Result.{IsErrAnd}
use Rattle.rules.specs.Refusals as refusal
use Rattle.terms.specs.Numbers.{filled}
use Rattle.terms.specs.Answers.{Judgement, passed, or_else, lowest, first, answer_with, written_if}
use Rattle.terms.proofs.NumbersLaws.{lent, back, lent-room, written-back}
use Rattle.terms.proofs.FilledLaws.{filled-written}
use Rattle.terms.proofs.AnswersLaws.{skip, none, test, lowest-first, lowest-passed, room_check-passed}
use Rattle.model.specs.Recording.{Recording, pictures}
use Rattle.model.specs.Arrival.{Bucket, arrival_start, arrival_end, starts, ends}
use Rattle.model.specs.Arrival as arrival
use Rattle.model.specs.Faults.{seconds_faults, room_faults, verdict_faults, schedule_faults}
use Rattle.model.specs.Outcomes.{judge_outcome, Scheduled, schedule_outcome}
use Rattle.model.proofs.FaultsLaws.{seconds_faults-ascending, verdict_faults-first, verdict_faults-after}
use Rattle.judgement.specs.Outcome.{judgement_of}
use Rattle.judgement.specs.declared.Refusal.{Refusal}
use Rattle.judgement.proofs.Steps.{stopped, last}
use Rattle.schedule.specs.Outcome.{verdict_of, scheduled}
use Rattle.schedule.specs.declared.Verdict.{Verdict}

pub roomy : (l m : List ℕ) (at n : ℕ) → lowest (room_faults l m at n) ≡ passed → (at + n ≤ length l) × (at + n ≤ length m)
roomy l m at n room =
    let each = (lowest-passed (room_faults l m at n)).0 room in ((room_check-passed l at n).0 each.0, (room_check-passed m at n).0 each.1.0)

module _ (k : Recording) (u : Bucket) where
  pub verdict-first : lowest (verdict_faults k u) ≡ first (judge_outcome k ∷ lowest (seconds_faults u) ∷ [])
  unfolding first
  verdict-first =
      verdict_faults-first k u
      ∙ ap (or_else (judge_outcome k)) (sym (lowest-first (seconds_faults-ascending u none)) ∙ sym (last (lowest (seconds_faults u))))

  pub verdict-passed : judge_outcome k ≡ passed → lowest (seconds_faults u) ≡ passed → lowest (verdict_faults k u) ≡ passed
  verdict-passed recorded sound = verdict-first ∙ skip _ recorded ∙ last _ ∙ sound

  module _ (at : ℕ) (l m : List ℕ) where
    pub schedule-first : lowest (schedule_faults k u at l m) ≡ first (lowest (verdict_faults k u) ∷ lowest (room_faults l m at (pictures k)) ∷ [])
    unfolding first
    schedule-first =
        let rooms = test refusal.room _ 0 tt (test refusal.room _ 0 tt none) in
        verdict_faults-after k u (room_faults l m at (pictures k)) rooms
        ∙ ap (or_else (lowest (verdict_faults k u))) (sym (lowest-first rooms) ∙ sym (last (lowest (room_faults l m at (pictures k)))))

    -- the outcome where the judgement is j
    abbrev answered : Judgement → Scheduled
    answered j =
        record { answer = answer_with j (arrival.verdict_of k u); starts = written_if j l at (starts k u); ends = written_if j m at (ends k u) }

    pub schedule-refused : (out : Result Verdict Refusal) (e : Refusal) → IsErrAnd out (λ y. y ≡ e)
        → judgement_of out ≡ first (lowest (verdict_faults k u) ∷ lowest (room_faults l m at (pictures k)) ∷ [])
        → scheduled out l m ≡ schedule_outcome k u at l m
    schedule-refused out e left says =
        let is = stopped out e left in
        ap (λ r. scheduled r l m) is ∙ ap answered (sym (ap judgement_of is) ∙ says ∙ sym schedule-first)

    module _ (room : lowest (room_faults l m at (pictures k)) ≡ passed) where
      -- where h is what was judged
      pub schedule-given : (v : Verdict) {h : Recording} {from to : List ℕ} → lowest (verdict_faults k u) ≡ passed → h ≡ k
          → verdict_of v ≡ arrival.verdict_of h u → from ≡ filled (lent l at) (arrival_start h u) (pictures h)
          → to ≡ filled (lent m at) (arrival_end h u) (pictures h) → scheduled (Ok v) (back l at from) (back m at to) ≡ schedule_outcome k u at l m
      schedule-given v {from = from} {to = to} judged same sees filled-starts filled-ends =
          let (first, second) = roomy l m at (pictures k) room in
          sym
          (ap answered (schedule-first ∙ skip _ judged ∙ last _ ∙ room)
          ∙ rw (
            ← rw same at sees,
            written-back l at (starts k u) from (rw same at filled-starts ∙ filled-written _ _ _ (lent-room l at _ first)),
            written-back m at (ends k u) to (rw same at filled-ends ∙ filled-written _ _ _ (lent-room m at _ second)),
          ))
