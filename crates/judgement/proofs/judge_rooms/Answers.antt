-- `judgement::judge_rooms` meets its contract: the lowest of two judgements is the lower.
-- Assumes nothing.
use Prim.Native.Nat.{ℕ, ◌≤◌}
use lib.Dec.{ltb}
use mathlib.Core.Path.{◌≡◌, sym, ap₂, ◌∙◌}
use borrow.Author.Tests.{ltb-false}
use Rattle.rules.specs.Refusals as refusal
use Rattle.terms.specs.Answers.{refuse_if, passed, lower}
use Rattle.terms.proofs.AnswersLaws.{lowest-two, lowest-passed, refuse_if-passed}
use Rattle.judgement.proofs.Steps.{on_ok}
use Rattle.judgement.proofs.judge_rooms.Goals as goal

fits : {l n : ℕ} → refuse_if (ltb l n) refusal.room 0 ≡ passed → n ≤ l
fits {l} {n} pass = ltb-false l n ((refuse_if-passed (ltb l n) refusal.room 0).0 pass)

pub returns : goal.returns
returns c =
    let judges = c.lower.ensures ∙ ap₂ lower c.judge_room.ensures.judges c.judge_room-2.ensures.judges ∙ sym (lowest-two _ _) in
    record {
      judges = judges;
      roomy =
          on_ok _ judges
          (λ pass.
          let each = (lowest-passed _).0 pass in
          (fits each.0, fits each.1.0));
    }
