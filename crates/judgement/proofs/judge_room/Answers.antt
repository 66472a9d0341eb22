-- `judgement::judge_room` meets its contract: what is left from the entry on is compared, so that no sum can wrap.
-- Assumes nothing.
use Prim.Native.Nat.{ℕ, ◌+◌, ◌-◌, ◌≤◌, ◌<◌}
use native.Mathlib.Decide.{dec_lt}
use native.Mathlib.Omega.{arith}
use mathlib.Core.Path.{◌≡◌, sym, ap, ◌∙◌}
use mathlib.Core.Bool.{true}
use lib.Dec.{ltb}
use borrow.Author.Tests.{lt-ltb, le-ltb, ltb-false}
use Rattle.rules.specs.Refusals as refusal
use Rattle.terms.specs.Answers.{refuse_if}
use Rattle.terms.proofs.AnswersLaws.{test-true, refuse_if-passed}
use Rattle.judgement.proofs.Steps.{on_ok}
use Rattle.judgement.proofs.judge_room.Goals as goal

past-end : (len at count : ℕ) → len < at → ltb len (at + count) ≡ true
past-end len at count h = lt-ltb len (at + count) (omega arith)

left-over : (len at count : ℕ) → at ≤ len → ltb (len - at) count ≡ ltb len (at + count)
left-over len at count h =
    elim (dec_lt len (at + count)) [
      | yes g ↦ lt-ltb (len - at) count (omega arith) ∙ sym (lt-ltb len (at + count) g)
      | no g ↦ le-ltb (len - at) count (omega arith) ∙ sym (le-ltb len (at + count) (omega arith))
    ]

pub returns-then-len-at-clause-judges : goal.returns-then-len-at-clause-judges
returns-then-len-at-clause-judges c = sym (test-true refusal.room 0 (past-end _ _ _ c.if-len-at.true))

pub returns : goal.returns
returns c =
    let judges = c.refuse_if.ensures ∙ ap (λ bad. refuse_if bad refusal.room 0) (left-over _ _ _ c.if-len-at.false) in
    record { judges = judges; roomy = on_ok _ judges (λ pass. ltb-false _ _ ((refuse_if-passed _ refusal.room 0).0 pass)) }
