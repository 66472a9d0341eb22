-- `judging::judge` meets its contract: each step is the check of its place, and the first that refuses is the outcome.
-- Assumes nothing.
use mathlib.Core.Path.{sym, ap, ◌∙◌}
use borrow.Author.Tests.{not-false, eqb-true}
use Rattle.rules.specs.Refusals as refusal
use Rattle.terms.specs.Answers.{first_fault}
use Rattle.terms.proofs.AnswersLaws.{refuse_if-passed}
use Rattle.model.specs.Recording.{Recording}
use Rattle.model.specs.Faults.{bad_tick}
use Rattle.model.proofs.FaultsLaws.{judge-first}
use Rattle.judgement.proofs.Steps.{stop, pass, passes, last}
use Rattle.recording.specs.Given.{recording_of}
use Rattle.judging.proofs.judge.Goals as goal

pub returns-in_err-refuse_if : goal.returns-in_err-refuse_if
returns-in_err-refuse_if c =
    let k : Recording = recording_of c.args.recording in
    stop _ _ _ _ (rw c.is_outside.ensures at c.refuse_if.ensures) c.in_err-refuse_if.was c.from_residual.ensures.1 ∙ sym (judge-first k)

pub returns-in_err-refuse_if-2 : goal.returns-in_err-refuse_if-2
returns-in_err-refuse_if-2 c =
    let k : Recording = recording_of c.args.recording in
    stop _ _ _ _ c.refuse_if-2.ensures c.in_err-refuse_if-2.was c.from_residual-in_err-refuse_if-2.ensures.1
    ∙ sym (judge-first k ∙ pass _ _ _ (rw c.is_outside.ensures at c.refuse_if.ensures) c.in_ok-refuse_if.was)

pub returns-in_err-refuse_if-3 : goal.returns-in_err-refuse_if-3
returns-in_err-refuse_if-3 c =
    let k : Recording = recording_of c.args.recording in
    stop _ _ _ _ (rw c.is_bad_clock.ensures at c.refuse_if-3.ensures) c.in_err-refuse_if-3.was c.from_residual-in_err-refuse_if-3.ensures.1
    ∙ sym (
    judge-first k
    ∙ pass _ _ _ (rw c.is_outside.ensures at c.refuse_if.ensures) c.in_ok-refuse_if.was
    ∙ pass _ _ _ c.refuse_if-2.ensures c.in_ok-refuse_if-2.was
    )

pub returns-in_err-judge_sizes : goal.returns-in_err-judge_sizes
returns-in_err-judge_sizes c =
    let k : Recording = recording_of c.args.recording in
    stop _ _ _ _ c.judge_sizes.ensures c.in_err-judge_sizes.was c.from_residual-in_err-judge_sizes.ensures.1
    ∙ sym (
    judge-first k
    ∙ pass _ _ _ (rw c.is_outside.ensures at c.refuse_if.ensures) c.in_ok-refuse_if.was
    ∙ pass _ _ _ c.refuse_if-2.ensures c.in_ok-refuse_if-2.was
    ∙ pass _ _ _ (rw c.is_bad_clock.ensures at c.refuse_if-3.ensures) c.in_ok-refuse_if-3.was
    )

pub returns : goal.returns
returns c =
    let k : Recording = recording_of c.args.recording in
    let paired = eqb-true _ _ (not-false _ ((refuse_if-passed _ refusal.lengths 0).0 (passes _ _ c.refuse_if-2.ensures c.in_ok-refuse_if-2.was))) in
    c.judge_ticks.ensures
    ∙ ap (first_fault refusal.tick (bad_tick k.ticks)) paired
    ∙ sym (
    judge-first k
    ∙ pass _ _ _ (rw c.is_outside.ensures at c.refuse_if.ensures) c.in_ok-refuse_if.was
    ∙ pass _ _ _ c.refuse_if-2.ensures c.in_ok-refuse_if-2.was
    ∙ pass _ _ _ (rw c.is_bad_clock.ensures at c.refuse_if-3.ensures) c.in_ok-refuse_if-3.was
    ∙ pass _ _ _ c.judge_sizes.ensures c.in_ok-judge_sizes.was
    ∙ last _
    )
