-- `judging::judge_rates` meets its contract: the number of the rates is judged first, then the list.
-- Assumes nothing.
use mathlib.Core.Path.{◌≡◌, sym, ◌∙◌}
use mathlib.Core.List.{List}
use Prim.Native.Nat.{ℕ}
use lib.ListN.{length}
use Rattle.rules.specs.Refusals as refusal
use Rattle.terms.specs.Answers.{lowest, first}
use Rattle.terms.proofs.AnswersLaws.{none, test, list, lowest-first}
use Rattle.model.specs.Faults.{rates_faults}
use Rattle.judgement.proofs.Steps.{stop, pass, on_ok, last}
use Rattle.judging.proofs.Limits.{rates-within}
use Rattle.judging.proofs.judge_rates.Goals as goal

rates-first : (rates : List ℕ) → lowest (rates_faults rates) ≡ first (rates_faults rates)
rates-first rates = lowest-first {n = refusal.rate} (test refusal.rate _ 0 tt (list refusal.rate _ (length rates) tt none))

pub returns-in_err-refuse_if-clause-judges : goal.returns-in_err-refuse_if-clause-judges
returns-in_err-refuse_if-clause-judges c =
    stop _ _ _ _ (rw c.is_outside.ensures at c.refuse_if.ensures) c.in_err-refuse_if.was c.from_residual.ensures.1
    ∙ sym (rates-first c.args.rates.now)

pub returns : goal.returns
returns c =
    let steps = rates-first c.args.rates.now ∙ pass _ _ _ (rw c.is_outside.ensures at c.refuse_if.ensures) c.in_ok-refuse_if.was ∙ last _ in
    let judges = c.judge_rate_list.ensures ∙ sym steps in
    record { judges = judges; within = on_ok _ judges (rates-within c.args.rates.now) }
