-- `lookup::judge` meets its contract: each step is the check of its place, and the first that refuses is the outcome.
-- Assumes nothing.
use mathlib.Core.Path.{sym, ap, ◌∙◌}
use Rattle.rules.specs.Refusals as refusal
use Rattle.terms.specs.Answers.{first_fault}
use Rattle.model.specs.Faults.{bad_row}
use Rattle.judgement.proofs.Steps.{stop, pass, passes, last}
use Rattle.lookup.specs.Given.{table_of}
use Rattle.lookup.proofs.JudgeLaws.{lookup-lengths, lookup-first}
use Rattle.lookup.proofs.judge.Goals as goal

pub returns-in_err-judge_lengths : goal.returns-in_err-judge_lengths
returns-in_err-judge_lengths c =
    stop _ _ _ _ c.judge_lengths.ensures c.in_err-judge_lengths.was c.from_residual.ensures.1
    ∙ sym (lookup-first (table_of c.args.table) c.args.rate)

pub returns-in_err-judge_span : goal.returns-in_err-judge_span
returns-in_err-judge_span c =
    stop _ _ _ _ c.judge_span.ensures c.in_err-judge_span.was c.from_residual-in_err-judge_span.ensures.1
    ∙ sym (
    lookup-first (table_of c.args.table) c.args.rate
    ∙ pass _ _ _ c.judge_lengths.ensures c.in_ok-judge_lengths.was
    )

pub returns-in_err-judge_rates : goal.returns-in_err-judge_rates
returns-in_err-judge_rates c =
    stop _ _ _ _ c.judge_rates.ensures.judges c.in_err-judge_rates.was c.from_residual-in_err-judge_rates.ensures.1
    ∙ sym (
    lookup-first (table_of c.args.table) c.args.rate
    ∙ pass _ _ _ c.judge_lengths.ensures c.in_ok-judge_lengths.was
    ∙ pass _ _ _ c.judge_span.ensures c.in_ok-judge_span.was
    )

pub returns-in_err-judge_rate : goal.returns-in_err-judge_rate
returns-in_err-judge_rate c =
    stop _ _ _ _ c.judge_rate.ensures.judges c.in_err-judge_rate.was c.from_residual-in_err-judge_rate.ensures.1
    ∙ sym (
    lookup-first (table_of c.args.table) c.args.rate
    ∙ pass _ _ _ c.judge_lengths.ensures c.in_ok-judge_lengths.was
    ∙ pass _ _ _ c.judge_span.ensures c.in_ok-judge_span.was
    ∙ pass _ _ _ c.judge_rates.ensures.judges c.in_ok-judge_rates.was
    )

pub judge_rows-requires : goal.judge_rows-requires
judge_rows-requires c =
    let (buffers, fullnesses) = lookup-lengths (table_of c.args.table) (passes _ _ c.judge_lengths.ensures c.in_ok-judge_lengths.was) in
    fullnesses ∙ sym buffers

pub returns : goal.returns
returns c =
    let paired = lookup-lengths (table_of c.args.table) (passes _ _ c.judge_lengths.ensures c.in_ok-judge_lengths.was) in
    c.judge_rows.ensures
    ∙ ap (first_fault refusal.bucket (bad_row c.args.table.buffers.now c.args.table.fullnesses.now)) paired.0
    ∙ sym (
    lookup-first (table_of c.args.table) c.args.rate
    ∙ pass _ _ _ c.judge_lengths.ensures c.in_ok-judge_lengths.was
    ∙ pass _ _ _ c.judge_span.ensures c.in_ok-judge_span.was
    ∙ pass _ _ _ c.judge_rates.ensures.judges c.in_ok-judge_rates.was
    ∙ pass _ _ _ c.judge_rate.ensures.judges c.in_ok-judge_rate.was
    ∙ last _
    )
