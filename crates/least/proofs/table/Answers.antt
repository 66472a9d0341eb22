-- `least::table` meets its contract: a refusal, with both lists as they were, or else the figures in both lists from the given entry on.
-- Assumes nothing.
use mathlib.Core.Path.{sym, ◌∙◌}
use Rattle.model.specs.Recording.{Recording}
use Rattle.judgement.proofs.Steps.{stop, stopped, pass, passes}
use Rattle.recording.specs.Given.{recording_of}
use Rattle.least.proofs.OutcomeLaws.{table-refused, table-written}
use Rattle.least.proofs.table.Goals as goal

pub returns-in_err-judged : goal.returns-in_err-judged
returns-in_err-judged c =
    let a = c.args in
    let left = c.from_residual.ensures.1 in
    table-refused (recording_of a.recording) a.rates.now a.at a.buffers.now a.fullnesses.now _ _ (stopped _ _ left)
    (stop _ _ _ _ c.judged.ensures.judges c.in_err-judged.was left)

pub returns-in_err-judge_rates : goal.returns-in_err-judge_rates
returns-in_err-judge_rates c =
    let a = c.args in
    let left = c.from_residual-in_err-judge_rates.ensures.1 in
    table-refused (recording_of a.recording) a.rates.now a.at a.buffers.now a.fullnesses.now _ _ (stopped _ _ left)
    (
    stop _ _ _ _ c.judge_rates.ensures.judges c.in_err-judge_rates.was left
    ∙ sym (pass _ _ _ c.judged.ensures.judges c.in_ok-judged.was)
    )

pub returns-in_err-judge_rooms : goal.returns-in_err-judge_rooms
returns-in_err-judge_rooms c =
    let a = c.args in
    let left = c.from_residual-in_err-judge_rooms.ensures.1 in
    table-refused (recording_of a.recording) a.rates.now a.at a.buffers.now a.fullnesses.now _ _ (stopped _ _ left)
    (
    stop _ _ _ _ c.judge_rooms.ensures.judges c.in_err-judge_rooms.was left
    ∙ sym (pass _ _ _ c.judged.ensures.judges c.in_ok-judged.was ∙ pass _ _ _ c.judge_rates.ensures.judges c.in_ok-judge_rates.was)
    )

pub returns : goal.returns
returns c =
    let a = c.args in
    let k : Recording = recording_of a.recording in
    let figures = rw c.in_ok-judged.ensures.same at c.fill.ensures in
    table-written k a.rates.now a.at a.buffers.now a.fullnesses.now
    (passes _ _ c.judge_rates.ensures.judges c.in_ok-judge_rates.was)
    (passes _ _ c.judge_rooms.ensures.judges c.in_ok-judge_rooms.was)
    (passes _ _ c.judged.ensures.judges c.in_ok-judged.was)
    _ _ figures.0 figures.1
