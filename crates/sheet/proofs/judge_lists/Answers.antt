-- `sheet::judge_lists` meets its contract: what was read are the sheet's lists, whose recording is judged first and then its rates.
-- Assumes nothing.
use Rattle.sheet.proofs.OpenLaws.{lists-stop, lists-last}
use Rattle.sheet.proofs.judge_lists.Goals as goal

pub returns-in_err-judge : goal.returns-in_err-judge
returns-in_err-judge c =
    lists-stop c.args.bytes.now c.args.head c.requires.0 _ _ _ _ c.read_words.ensures c.read_words-2.ensures _ c.judge.ensures _ _ c.in_err-judge.was c.from_residual.ensures.1

pub returns : goal.returns
returns c =
    lists-last c.args.bytes.now c.args.head c.requires.0 _ _ _ _ c.read_words.ensures c.read_words-2.ensures _ c.judge.ensures _ c.in_ok-judge.was
    _ _ c.read_words-3.ensures c.judge_rate_list.ensures
