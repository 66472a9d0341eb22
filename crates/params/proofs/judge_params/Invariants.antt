-- `params::judge_params` meets its contract. The loop's invariant: the fields that are left, judged after the values passed, are judged as the whole
-- record is. Assumes nothing.
use Prim.Native.Nat.{ℕ}
use mathlib.Core.Path.{◌≡◌}
use lib.ListN.{take, drop}
use Rattle.terms.specs.Answers.{Judgement}
use Rattle.coding.specs.Fields.{fields_of, fields_judged}
use Rattle.coding.specs.Params.{Params, values_of, params_judged}
use Rattle.params.specs.Outcome.{params_of}
use Rattle.params.proofs.judge_params.Given as goal

-- the fields from number f on, judged after the values before them
abbrev pub judged_left : Params → (f : ℕ) → Judgement
judged_left p f = fields_judged (drop f (fields_of p.cpb_cnt)) (take f (values_of p)) (drop f (values_of p))

abbrev pub invariant-loop-f : goal.invariant-loop-f
invariant-loop-f l = judged_left (params_of l.params) l.f ≡ params_judged (params_of l.params)
