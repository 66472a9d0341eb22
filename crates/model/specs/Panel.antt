-- A panel reading (document 01, "Looking up a rate in a table"): a bucket at its rate as seconds, and the driver's limit.
--     quotient          "one rounded division of two exactly held whole numbers", in IEEE 754 binary64
--     Seconds           the wait F/R and the fill time B/R
--     seconds_of        the seconds of a bucket
--     bad_limit         the limit is not a finite number above 0
--     Reading           within, carrying the wait, or over, carrying wait and limit
--     reading_of        the reading of a bucket; "wait equal to limit is within"
--     seconds_outcome   the seconds, or a refusal
--     panel_faults, panel_outcome    the reading, or a refusal
-- Laws: proofs/PanelLaws.antt. Assumes nothing.
use Rattle.std.specs.Prelude.{ℕ, Bool, false, not, cond, ◌&&◌, List, [], ◌∷◌, ◌++◌, pos, Float}
use Rattle.std.specs.Float.{fin, inf, binary64}
use Rattle.std.specs.Float.Ieee.{of_int, div, lt, le}
use Rattle.rules.specs.Refusals as refusal
use Rattle.model.specs.Arrival.{Bucket}
use Rattle.terms.specs.Answers.{Answer, Judgement, refuse_if, lowest, answer_with}
use Rattle.model.specs.Faults.{seconds_faults}

-- both numbers are held exactly: they are at most 2^53
abbrev pub quotient : (x r : ℕ) → Float
quotient x r = div binary64 (of_int binary64 (pos x)) (of_int binary64 (pos r))

pub record Seconds : Type 0 where
  pub wait : Float
  pub fill : Float

abbrev pub seconds_of : Bucket → Seconds
seconds_of u = record { wait = quotient u.fullness u.rate; fill = quotient u.buffer u.rate }

-- zero and infinity, both positive
abbrev pub zero_seconds : Float
zero_seconds = fin false 0 (pos 0)

abbrev pub forever : Float
forever = inf false

abbrev pub bad_limit : Float → Bool
bad_limit limit = not (lt zero_seconds limit && lt limit forever)

pub data Reading : Type 0 where
  within : (wait : Float) → Reading
  over : (wait limit : Float) → Reading

abbrev pub reading_of : Bucket → (limit : Float) → Reading
reading_of u limit =
    let wait : Float = (seconds_of u).wait in
    cond (le wait limit) (within wait) (over wait limit)

abbrev pub seconds_outcome : Bucket → Answer Seconds
seconds_outcome u = answer_with (lowest (seconds_faults u)) (seconds_of u)

abbrev pub panel_faults : Bucket → (limit : Float) → List Judgement
panel_faults u limit = seconds_faults u ++ (refuse_if (bad_limit limit) refusal.limit 0 ∷ [])

abbrev pub panel_outcome : Bucket → (limit : Float) → Answer Reading
panel_outcome u limit = answer_with (lowest (panel_faults u limit)) (reading_of u limit)
