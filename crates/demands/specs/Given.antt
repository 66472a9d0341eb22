-- What is given where nothing is refused.
--     figures    buffer and start fullness at a rate, as the planner's `least` and its lookup give them
-- Assumes nothing.
use Rattle.std.specs.Prelude.{ℕ, Result, Ok}
use Rattle.judgement.specs.declared.Refusal.{Refusal}
use Rattle.recording.specs.declared.Bucket.{Bucket}

abbrev pub figures : (rate b f : ℕ) → Result Bucket Refusal
figures rate b f = Ok (record { rate = rate; buffer = b; fullness = f })
