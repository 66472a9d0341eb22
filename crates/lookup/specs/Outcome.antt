-- What this crate's answers say, in document 01's numbers, places and values.
--     found_of    the bucket found, or a refusal
-- Assumes nothing.
use Rattle.std.specs.Prelude.{Result}
use Rattle.model.specs.Arrival as arrival
use Rattle.terms.specs.Answers.{Answer}
use Rattle.judgement.specs.Outcome.{answer_by}
use Rattle.judgement.specs.declared.Refusal.{Refusal}
use Rattle.recording.specs.Given.{bucket_of}
use Rattle.recording.specs.declared.Bucket.{Bucket}

abbrev pub found_of : Result Bucket Refusal → Answer arrival.Bucket
found_of r = answer_by bucket_of r
