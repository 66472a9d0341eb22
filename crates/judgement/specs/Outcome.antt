-- What this crate's answers say, in document 01's numbers and places.
--     number_of, place_of    of a refusal
--     answer_in              a Result that refuses by any number and place: what is given, read by f; or the refusal
--     judgement_in           whether it is a refusal, and which
--     answer_by              answer_in, of a Refusal
--     judgement_of           judgement_in, of a Refusal
-- Assumes nothing.
use Rattle.std.specs.Prelude.{ℕ, Result, Ok, Err}
use Rattle.rules.specs.Refusals as refusal
use Rattle.terms.specs.Answers as answers
use Rattle.judgement.specs.declared.Refusal.{Refusal}
use Rattle.judgement.specs.declared.Refusal.TheVariants.{Pictures, Lengths, Clock, Size, Tick, Rate, Bucket, Room, Short, Field, Constant, Sheet, Limit}

abbrev pub number_of : Refusal → ℕ
number_of Pictures = refusal.pictures
number_of Lengths = refusal.lengths
number_of Clock = refusal.clock
number_of (Size i) = refusal.size
number_of (Tick i) = refusal.tick
number_of (Rate i) = refusal.rate
number_of (Bucket i) = refusal.bucket
number_of Room = refusal.room
number_of Short = refusal.short
number_of (Field i) = refusal.field
number_of (Constant i) = refusal.constant
number_of Sheet = refusal.sheet
number_of Limit = refusal.limit

abbrev pub place_of : Refusal → ℕ
place_of Pictures = 0
place_of Lengths = 0
place_of Clock = 0
place_of (Size i) = i
place_of (Tick i) = i
place_of (Rate i) = i
place_of (Bucket i) = i
place_of Room = 0
place_of Short = 0
place_of (Field i) = i
place_of (Constant i) = i
place_of Sheet = 0
place_of Limit = 0

abbrev pub answer_in : {A B R : Type 0} → (R → ℕ) → (R → ℕ) → (A → B) → Result A R → answers.Answer B
answer_in number place f (Ok x) = answers.given (f x)
answer_in number place f (Err r) = answers.refused (number r) (place r)

abbrev pub judgement_in : {A R : Type 0} → (R → ℕ) → (R → ℕ) → Result A R → answers.Judgement
judgement_in number place r = answer_in number place (λ _. tt) r

abbrev pub answer_by : {A B : Type 0} → (A → B) → Result A Refusal → answers.Answer B
answer_by f r = answer_in number_of place_of f r

abbrev pub judgement_of : {A : Type 0} → Result A Refusal → answers.Judgement
judgement_of r = judgement_in number_of place_of r
