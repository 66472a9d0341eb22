-- The starred cases of document 01, "Worked figures", that are of recordings, computed from the definitions. With those of parameter bits they
-- are one list with one claim in demands/proofs/Starred.antt.
--     Figure     what a case shows: numbers, or the answer of an operation
--     computed   the cases, in the document's order
--     expected   what the document says of each
--     starred    they are equal
-- Definitions: specs/. Assumes nothing.
use Prim.Native.Nat.{ℕ, ◌-◌, ◌*◌}
use mathlib.Core.Path.{◌≡◌, refl}
use mathlib.Core.List.{List, [], ◌∷◌, ◌++◌}
use lib.ListN.{get_or, replicate}
use Rattle.terms.specs.Numbers.{largest, list_of}
use Rattle.model.specs.Recording.{Recording, recording, span}
use Rattle.model.specs.Arrival.{Bucket, bucket, arrival_start, Verdict, holds, late, verdict_below, starts, ends}
use Rattle.model.specs.Least.{bits_before, least_buffer}
use Rattle.model.specs.Lookup.{Table, table, rows_up_to, lookup_of}
use Rattle.terms.specs.Answers.{Answer, given, refuse_if, first_fault, lowest}
use Rattle.model.specs.Outcomes.{verdict_outcome, least_outcome, lookup_outcome}
use Rattle.model.specs.Demands.{allowance}

pub data Figure : Type 0 where
  numbers : List ℕ → Figure
  verdict : Answer Verdict → Figure
  figures : Answer Bucket → Figure

abbrev pub up_to : ℕ → List ℕ
up_to n = list_of (λ i. i) n

unfoldable pub recording_d : Recording
recording_d = recording (5000 ∷ replicate 5 1000 ++ replicate 6 500) (up_to 12) 1 1

unfoldable pub recording_e : Recording
recording_e = recording (100 ∷ 100 ∷ 900 ∷ 100 ∷ []) (up_to 4) 1 1

-- the table of least figures of recording D at the given rates, asked with its own span
rows_of_d : List ℕ → List ℕ → Table
unfolding recording_d
rows_of_d rates xs = table rates xs xs 1 1 (span recording_d)

pub computed : List Figure
unfolding recording_d recording_e rows_of_d
computed =
    numbers (starts recording_d (bucket 1000 10000 10000))
    ∷ numbers (get_or (ends recording_d (bucket 1000 10000 10000)) 11 0 ∷ [])
    ∷ verdict (verdict_outcome recording_d (bucket 1000 10000 10000))
    ∷ figures (least_outcome recording_d 1000)
    ∷ figures (least_outcome recording_d 500)
    ∷ figures (least_outcome recording_d 250)
    ∷ verdict (verdict_outcome recording_d (bucket 1000 4999 4999))
    ∷ figures (lookup_outcome (rows_of_d (250 ∷ 1000 ∷ []) (10250 ∷ 5000 ∷ [])) 625)
    ∷ figures (least_outcome recording_d 625)
    ∷ numbers
    (((lookup_of (rows_of_d (250 ∷ 1000 ∷ []) (10250 ∷ 5000 ∷ [])) 625).buffer - least_buffer recording_d 625)
    ∷ (2 * allowance recording_d 250 1000 625)
    ∷ [])
    ∷ figures (lookup_outcome (rows_of_d (250 ∷ []) (10250 ∷ [])) 100)
    ∷ figures (least_outcome recording_d 100)
    ∷ figures (lookup_outcome (rows_of_d (1000 ∷ []) (5000 ∷ [])) 2000)
    ∷ figures (least_outcome recording_e 300)
    ∷ verdict (verdict_outcome recording_e (bucket 300 899 500))
    ∷ verdict (verdict_outcome recording_e (bucket 300 900 499))
    ∷ figures (least_outcome (recording (10 ∷ 10 ∷ []) (0 ∷ 1 ∷ []) 3 1) 10)
    ∷ []

pub expected : List Figure
expected =
    numbers (0 ∷ 5000 ∷ 6000 ∷ 7000 ∷ 8000 ∷ 9000 ∷ 10000 ∷ 10500 ∷ 11000 ∷ 11500 ∷ 12000 ∷ 12500 ∷ [])
    ∷ numbers (13000 ∷ [])
    ∷ verdict (given holds)
    ∷ figures (given (bucket 1000 5000 5000))
    ∷ figures (given (bucket 500 7500 7500))
    ∷ figures (given (bucket 250 10250 10250))
    ∷ verdict (given (late 0 1))
    ∷ figures (given (bucket 625 7625 7625))
    ∷ figures (given (bucket 625 6875 6875))
    -- 750 is used, and twice the allowance of 2064.5 x TS x (Rb - Ra) is 4129 x 750
    ∷ numbers (750 ∷ (4129 * 750) ∷ [])
    ∷ figures (given (bucket 100 11900 11900))
    ∷ figures (given (bucket 100 11900 11900))
    ∷ figures (given (bucket 2000 5000 5000))
    ∷ figures (given (bucket 300 900 500))
    ∷ verdict (given (late 2 1))
    ∷ verdict (given (late 2 1))
    ∷ figures (given (bucket 10 17 17))
    ∷ []

pub starred : computed ≡ expected
unfolding computed expected largest list_of arrival_start verdict_below bits_before rows_up_to refuse_if first_fault lowest
starred = refl
