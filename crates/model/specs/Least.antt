-- The least figures of a recording at a rate (document 01, "How bits arrive and leave", "Least figures").
--     bits_before      sizes of the pictures before picture n
--     bits_from_to     sizes i to j
--     need             TS x (sizes i to j) - R x NU x (tick j - tick i): what the span from i to j needs, in units
--     fullness_need    the largest need of a span that begins at picture 0
--     buffer_need      the largest need of any span
--     least_fullness   least F
--     least_buffer     least B
--     least_bucket     both, as a bucket
-- A need below zero counts as 0. The need of i = j is TS x size, above 0, so the largest is the same (need-self in the laws).
-- Laws: proofs/LeastLaws.antt. Assumes nothing.
use Rattle.std.specs.Prelude.{ℕ, zero, suc, ◌+◌, ◌-◌, ◌*◌}
use Rattle.terms.specs.Numbers.{round_up, largest}
use Rattle.model.specs.Recording.{Recording, pictures, size, distance}
use Rattle.model.specs.Arrival.{Bucket, bucket}

unfoldable pub bits_before : Recording → (n : ℕ) → ℕ
bits_before k zero = 0
bits_before k (suc n) = bits_before k n + size k n

abbrev pub bits_from_to : Recording → (i j : ℕ) → ℕ
bits_from_to k i j = bits_before k (suc j) - bits_before k i

abbrev pub need : (k : Recording) (rate i j : ℕ) → ℕ
need k rate i j = k.ts * bits_from_to k i j - rate * k.nu * distance k i j

-- "the largest, over j"
abbrev pub fullness_need : Recording → (rate : ℕ) → ℕ
fullness_need k rate = largest (λ j. need k rate 0 j) (pictures k)

-- "the largest, over all i not above j"
abbrev pub buffer_need : Recording → (rate : ℕ) → ℕ
buffer_need k rate = largest (λ j. largest (λ i. need k rate i j) (suc j)) (pictures k)

-- "divided by TS, rounded up"
abbrev pub least_fullness : Recording → (rate : ℕ) → ℕ
least_fullness k rate = round_up (fullness_need k rate) k.ts

abbrev pub least_buffer : Recording → (rate : ℕ) → ℕ
least_buffer k rate = round_up (buffer_need k rate) k.ts

abbrev pub least_bucket : Recording → (rate : ℕ) → Bucket
least_bucket k rate = bucket rate (least_buffer k rate) (least_fullness k rate)
