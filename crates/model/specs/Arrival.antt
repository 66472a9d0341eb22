-- How bits arrive and leave (document 01, under that heading). All times are whole numbers of 1/(R x TS) second.
--     Bucket          rate R, buffer B, start fullness F
--     removal         when picture i is removed
--     earliest        before when picture i may not start to arrive
--     arrival_start   when its first bit arrives
--     arrival_end     when its last bit has arrived
--     late_by         by how many units its end is after its removal; 0 is in time
--     Verdict         holds, or the first late picture and its units
--     verdict_of      the verdict on a bucket
--     starts, ends    the schedule: both times of every picture, in order
-- The earliest start may lie below zero, where subtraction stops at 0. The start is the later of it and an end, which is at
-- least 0, so it is the same (arrival_start-later in the laws).
-- Laws: proofs/ArrivalLaws.antt. Assumes nothing.
use Rattle.std.specs.Prelude.{ℕ, zero, suc, ◌+◌, ◌-◌, ◌*◌, max, List}
use Rattle.terms.specs.Numbers.{list_of}
use Rattle.model.specs.Recording.{Recording, pictures, size, distance}

pub record Bucket : Type 0 where
  pub rate : ℕ
  pub buffer : ℕ
  pub fullness : ℕ

abbrev pub bucket : (rate b f : ℕ) → Bucket
bucket rate b f = record { rate = rate; buffer = b; fullness = f }

-- "Removal of picture i: TS x F + R x NU x (tick i - tick 0)."
abbrev pub removal : Recording → Bucket → ℕ → ℕ
removal k u i = k.ts * u.fullness + u.rate * k.nu * distance k 0 i

-- "its removal time - TS x B"
abbrev pub earliest : Recording → Bucket → ℕ → ℕ
earliest k u i = removal k u i - k.ts * u.buffer

-- "Picture 0 starts to arrive at 0. Picture i after it starts at the later of the end of picture i-1 and (its removal time - TS x B)."
unfoldable pub arrival_start : Recording → Bucket → ℕ → ℕ
arrival_start k u zero = 0
arrival_start k u (suc i) = max (arrival_start k u i + k.ts * size k i) (earliest k u (suc i))

-- "Arrival end = start + TS x size."
abbrev pub arrival_end : Recording → Bucket → ℕ → ℕ
arrival_end k u i = arrival_start k u i + k.ts * size k i

-- "A picture is late if its end is after its removal. Equal is in time."
abbrev pub late_by : Recording → Bucket → ℕ → ℕ
late_by k u i = arrival_end k u i - removal k u i

pub data Verdict : Type 0 where
  holds : Verdict
  late : (picture units : ℕ) → Verdict

-- the verdict so far, and then picture i, which is late by so many units
abbrev pub then : Verdict → (i units : ℕ) → Verdict
then holds i zero = holds
then holds i (suc x) = late i (suc x)
then (late j y) i x = late j y

-- the verdict on the first n pictures
unfoldable pub verdict_below : Recording → Bucket → (n : ℕ) → Verdict
verdict_below k u zero = holds
verdict_below k u (suc n) = then (verdict_below k u n) n (late_by k u n)

-- "The verdict is "holds", or the first late picture with how many units late."
abbrev pub verdict_of : Recording → Bucket → Verdict
verdict_of k u = verdict_below k u (pictures k)

abbrev pub starts : Recording → Bucket → List ℕ
starts k u = list_of (arrival_start k u) (pictures k)

abbrev pub ends : Recording → Bucket → List ℕ
ends k u = list_of (arrival_end k u) (pictures k)
