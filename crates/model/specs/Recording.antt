-- A recording with its clock (document 01, "A recording and its units").
--     Recording    sizes in bits, removal ticks, TS and NU
--     pictures     how many pictures it has: the length of the size list
--     size, tick   of picture i
--     distance     ticks from picture i to picture j
--     span         ticks from the first picture to the last; the duration is span x NU / TS seconds, 0 for one picture
--     Recorded     what the theorems ask of a recording: some pictures, sizes of at least 1, rising ticks, a clock that ticks
--     Within       a recording that keeps every limit of document 01: one that is not refused
-- When a recording is refused, and where: specs/Faults.antt. Laws: proofs/RecordingLaws.antt. Assumes nothing.
use Rattle.std.specs.Prelude.{ℕ, suc, ◌-◌, ◌≤◌, ◌<◌, List, ◌≡◌, length, get_or}
use Rattle.terms.specs.Numbers.{Rising}
use Rattle.rules.specs.Limits.{pictures_max, size_max, span_max, ts_max, nu_max}

pub record Recording : Type 0 where
  pub sizes : List ℕ
  pub ticks : List ℕ
  pub ts : ℕ
  pub nu : ℕ

abbrev pub recording : (sizes ticks : List ℕ) (ts nu : ℕ) → Recording
recording sizes ticks ts nu = record { sizes = sizes; ticks = ticks; ts = ts; nu = nu }

abbrev pub pictures : Recording → ℕ
pictures k = length k.sizes

abbrev pub size : Recording → ℕ → ℕ
size k i = get_or k.sizes i 0

abbrev pub tick : Recording → ℕ → ℕ
tick k i = get_or k.ticks i 0

abbrev pub distance : (k : Recording) (i j : ℕ) → ℕ
distance k i j = tick k j - tick k i

abbrev pub span : Recording → ℕ
span k = distance k 0 (pictures k - 1)

pub record Recorded (k : Recording) : Type 0 where
  pub some : 1 ≤ pictures k
  pub sized : (i : ℕ) → i < pictures k → 1 ≤ size k i
  pub rising : Rising k.ticks (pictures k)
  pub ticking : 1 ≤ k.ts

pub record Within (k : Recording) : Type 0 where
  pub some : 1 ≤ pictures k
  pub few : pictures k ≤ pictures_max
  pub paired : length k.ticks ≡ pictures k
  pub ticking : 1 ≤ k.ts
  pub scale : k.ts ≤ ts_max
  pub lasting : 1 ≤ k.nu
  pub units : k.nu ≤ nu_max
  pub sized : (i : ℕ) → i < pictures k → 1 ≤ size k i
  pub small : (i : ℕ) → i < pictures k → size k i ≤ size_max
  pub rising : Rising k.ticks (pictures k)
  pub near : (i : ℕ) → suc i < pictures k → distance k 0 (suc i) ≤ span_max
