-- The two codes of the parameter bits, most significant bit first (document 01, "HRD parameter bits"; H.264 clause 7.2 for u(n), 9.1 for ue(v)).
--     Bits         a run of bits to read from: the bit at each position, and the position after the last
--     bits_of      the bits of a lent byte list: "Only the first 2^29 bytes of a lent byte list count"
--     Code         u(n) or ue(v)
--     Read         a value and the next position; or the bits end inside the code; or the code breaks the rule
--     unsigned     the value of w bits from a position on
--     zeros_from   how many zeros stand at the start of n bits
--     read_code    what reading one code answers
--     code_bits    the bits that write a value in a code
--     CodeFits     a value that a code can write
--     Stands       a list of bits stands in a run of bits from a position on, within its end
--     put_bits     a byte list with some bits stored from a position on, all others kept
-- A refusal of read_code carries the first bit of its field. Subtraction stops at 0 at one place: no bits are left to read from a position past
-- the end. In 7 - p % 8, 2 ^ z - 1 and v + 1 - 2 ^ z what is subtracted is the smaller, and in put_bit the bit taken out is in the byte.
-- Laws: proofs/CodesLaws.antt. Assumes nothing.
use Rattle.std.specs.Prelude.{ℕ, zero, suc, ◌+◌, ◌-◌, ◌*◌, ◌/◌, ◌%◌, ◌^◌, min, ◌≤◌, ◌<◌, ◌≡◌, cond, ◌&&◌, List, [], ◌∷◌, ◌++◌, leb, eqb, length, get_or, set, replicate}
use Rattle.rules.specs.Limits.{bytes_max, value_max, zeros_max}

pub record Bits : Type 0 where
  pub bit : ℕ → ℕ
  pub end : ℕ

-- bit p of the bytes, position 0 being the highest bit of byte 0
abbrev pub bit_at : (bytes : List ℕ) (p : ℕ) → ℕ
bit_at bytes p = get_or bytes (p / 8) 0 / 2 ^ (7 - p % 8) % 2

abbrev pub bits_of : (bytes : List ℕ) → Bits
bits_of bytes = record { bit = bit_at bytes; end = 8 * min (length bytes) bytes_max }

pub data Code : Type 0 where
  u : (w : ℕ) → Code
  ue : Code

pub data Read : Type 0 where
  got : (value next : ℕ) → Read
  ended : (first : ℕ) → Read
  broken : (first : ℕ) → Read

unfoldable pub unsigned : Bits → (p w : ℕ) → ℕ
unsigned x p zero = 0
unsigned x p (suc w) = 2 * unsigned x p w + x.bit (p + w)

-- z zeros at the start of n bits, and then one bit more
abbrev pub one_more : (z n bit : ℕ) → ℕ
one_more z n bit = cond (eqb z n && eqb bit 0) (suc n) z

unfoldable pub zeros_from : Bits → (p n : ℕ) → ℕ
zeros_from x p zero = 0
zeros_from x p (suc n) = one_more (zeros_from x p n) n (x.bit (p + n))

-- the value and the next position, unless the bits end before it
abbrev pub got_within : Bits → (p value next : ℕ) → Read
got_within x p value next = cond (leb next x.end) (got value next) (ended p)

-- z zeros, a one, and z bits: 2^z - 1 and what these bits say.
-- "A code with 32 leading zeros breaks the rule as soon as its 32nd zero is read"
abbrev pub read_ue : Bits → (p z : ℕ) → Read
read_ue x p z =
    cond (eqb z zeros_max) (broken p) (got_within x p (2 ^ z - 1 + unsigned x (p + z + 1) z) (p + z + 1 + z))

abbrev pub read_code : Bits → Code → (p : ℕ) → Read
read_code x (u w) p = got_within x p (unsigned x p w) (p + w)
read_code x ue p = read_ue x p (zeros_from x p (min zeros_max (x.end - p)))

-- the w lowest bits of v
unfoldable pub unsigned_bits : (w v : ℕ) → List ℕ
unsigned_bits zero v = []
unsigned_bits (suc w) v = unsigned_bits w (v / 2) ++ (v % 2 ∷ [])

-- the largest z, up to n, with 2^z at most v + 1
unfoldable pub zeros_of : (v n : ℕ) → ℕ
zeros_of v zero = 0
zeros_of v (suc n) = cond (leb (2 ^ suc n) (v + 1)) (suc n) (zeros_of v n)

-- z zeros, a one, and v + 1 - 2^z in z bits
abbrev pub ue_bits : (v z : ℕ) → List ℕ
ue_bits v z = replicate z 0 ++ (1 ∷ unsigned_bits z (v + 1 - 2 ^ z))

abbrev pub code_bits : Code → (v : ℕ) → List ℕ
code_bits (u w) v = unsigned_bits w v
code_bits ue v = ue_bits v (zeros_of v zeros_max)

abbrev pub CodeFits : Code → (v : ℕ) → Type 0
CodeFits (u w) v = v < 2 ^ w
CodeFits ue v = v ≤ value_max

pub record Stands (x : Bits) (p : ℕ) (bits : List ℕ) : Type 0 where
  pub within : p + length bits ≤ x.end
  pub same : (i : ℕ) → i < length bits → x.bit (p + i) ≡ get_or bits i 0

-- the bytes with bit p set to b
abbrev pub put_bit : (bytes : List ℕ) (p b : ℕ) → List ℕ
put_bit bytes p b = set bytes (p / 8) (get_or bytes (p / 8) 0 + b * 2 ^ (7 - p % 8) - bit_at bytes p * 2 ^ (7 - p % 8))

unfoldable pub put_bits : (bytes : List ℕ) (p : ℕ) (bits : List ℕ) → List ℕ
put_bits bytes p [] = bytes
put_bits bytes p (b ∷ bits) = put_bits (put_bit bytes p b) (suc p) bits
