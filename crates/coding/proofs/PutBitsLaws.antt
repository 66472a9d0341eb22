-- What is true of bits stored in bytes. Definitions: specs/Codes.antt.
--     with_bit-lt       a number of w bits has w bits still when one of them is set (with_bit)
--     put_bits-length   the bytes keep their number
--     put_bits-append   two lists of bits are stored one behind the other
--     put_bits-at       stored bits stand where they were stored
--     put_bits-keeps    every other bit stays
--     put_bits-byte     bytes stay bytes
--     put_bits-stands   stored bits stand in the bits of the bytes, where there is room
--     put_bits-same     bits that stand there already, stored, leave the bytes as they are
-- Assumes nothing.
use Prim.Native.Nat.{ℕ, zero, suc, ◌+◌, ◌-◌, ◌*◌, ◌/◌, ◌%◌, ◌^◌, ◌≤◌, ◌<◌, suc-le-suc}
use native.Mathlib.Nat.{le_of_suc-le-suc, zero-lt-suc, suc-add, add-zero, add-suc, mod-lt, div-add-mod', div-lt_iff_lt-mul, add-sub_cancel}
use native.Mathlib.Decide.{dec_le}
use native.Mathlib.Omega.{arith}
use mathlib.Core.Path.{◌≡◌, refl, ap, ◌∙◌}
use mathlib.Core.Logic.{◌⊎◌, inl, inr, ⊎_elim, ◌≢◌}
use mathlib.Core.List.{List, [], ◌∷◌, ◌++◌}
use lib.ListN.{length, get_or, set, length-set}
use lib.Seq.{get_or-set_same, set-get_or}
use lib.Pow.{pow_pos, pow-add, split, high, low, field, mod-mod-pow, shr-shr, shr_lt}
use Rattle.coding.specs.Codes.{bit_at, bits_of, Stands, put_bit, put_bits}
use Rattle.coding.proofs.CodesLaws.{AllBits}

-- n with its bit k set to b, as put_bit sets a byte's
abbrev pub with_bit : (n k b : ℕ) → ℕ
with_bit n k b = n + b * 2 ^ k - n / 2 ^ k % 2 * 2 ^ k

-- numbers that agree below bit k and above it agree at each bit but k
bit-other : (m n k j : ℕ) → m % 2 ^ k ≡ n % 2 ^ k → m / 2 ^ (k + 1) ≡ n / 2 ^ (k + 1) → j ≢ k → m / 2 ^ j % 2 ≡ n / 2 ^ j % 2
bit-other m n k j below above ne =
    elim (dec_le (k + 1) j) [
      | yes h ↦
          let d = j - (k + 1) in
          let e : j ≡ k + 1 + d = omega arith in
          rw (e, ← shr-shr m (k + 1) d, ← shr-shr n (k + 1) d, above)
      | no h ↦
          let d = k - (j + 1) in
          let e : k ≡ d + 1 + j = omega arith in
          rw (← mod-mod-pow (m / 2 ^ j) d 1, ← mod-mod-pow (n / 2 ^ j) d 1, ← field m (d + 1) j, ← field n (d + 1) j, rw e at below)
    ]

-- bit k is b, and what is below it and above it stays
with_bit-parts : (n k b : ℕ) → b < 2 → (with_bit n k b / 2 ^ k % 2 ≡ b) × (with_bit n k b % 2 ^ k ≡ n % 2 ^ k) × (with_bit n k b / 2 ^ (k + 1) ≡ n / 2 ^ (k + 1))
with_bit-parts n k b hb =
    let q = n / 2 ^ k / 2 * 2 + b in
    let r = mod-lt n (pow_pos k) in
    let e : with_bit n k b ≡ q * 2 ^ k + n % 2 ^ k = omega (arith, split n k, ap (λ h. h * 2 ^ k) (div-add-mod' (n / 2 ^ k) 2)) in
    let from : with_bit n k b / 2 ^ k ≡ q = rw e (high q k r) in
    (rw from (omega arith), rw e (low q k r), rw (← shr-shr (with_bit n k b) k 1, ← shr-shr n k 1, from) (omega arith))

pub with_bit-lt : (n k b w : ℕ) → b < 2 → k < w → n < 2 ^ w → with_bit n k b < 2 ^ w
with_bit-lt n k b w hb h g =
    let d = w - (k + 1) in
    let e : w ≡ d + (k + 1) = omega arith in
    rw (e, pow-add 2 d (k + 1)) ((div-lt_iff_lt-mul (pow_pos (k + 1))).0 (rw (with_bit-parts n k b hb).2 (shr_lt d (k + 1) (rw e at g))))

-- what is true of entry j, and of a where it takes that entry's place, is true of entry j after
set-each : (P : ℕ → Type 0) (l : List ℕ) (i j a : ℕ) → (j ≡ i → P a) → P (get_or l j 0) → P (get_or (set l i a) j 0)
set-each P [] i j a new old = old
set-each P (x ∷ l) zero zero a new old = new refl
set-each P (x ∷ l) zero (suc j) a new old = old
set-each P (x ∷ l) (suc i) zero a new old = old
set-each P (x ∷ l) (suc i) (suc j) a new old = set-each P l i j a (λ e. new (ap suc e)) old

module _ (bytes : List ℕ) (p b : ℕ) (hb : b < 2) where
  put_bit-at : p < 8 * length bytes → bit_at (put_bit bytes p b) p ≡ b
  put_bit-at h = rw (get_or-set_same bytes (p / 8) _ 0 (omega arith)) (with_bit-parts (get_or bytes (p / 8) 0) (7 - p % 8) b hb).0

  put_bit-keeps : (q : ℕ) → q ≢ p → bit_at (put_bit bytes p b) q ≡ bit_at bytes q
  put_bit-keeps q ne =
      let (_, below, above) = with_bit-parts (get_or bytes (p / 8) 0) (7 - p % 8) b hb in
      set-each (λ byte. byte / 2 ^ (7 - q % 8) % 2 ≡ bit_at bytes q) bytes (p / 8) (q / 8) _
      (λ e. rw e (bit-other _ _ (7 - p % 8) (7 - q % 8) below above (omega arith))) refl

  put_bit-byte : ((i : ℕ) → get_or bytes i 0 < 256) → (i : ℕ) → get_or (put_bit bytes p b) i 0 < 256
  put_bit-byte h i =
      set-each (λ byte. byte < 256) bytes (p / 8) i _
      (λ _. with_bit-lt (get_or bytes (p / 8) 0) (7 - p % 8) b 8 hb (omega arith) (h (p / 8))) (h i)

pub put_bits-length : (bytes : List ℕ) (p : ℕ) (bits : List ℕ) → length (put_bits bytes p bits) ≡ length bytes
unfolding put_bits
put_bits-length bytes p [] = refl
put_bits-length bytes p (b ∷ bits) = put_bits-length (put_bit bytes p b) (suc p) bits ∙ simp length-set

pub put_bits-append : (bytes : List ℕ) (p : ℕ) (a b : List ℕ) → put_bits bytes p (a ++ b) ≡ put_bits (put_bits bytes p a) (p + length a) b
unfolding put_bits
put_bits-append bytes p [] b = rw add-zero
put_bits-append bytes p (x ∷ a) b = rw (add-suc, ← suc-add) (put_bits-append (put_bit bytes p x) (suc p) a b)

all_bits-cons : (b : ℕ) (bits : List ℕ) → AllBits (b ∷ bits) → (b < 2) × AllBits bits
all_bits-cons b bits hb = (hb 0 (zero-lt-suc (length bits)), λ i h. hb (suc i) (suc-le-suc h))

pub put_bits-keeps : (bytes : List ℕ) (p : ℕ) (bits : List ℕ) (q : ℕ) → AllBits bits → ((q < p) ⊎ (p + length bits ≤ q)) → bit_at (put_bits bytes p bits) q ≡ bit_at bytes q
unfolding put_bits
put_bits-keeps bytes p [] q hb h = refl
put_bits-keeps bytes p (b ∷ bits) q hb h =
    let (first, rest) = all_bits-cons b bits hb in
    put_bits-keeps (put_bit bytes p b) (suc p) bits q rest (⊎_elim (λ g. inl (omega arith)) (λ g. inr (omega arith)) h)
    ∙ put_bit-keeps bytes p b first q (⊎_elim (λ g. omega arith) (λ g. omega arith) h)

pub put_bits-at : (bytes : List ℕ) (p : ℕ) (bits : List ℕ) (i : ℕ) → AllBits bits → p + length bits ≤ 8 * length bytes → i < length bits → bit_at (put_bits bytes p bits) (p + i) ≡ get_or bits i 0
unfolding put_bits
put_bits-at bytes p [] i hb room h = omega arith
put_bits-at bytes p (b ∷ bits) zero hb room h =
    let (first, rest) = all_bits-cons b bits hb in
    rw add-zero (put_bits-keeps (put_bit bytes p b) (suc p) bits p rest (inl (omega arith)) ∙ put_bit-at bytes p b first (omega arith))
put_bits-at bytes p (b ∷ bits) (suc i) hb room h =
    rw (add-suc, ← suc-add)
    (put_bits-at (put_bit bytes p b) (suc p) bits i (all_bits-cons b bits hb).1 (rw length-set (omega arith)) (le_of_suc-le-suc h))

pub put_bits-byte : (bytes : List ℕ) (p : ℕ) (bits : List ℕ) → AllBits bits → ((i : ℕ) → get_or bytes i 0 < 256) → (i : ℕ) → get_or (put_bits bytes p bits) i 0 < 256
unfolding put_bits
put_bits-byte bytes p [] hb h i = h i
put_bits-byte bytes p (b ∷ bits) hb h i =
    let (first, rest) = all_bits-cons b bits hb in
    put_bits-byte (put_bit bytes p b) (suc p) bits rest (put_bit-byte bytes p b first h) i

pub put_bits-stands : (bytes : List ℕ) (p : ℕ) (bits : List ℕ) → AllBits bits → p + length bits ≤ (bits_of bytes).end → Stands (bits_of (put_bits bytes p bits)) p bits
put_bits-stands bytes p bits hb h =
    record { within = rw put_bits-length h; same = λ i g. put_bits-at bytes p bits i hb (omega arith) g }

put_bit-same : (bytes : List ℕ) (p b : ℕ) → bit_at bytes p ≡ b → put_bit bytes p b ≡ bytes
put_bit-same bytes p b e =
    let byte : ℕ = get_or bytes (p / 8) 0 in
    let kept : byte + b * 2 ^ (7 - p % 8) - bit_at bytes p * 2 ^ (7 - p % 8) ≡ byte = rw e (add-sub_cancel byte (b * 2 ^ (7 - p % 8))) in
    ap (set bytes (p / 8)) kept ∙ set-get_or bytes (p / 8) 0

pub put_bits-same : (bytes : List ℕ) (p : ℕ) (bits : List ℕ) → Stands (bits_of bytes) p bits → put_bits bytes p bits ≡ bytes
unfolding put_bits
put_bits-same bytes p [] st = refl
put_bits-same bytes p (b ∷ bits) st =
    let here : bit_at bytes p ≡ b = rw add-zero at (st.same 0 (zero-lt-suc (length bits))) in
    let behind : Stands (bits_of bytes) (suc p) bits = record { within = omega (arith, st.within); same = λ i h. rw (suc-add, ← add-suc) (st.same (suc i) (suc-le-suc h)) } in
    rw (put_bit-same bytes p b here) (put_bits-same bytes (suc p) bits behind)
