-- What is true of the two codes. Definitions: specs/Codes.antt.
--     stands-append                                             two lists of bits stand one after the other exactly when each stands at its place
--     unsigned-lt                                               w bits say a number below 2^w
--     unsigned_bits-length, unsigned_bits-back, unsigned-back   w bits written and read, each way
--     unsigned_bits-more                                        the first i + 1 of w bits are the first i and one bit more
--     zeros_of-range, zeros_of-one                              2^z <= v + 1 < 2^(z + 1) for the z zeros of v's code, and z < 32; for no other z
--     ue-parts                                                  a code is a 0 in z bits, and then v + 1 in z + 1 bits
--     ue-length                                                 it has z + 1 + z bits
--     Zeros, zeros-one                                          z zeros and no more stand at the start of n bits: that is the count of them
--     got_within-in, got_within-past                            a value is got up to the end of the bits, and not past it
--     code-back                                                 a value written is read again, and the next position is behind it
--     code-sound                                                a value read stands there as written, fits its code, and the next position is behind it
--     Longer, code-cut                                          in bits that end earlier a code reads the same, or the bits end inside it
--     ue-prefix                                                 no ue(v) code begins another: codes followed by anything are equal only for equal values
--     ue-one                                                    every value 0 to 2^32 - 2 has a code, and just one list of bits reads as it
--     code_bits-all                                             the bits of a code are 0 or 1
-- Assumes nothing.
use Prim.Native.Nat.{ℕ, zero, suc, ◌+◌, ◌-◌, ◌*◌, ◌/◌, ◌%◌, ◌^◌, min, ◌≤◌, ◌<◌}
use native.Mathlib.Nat.{le_antisymm, lt_of_not-le, le_of_suc-le-suc, zero-lt-suc, zero-add, add-zero, add_assoc, eq-or-lt_of_le}
use native.Mathlib.Decide.{dec_le, ℕ_discrete}
use native.Mathlib.Numerals.{add-one}
use native.Mathlib.Omega.{arith}
use mathlib.Core.Path.{◌≡◌, refl, sym, ap, ap₂, ◌∙◌}
use mathlib.Core.Logic.{◌↔◌, ◌⊎◌, inl, inr, ⊎_elim, ◌≢◌}
use mathlib.Core.List.{List, [], ◌∷◌, ◌++◌}
use lib.ListN.{length, get_or, replicate, length-append, length-replicate, get_or-replicate, replicate-append-replicate, get_or-append}
use lib.Seq.{get_or-append-add, ext_get_or}
use lib.Pow.{pow_pos, pow_mono, shr-shr}
use borrow.Author.Tests.{le-leb, lt-leb, eq-eqb, ne_eqb}
use Rattle.rules.specs.Limits.{value_max, zeros_max}
use Rattle.terms.proofs.NumbersLaws.{Each, append-each}
use Rattle.coding.specs.Codes.{Bits, Code, u, ue, Read, got, ended, broken, unsigned, one_more, zeros_from, got_within, read_ue, read_code, unsigned_bits, zeros_of, code_bits, CodeFits, Stands}

-- every bit of x is 0 or 1
abbrev pub Binary : Bits → Type 0
Binary x = (i : ℕ) → x.bit i < 2

-- each entry of s ++ (a ∷ t) is one of s, or a, or one of t
append-cons-each : (P : ℕ → ℕ → Type 0) (s : List ℕ) (a : ℕ) (t : List ℕ) → Each P s → P (length s) a → Each (λ i. P (length s + suc i)) t → Each P (s ++ (a ∷ t))
append-cons-each P s a t hs ha ht = append-each P s (a ∷ t) hs behind
  where
    behind : Each (λ i. P (length s + i)) (a ∷ t)
    behind zero h = rw add-zero ha
    behind (suc i) h = ht i (le_of_suc-le-suc h)

-- the same of the bits of a code ue(v): z zeros, a one, and others
ue-each : (P : ℕ → ℕ → Type 0) (z : ℕ) (s : List ℕ) → ((i : ℕ) → i < z → P i 0) → P z 1 → Each (λ i. P (z + suc i)) s → Each P (replicate z 0 ++ (1 ∷ s))
ue-each P z s run one rest =
    append-cons-each P (replicate z 0) 1 s (λ i h. let g : i < z = rw length-replicate at h in rw get_or-replicate (run i g)) (rw length-replicate one) (rw length-replicate rest)

-- two lists stand one after the other exactly when each stands at its place
pub stands-append : (x : Bits) (p : ℕ) (a b : List ℕ) → Stands x p (a ++ b) ↔ (Stands x p a × Stands x (p + length a) b)
stands-append x p a b = (
  λ st. (
    record {
      within = omega (arith, length-append a b, st.within);
      same = λ i h. st.same i (omega (arith, length-append a b)) ∙ get_or-append a b 0 i h;
    },
    record {
      within = omega (arith, length-append a b, st.within);
      same = λ i h. rw add_assoc (st.same (length a + i) (omega (arith, length-append a b)) ∙ get_or-append-add a b i 0);
    },
  ),
  λ both.
      record {
        within = omega (arith, length-append a b, both.1.within);
        same = append-each (λ i b. x.bit (p + i) ≡ b) a b both.0.same (λ i h. rw (← add_assoc) (both.1.same i h));
      },
)

pub unsigned-lt : (x : Bits) (p w : ℕ) → Binary x → unsigned x p w < 2 ^ w
unfolding unsigned
unsigned-lt x p zero hb = omega arith
unsigned-lt x p (suc w) hb = omega (arith, unsigned-lt x p w hb, hb (p + w))

pub unsigned_bits-length : (w v : ℕ) → length (unsigned_bits w v) ≡ w
unfolding unsigned_bits
unsigned_bits-length zero v = refl
unsigned_bits-length (suc w) v = simp (length-append, unsigned_bits-length w (v / 2), add-one)

pub unsigned_bits-back : (x : Bits) (p w v : ℕ) → v < 2 ^ w → Stands x p (unsigned_bits w v) → unsigned x p w ≡ v
unfolding unsigned unsigned_bits
unsigned_bits-back x p zero v h st = omega arith
unsigned_bits-back x p (suc w) v h st =
    let (front, last) = (stands-append x p (unsigned_bits w (v / 2)) (v % 2 ∷ [])).0 st in
    let e : x.bit (p + w) ≡ v % 2 = rw (unsigned_bits-length w (v / 2), add-zero) at (last.same 0 (zero-lt-suc 0)) in
    omega (arith, unsigned_bits-back x p w (v / 2) (omega arith) front)

pub unsigned-back : (x : Bits) (p w i : ℕ) → Binary x → i < w → get_or (unsigned_bits w (unsigned x p w)) i 0 ≡ x.bit (p + i)
unfolding unsigned unsigned_bits
unsigned-back x p zero i hb h = omega arith
unsigned-back x p (suc w) i hb h =
    let v = unsigned x p w in
    let bit = x.bit (p + w) in
    let half : (2 * v + bit) / 2 ≡ v = omega (arith, hb (p + w)) in
    let odd : (2 * v + bit) % 2 ≡ bit = omega arith in
    let len = unsigned_bits-length w v in
    rw (half, odd)
    (append-cons-each (λ j a. a ≡ x.bit (p + j)) (unsigned_bits w v) bit [] (λ j g. unsigned-back x p w j hb (rw len at g)) (rw len) (omega arith) i
    (simp (length-append, len, add-one) h))

-- one bit more of the w bits of v
pub unsigned_bits-more : (w v i : ℕ) → i < w → unsigned_bits (i + 1) (v / 2 ^ (w - (i + 1))) ≡ unsigned_bits i (v / 2 ^ (w - i)) ++ (v / 2 ^ (w - 1 - i) % 2 ∷ [])
unfolding unsigned_bits
unsigned_bits-more w v i h =
    let d = w - 1 - i in
    let this : w - (i + 1) ≡ d = omega arith in
    let before : w - i ≡ d + 1 = omega arith in
    rw (this, before, ← shr-shr v d 1, add-one)

-- 0 in w bits, and a number with its highest bit in the place above them
unsigned_bits-zero : (w : ℕ) → unsigned_bits w 0 ≡ replicate w 0
unfolding unsigned_bits
unsigned_bits-zero zero = refl
unsigned_bits-zero (suc w) = rw (unsigned_bits-zero w, replicate-append-replicate w 1, add-one)

unsigned_bits-one : (w m : ℕ) → m < 2 ^ w → unsigned_bits (suc w) (2 ^ w + m) ≡ 1 ∷ unsigned_bits w m
unfolding unsigned_bits
unsigned_bits-one zero m h = let e : m ≡ 0 = omega arith in rw e
unsigned_bits-one (suc w) m h =
    let half : (2 ^ suc w + m) / 2 ≡ 2 ^ w + m / 2 = omega arith in
    let odd : (2 ^ suc w + m) % 2 ≡ m % 2 = omega arith in
    rw (half, odd, unsigned_bits-one w (m / 2) (omega arith))

-- powers of two on the two sides of a number
exponent-lt : {a b n : ℕ} → 2 ^ a ≤ n → n < 2 ^ b → a < b
exponent-lt {a} {b} h g = lt_of_not-le (λ l. omega (arith, pow_mono l))

zeros_of-within : (v n : ℕ) → v + 1 < 2 ^ suc n → (2 ^ zeros_of v n ≤ v + 1) × (v + 1 < 2 ^ suc (zeros_of v n))
unfolding zeros_of
zeros_of-within v zero h = omega arith
zeros_of-within v (suc n) h =
    elim (dec_le (2 ^ suc n) (v + 1)) [
      | yes g ↦ rw (le-leb (2 ^ suc n) (v + 1) g) (g, h)
      | no g ↦ let l = lt_of_not-le g in rw (lt-leb (2 ^ suc n) (v + 1) l) (zeros_of-within v n l)
    ]

pub zeros_of-range : (v : ℕ) → v ≤ value_max → (2 ^ zeros_of v zeros_max ≤ v + 1) × (v + 1 < 2 ^ suc (zeros_of v zeros_max)) × (zeros_of v zeros_max < zeros_max)
zeros_of-range v h =
    let (least, most) = zeros_of-within v zeros_max (omega arith) in
    (least, most, exponent-lt {b = zeros_max} least (omega arith))

-- no other z is in that range
pub zeros_of-one : (v z : ℕ) → v ≤ value_max → 2 ^ z ≤ v + 1 → v + 1 < 2 ^ suc z → zeros_of v zeros_max ≡ z
zeros_of-one v z h low high =
    let (least, most, _) = zeros_of-range v h in
    omega (arith, exponent-lt least high, exponent-lt low most)

pub ue-parts : (v : ℕ) → v ≤ value_max → code_bits ue v ≡ unsigned_bits (zeros_of v zeros_max) 0 ++ unsigned_bits (zeros_of v zeros_max + 1) (v + 1)
ue-parts v h =
    let z = zeros_of v zeros_max in
    let (least, most, _) = zeros_of-range v h in
    ap₂ ◌++◌ (sym (unsigned_bits-zero z)) (sym (unsigned_bits-one z (v + 1 - 2 ^ z) (omega arith)) ∙ ap₂ unsigned_bits (sym (add-one z)) (omega arith))

-- z zeros, and no more, stand at the start of n bits from p on
pub record Zeros (x : Bits) (p n z : ℕ) : Type 0 where
  pub run : (i : ℕ) → i < z → x.bit (p + i) ≡ 0
  pub stop : z < n → x.bit (p + z) ≢ 0
  pub up_to : z ≤ n

one_more-zeros : (x : Bits) (p n z : ℕ) → Zeros x p n z → Dec (z ≡ n) → Dec (x.bit (p + n) ≡ 0) → Zeros x p (suc n) (one_more z n (x.bit (p + n)))
one_more-zeros x p n z zs (no e) d = rw (ne_eqb z n e) (record { run = zs.run; stop = λ _. zs.stop (omega arith); up_to = omega arith })
one_more-zeros x p n z zs (yes e) (no f) =
    rw (eq-eqb z n e, ne_eqb (x.bit (p + n)) 0 f) (record { run = zs.run; stop = λ _. rw e f; up_to = omega arith })
one_more-zeros x p n z zs (yes e) (yes f) =
    rw (eq-eqb z n e, eq-eqb (x.bit (p + n)) 0 f)
    (record { run = λ i h. ⊎_elim (λ g. rw g f) (λ g. zs.run i (omega arith)) (eq-or-lt_of_le (le_of_suc-le-suc h)); stop = omega arith; up_to = omega arith })

zeros_from-zeros : (x : Bits) (p n : ℕ) → Zeros x p n (zeros_from x p n)
unfolding zeros_from
zeros_from-zeros x p zero = omega arith
zeros_from-zeros x p (suc n) = one_more-zeros x p n (zeros_from x p n) (zeros_from-zeros x p n) (ℕ_discrete _ _) (ℕ_discrete _ 0)

-- and only one z is that many
zeros-le : {x : Bits} {p n y z : ℕ} → Zeros x p n y → Zeros x p n z → y ≤ z
zeros-le {y = y} {z = z} a b = elim (dec_le y z) [ yes h ↦ h | no h ↦ absurd (b.stop (omega arith) (a.run z (lt_of_not-le h))) ]

pub zeros-one : {x : Bits} {p n z : ℕ} → Zeros x p n z → zeros_from x p n ≡ z
zeros-one {x} {p} {n} zs = le_antisymm (zeros-le (zeros_from-zeros x p n) zs) (zeros-le zs (zeros_from-zeros x p n))

ue_bits-length : (z m : ℕ) → length (replicate z 0 ++ (1 ∷ unsigned_bits z m)) ≡ z + 1 + z
ue_bits-length z m = simp (length-append, length-replicate, unsigned_bits-length) (omega arith)

pub ue-length : (v : ℕ) → length (code_bits ue v) ≡ zeros_of v zeros_max + 1 + zeros_of v zeros_max
ue-length v = ue_bits-length (zeros_of v zeros_max) (v + 1 - 2 ^ zeros_of v zeros_max)

pub code-back : (x : Bits) (c : Code) (p v : ℕ) → CodeFits c v → Stands x p (code_bits c v) → read_code x c p ≡ got v (p + length (code_bits c v))
code-back x (u w) p v h st =
    let len = unsigned_bits-length w v in
    rw (len, unsigned_bits-back x p w v h st, le-leb (p + w) x.end (rw len at st.within))
code-back x ue p v h st =
    let z = zeros_of v zeros_max in
    let n = min zeros_max (x.end - p) in
    let m = v + 1 - 2 ^ z in
    let (least, most, few) = zeros_of-range v h in
    let len = ue-length v in
    let (zeros, behind) = (stands-append x p (replicate z 0) (1 ∷ unsigned_bits z m)).0 st in
    let after : Stands x (p + z) (1 ∷ unsigned_bits z m) = rw length-replicate at behind in
    let rest = ((stands-append x (p + z) (1 ∷ []) (unsigned_bits z m)).0 after).1 in
    let run : (i : ℕ) → i < z → x.bit (p + i) ≡ 0 = λ i g. zeros.same i (rw length-replicate g) ∙ get_or-replicate z i 0 0 g in
    let one : x.bit (p + z) ≡ 1 = rw add-zero at (after.same 0 (zero-lt-suc _)) in
    let zs : Zeros x p n z = record { run = run; stop = omega arith; up_to = omega arith } in
    rw (zeros-one zs, ne_eqb z zeros_max (omega arith), le-leb (p + z + 1 + z) x.end (omega arith), unsigned_bits-back x (p + z + 1) z m (omega arith) rest)
    (ap₂ got (omega arith) (omega arith))

pub got_within-in : (x : Bits) (p value next : ℕ) → next ≤ x.end → got_within x p value next ≡ got value next
got_within-in x p value next h = rw (le-leb next x.end h)

pub got_within-past : (x : Bits) (p value next : ℕ) → x.end < next → got_within x p value next ≡ ended p
got_within-past x p value next h = rw (lt-leb next x.end h)

got_within-sound : (x : Bits) (p value next v n : ℕ) → got_within x p value next ≡ got v n → (next ≤ x.end) × (v ≡ value) × (n ≡ next)
got_within-sound x p value next v n e =
    elim (dec_le next x.end) [
      | yes h ↦ let q = got_within-in x p value next h in (h, cc, cc)
      | no h ↦ let q = got_within-past x p value next (lt_of_not-le h) in let c : ◌≡◌ {A = ℕ} 0 1 = cc in absurd (omega arith)
    ]

unsigned-each : (x : Bits) (p w : ℕ) → Binary x → Each (λ i a. x.bit (p + i) ≡ a) (unsigned_bits w (unsigned x p w))
unsigned-each x p w hb i h = sym (unsigned-back x p w i hb (rw unsigned_bits-length at h))

read_ue-sound : (x : Bits) (p z v next : ℕ) → Binary x → Zeros x p (min zeros_max (x.end - p)) z → read_ue x p z ≡ got v next → CodeFits ue v × Stands x p (code_bits ue v) × (next ≡ p + length (code_bits ue v))
read_ue-sound x p z v next hb zs e =
    let m = unsigned x (p + z + 1) z in
    let few : z ≢ zeros_max = λ g. let q = rw (eq-eqb z zeros_max g) at e in let c : ◌≡◌ {A = ℕ} 0 1 = cc in omega arith in
    let (fits, ev, en) = got_within-sound x p (2 ^ z - 1 + m) (p + z + 1 + z) v next (rw (ne_eqb z zeros_max few) at e) in
    let stop = zs.stop (omega arith) in
    let below = unsigned-lt x (p + z + 1) z hb in
    let is : v + 1 ≡ 2 ^ z + m = omega (arith, pow_pos z) in
    let small : v ≤ value_max = omega (arith, pow_mono {i = suc z} {j = zeros_max} (omega arith)) in
    let zeros = zeros_of-one v z small (omega arith) (omega arith) in
    let left : v + 1 - 2 ^ z ≡ m = omega arith in
    let one : x.bit (p + z) ≡ 1 = omega (arith, hb (p + z)) in
    let len = ue_bits-length z m in
    let same = ue-each (λ i a. x.bit (p + i) ≡ a) z (unsigned_bits z m) zs.run one (λ i h. ap x.bit (omega arith) ∙ unsigned-each x (p + z + 1) z hb i h) in
    rw (zeros, left) (small, record { within = omega arith; same = same }, omega arith)

pub code-sound : (x : Bits) (c : Code) (p v next : ℕ) → Binary x → read_code x c p ≡ got v next → CodeFits c v × Stands x p (code_bits c v) × (next ≡ p + length (code_bits c v))
code-sound x (u w) p v next hb e =
    let (fits, ev, en) = got_within-sound x p (unsigned x p w) (p + w) v next e in
    rw (ev, en) (unsigned-lt x p w hb, record { within = rw unsigned_bits-length fits; same = unsigned-each x p w hb }, rw unsigned_bits-length)
code-sound x ue p v next hb e = read_ue-sound x p _ v next hb (zeros_from-zeros x p (min zeros_max (x.end - p))) e

-- the bits of x begin with those of y
pub record Longer (x y : Bits) : Type 0 where
  pub end : y.end ≤ x.end
  pub same : (q : ℕ) → q < y.end → x.bit q ≡ y.bit q

longer-stands : {x y : Bits} {p : ℕ} (bits : List ℕ) → Longer x y → Stands y p bits → Stands x p bits
longer-stands {p = p} bits l st =
    record { within = omega (arith, l.end, st.within); same = λ i h. l.same (p + i) (omega (arith, st.within)) ∙ st.same i h }

got_within-not-broken : (x : Bits) (p value next q : ℕ) → got_within x p value next ≡ broken q → ⊥
got_within-not-broken x p value next q e =
    elim (dec_le next x.end) [
      | yes h ↦ let g = got_within-in x p value next h in let c : ◌≡◌ {A = ℕ} 0 1 = cc in omega arith
      | no h ↦ let g = got_within-past x p value next (lt_of_not-le h) in let c : ◌≡◌ {A = ℕ} 0 1 = cc in omega arith
    ]

-- a code is broken only by 32 zeros
read_ue-broken : (x : Bits) (p z q : ℕ) → read_ue x p z ≡ broken q → z ≡ zeros_max
read_ue-broken x p z q e =
    elim (ℕ_discrete z zeros_max) [
      | yes h ↦ h
      | no h ↦ absurd (got_within-not-broken x p (2 ^ z - 1 + unsigned x (p + z + 1) z) (p + z + 1 + z) q (rw (ne_eqb z zeros_max h) at e))
    ]

zeros-broken : (x : Bits) (p : ℕ) → Zeros x p (min zeros_max (x.end - p)) zeros_max → read_code x ue p ≡ broken p
zeros-broken x p zs = rw (zeros-one zs)

-- and it is broken in all bits that begin with these
broken-longer : (x y : Bits) (p : ℕ) → Longer x y → Zeros y p (min zeros_max (y.end - p)) zeros_max → read_code y ue p ≡ read_code x ue p
broken-longer x y p l zs =
    let room : p + zeros_max ≤ y.end = omega (arith, zs.up_to) in
    let zx : Zeros x p (min zeros_max (x.end - p)) zeros_max = record { run = λ i h. l.same (p + i) (omega arith) ∙ zs.run i h; stop = omega arith; up_to = omega (arith, l.end) } in
    zeros-broken y p zs ∙ sym (zeros-broken x p zx)

pub code-cut : (x y : Bits) (c : Code) (p : ℕ) → Binary y → Longer x y → ((q : ℕ) × (read_code y c p ≡ ended q)) ⊎ (read_code y c p ≡ read_code x c p)
code-cut x y c p hb l = go (read_code y c p) refl
  where
    broken-same : (c : Code) (q : ℕ) → read_code y c p ≡ broken q → read_code y c p ≡ read_code x c p
    broken-same (u w) q e = absurd (got_within-not-broken y p (unsigned y p w) (p + w) q e)
    broken-same ue q e =
        let n = min zeros_max (y.end - p) in
        let is : zeros_from y p n ≡ zeros_max = read_ue-broken y p (zeros_from y p n) q e in
        broken-longer x y p l (rw is at (zeros_from-zeros y p n))

    go : (r : Read) → read_code y c p ≡ r → ((q : ℕ) × (read_code y c p ≡ ended q)) ⊎ (read_code y c p ≡ read_code x c p)
    go (got v next) e =
        let (fits, st, behind) = code-sound y c p v next hb e in
        inr (e ∙ ap (got v) behind ∙ sym (code-back x c p v fits (longer-stands (code_bits c v) l st)))
    go (ended q) e = inl (q, e)
    go (broken q) e = inr (broken-same c q e)

-- a list of bits as a run of bits
abbrev pub list_bits : List ℕ → Bits
list_bits bits = record { bit = λ i. get_or bits i 0; end = length bits }

list_bits-stands : (bits : List ℕ) → Stands (list_bits bits) 0 bits
list_bits-stands bits = record { within = omega arith; same = λ i h. rw zero-add }

pub ue-prefix : (v w : ℕ) (a b : List ℕ) → v ≤ value_max → w ≤ value_max → code_bits ue v ++ a ≡ code_bits ue w ++ b → v ≡ w
ue-prefix v w a b hv hw e =
    let x = list_bits (code_bits ue v ++ a) in
    let st = list_bits-stands (code_bits ue v ++ a) in
    let ev = code-back x ue 0 v hv ((stands-append x 0 (code_bits ue v) a).0 st).0 in
    let ew = code-back x ue 0 w hw ((stands-append x 0 (code_bits ue w) b).0 (rw (← e) st)).0 in
    cc

pub ue-one : (v : ℕ) → v ≤ value_max
    → (read_code (list_bits (code_bits ue v)) ue 0 ≡ got v (length (code_bits ue v)))
    × ((bits : List ℕ) → Binary (list_bits bits) → read_code (list_bits bits) ue 0 ≡ got v (length bits) → bits ≡ code_bits ue v)
ue-one v h = (
  code-back (list_bits (code_bits ue v)) ue 0 v h (list_bits-stands (code_bits ue v)) ∙ ap (got v) (zero-add (length (code_bits ue v))),
  λ bits hb e.
      let (_, st, en) = code-sound (list_bits bits) ue 0 v (length bits) hb e in
      ext_get_or 0 bits (code_bits ue v) (omega arith) (λ i g. sym ((list_bits-stands bits).same i g) ∙ st.same i (omega arith)),
)

-- bits are 0 or 1
abbrev pub AllBits : List ℕ → Type 0
AllBits bits = (i : ℕ) → i < length bits → get_or bits i 0 < 2

unsigned_bits-all : (w v : ℕ) → AllBits (unsigned_bits w v)
unfolding unsigned_bits
unsigned_bits-all zero v = omega arith
unsigned_bits-all (suc w) v =
    append-cons-each (λ _ a. a < 2) (unsigned_bits w (v / 2)) (v % 2) [] (unsigned_bits-all w (v / 2)) (omega arith) (omega arith)

pub code_bits-all : (c : Code) (v : ℕ) → AllBits (code_bits c v)
code_bits-all (u w) v = unsigned_bits-all w v
code_bits-all ue v =
    let z = zeros_of v zeros_max in
    ue-each (λ _ a. a < 2) z (unsigned_bits z (v + 1 - 2 ^ z)) (omega arith) (omega arith) (unsigned_bits-all z (v + 1 - 2 ^ z))
