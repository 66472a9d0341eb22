-- What is true of the texts that are printed. Definitions: specs/Text.antt.
--     digits-enough       the digits of n do not depend on how many are allowed, from n on
--     decimal-one         a number below 10 is its one digit
--     decimal-step        any other is the digits of its tenth and then its last digit
--     decimal-each        so what is true of one digit, and of a tenth's digits and one more, is true of every decimal
--     decimal-value       the digits read back give the number
--     decimal-digits      every byte is a digit, from 48 for 0 to 57 for 9
--     decimal-first       the first is no 0, but for the number 0
--     decimal-length      a number below 10 to the power k + 1 has at most k + 1 digits
--     decimal-word        so a number of 64 bits has at most 20
--     refusal_line-fits   the line of a refusal fits the room for a text
--     row_line-length     the line of one rate has at most 63 bytes
--     row_lines-mono      the lines of more rows are no shorter
--     table_text-fits     a table of as many rows as may be fits the room for a text
-- Assumes nothing.
use Prim.Native.Nat.{ℕ, zero, suc, ◌+◌, ◌-◌, ◌*◌, ◌/◌, ◌^◌, ◌≤◌, ◌<◌, zero-le}
use native.Mathlib.Nat.{le_refl, lt_of_not-le, lt_of_lt_of_le, div-lt_iff_lt-mul, pow-suc, not-suc-le-zero}
use native.Mathlib.Decide.{dec_le, le_ind}
use native.Mathlib.Omega.{arith}
use mathlib.Core.Path.{◌≡◌, refl, sym, ap, ◌∙◌}
use mathlib.Core.List.{List, [], ◌∷◌, ◌++◌}
use lib.ListN.{length, get_or, length-append, get_or-append}
use lib.Dec.{lit<, lit≤}
use borrow.Author.Tests.{lt-ltb, le-ltb}
use Rattle.rules.specs.Limits.{rows_max, text_max}
use Rattle.rules.specs.Width.{Word}
use Rattle.layout.specs.Text.{letters, digit, digits, decimal, refusal_line, row_line, row_lines, table_text}
use Rattle.terms.proofs.NumbersLaws.{Each, append-each}

digits-one : (k n : ℕ) → n < 10 → digits k n ≡ digit n ∷ []
unfolding digits
digits-one zero n h = refl
digits-one (suc k) n h = rw (lt-ltb n 10 h)

digits-step : (k n : ℕ) → 10 ≤ n → digits (suc k) n ≡ digits k (n / 10) ++ (digit n ∷ [])
unfolding digits
digits-step k n h = rw (le-ltb n 10 h)

pub digits-enough : (k l n : ℕ) → n ≤ k → n ≤ l → digits k n ≡ digits l n
digits-enough zero l n h g = digits-one zero n (omega arith) ∙ sym (digits-one l n (omega arith))
digits-enough (suc k) zero n h g = digits-one (suc k) n (omega arith) ∙ sym (digits-one zero n (omega arith))
digits-enough (suc k) (suc l) n h g =
    elim (dec_le 10 n) [
      | yes big ↦ rw (digits-step k n big, digits-step l n big, digits-enough k l (n / 10) (omega arith) (omega arith))
      | no small ↦ digits-one (suc k) n (lt_of_not-le small) ∙ sym (digits-one (suc l) n (lt_of_not-le small))
    ]

pub decimal-one : (n : ℕ) → n < 10 → decimal n ≡ digit n ∷ []
decimal-one n h = digits-one n n h

pub decimal-step : (n : ℕ) → 10 ≤ n → decimal n ≡ decimal (n / 10) ++ (digit n ∷ [])
decimal-step zero h = absurd (not-suc-le-zero h)
decimal-step (suc n) h = digits-step n (suc n) h ∙ ap (λ ds. ds ++ (digit (suc n) ∷ [])) (digits-enough n (suc n / 10) (suc n / 10) (omega arith) (le_refl (suc n / 10)))

pub decimal-each : (P : ℕ → List ℕ → Type 0) → ((n : ℕ) → n < 10 → P n (digit n ∷ []))
    → ((n : ℕ) (ds : List ℕ) → 10 ≤ n → P (n / 10) ds → P n (ds ++ (digit n ∷ []))) → (n : ℕ) → P n (decimal n)
decimal-each P one step n = go n n (le_refl n)
  where
    go : (k n : ℕ) → n ≤ k → P n (decimal n)
    go zero n h = rw (decimal-one n (omega arith)) (one n (omega arith))
    go (suc k) n h =
        elim (dec_le 10 n) [
          | yes big ↦ rw (decimal-step n big) (step n (decimal (n / 10)) big (go k (n / 10) (omega arith)))
          | no small ↦ rw (decimal-one n (lt_of_not-le small)) (one n (lt_of_not-le small))
        ]

-- the number that digits say, the most significant first, behind what was read so far
abbrev pub value_from : (acc : ℕ) (ds : List ℕ) → ℕ
value_from acc [] = acc
value_from acc (d ∷ ds) = value_from (10 * acc + (d - 48)) ds

abbrev pub value : List ℕ → ℕ
value = value_from 0

value-append : (acc : ℕ) (ds : List ℕ) (d : ℕ) → value_from acc (ds ++ (d ∷ [])) ≡ 10 * value_from acc ds + (d - 48)
value-append acc [] d = refl
value-append acc (e ∷ ds) d = value-append (10 * acc + (e - 48)) ds d

pub decimal-value : (n : ℕ) → value (decimal n) ≡ n
decimal-value =
    decimal-each (λ n ds. value ds ≡ n) (λ n h. omega arith) (λ n ds h e. value-append 0 ds (digit n) ∙ (omega arith))

pub decimal-digits : (n : ℕ) → Each (λ i d. (48 ≤ d) × (d ≤ 57)) (decimal n)
decimal-digits =
    decimal-each (λ n ds. Each (λ i d. (48 ≤ d) × (d ≤ 57)) ds) (λ n h. one n)
    (λ n ds h e. append-each (λ i d. (48 ≤ d) × (d ≤ 57)) ds (digit n ∷ []) e (one n))
  where
    one : (n : ℕ) → Each (λ i d. (48 ≤ d) × (d ≤ 57)) (digit n ∷ [])
    one n zero h = (omega arith, omega arith)
    one n (suc i) h = absurd (omega arith)

pub decimal-first : (n : ℕ) → 0 < n → get_or (decimal n) 0 0 ≡ 48 → ⊥
decimal-first n =
    (decimal-each (λ n ds. (0 < length ds) × (0 < n → get_or ds 0 0 ≡ 48 → ⊥)) (λ n h. (lit< tt, λ g e. omega arith))
    (λ n ds h p. (simp length-append (omega (arith, p.0)), λ g e. p.1 (omega arith) (sym (get_or-append ds (digit n ∷ []) 0 0 p.0) ∙ e)))
    n).1

pub decimal-length : (k n : ℕ) → n < 10 ^ suc k → length (decimal n) ≤ suc k
decimal-length zero n h = rw (decimal-one n h) (lit≤ tt)
decimal-length (suc k) n h =
    elim (dec_le 10 n) [
      | yes big ↦ rw (decimal-step n big, length-append) (
          let tenth = decimal-length k (n / 10) ((div-lt_iff_lt-mul (lit< tt)).1 (rw pow-suc at h)) in omega arith)
      | no small ↦ rw (decimal-one n (lt_of_not-le small)) (omega arith)
    ]

pub decimal-word : (n : ℕ) → Word n → length (decimal n) ≤ 20
decimal-word n h = decimal-length 19 n (lt_of_lt_of_le h (lit≤ tt))

pub refusal_line-fits : (number place : ℕ) → Word number → Word place → length (refusal_line number place) ≤ text_max
unfolding letters
refusal_line-fits number place h g = simp length-append (omega (arith, decimal-word number h, decimal-word place g))

pub row_line-length : (rate b f : ℕ) → Word rate → Word b → Word f → length (row_line rate b f) ≤ 63
unfolding letters
row_line-length rate b f r h g = simp length-append (omega (arith, decimal-word rate r, decimal-word b h, decimal-word f g))

-- the numbers of the first n rows are of 64 bits
abbrev pub RowWords : (rates buffers fullnesses : List ℕ) (n : ℕ) → Type 0
RowWords rates buffers fullnesses n = (i : ℕ) → i < n → Word (get_or rates i 0) × Word (get_or buffers i 0) × Word (get_or fullnesses i 0)

row_lines-length : (rates buffers fullnesses : List ℕ) (n : ℕ)
    → RowWords rates buffers fullnesses n → length (row_lines rates buffers fullnesses n) ≤ 63 * n
unfolding row_lines
row_lines-length rates buffers fullnesses zero h = zero-le
row_lines-length rates buffers fullnesses (suc n) h =
    let (r, b, f) = h n (le_refl (suc n)) in
    let before = row_lines-length rates buffers fullnesses n (λ i g. h i (omega arith)) in
    let row = row_line-length (get_or rates n 0) (get_or buffers n 0) (get_or fullnesses n 0) r b f in
    rw length-append (omega arith)

pub row_lines-mono : (rates buffers fullnesses : List ℕ) (m n : ℕ) → m ≤ n → length (row_lines rates buffers fullnesses m) ≤ length (row_lines rates buffers fullnesses n)
unfolding row_lines
row_lines-mono rates buffers fullnesses m n =
    le_ind (λ n. length (row_lines rates buffers fullnesses m) ≤ length (row_lines rates buffers fullnesses n)) (le_refl _)
    (λ n _ before. rw (length-append (row_lines rates buffers fullnesses n)) (omega arith)) n

pub table_text-fits : (rates buffers fullnesses : List ℕ) → length rates ≤ rows_max
    → RowWords rates buffers fullnesses (length rates) → length (table_text rates buffers fullnesses) ≤ text_max
unfolding letters
table_text-fits rates buffers fullnesses h small =
    rw length-append (omega (arith, row_lines-length rates buffers fullnesses (length rates) small))
