-- What is true of rounding up, of the largest of several numbers, of ranges, and of lists written in part. Definitions: specs/Numbers.antt.
--     round_up-le        rounded up is at most y exactly when d x y is at least x: it is the least such y
--     round_up-above     d times it is at least x
--     round_up-lt        and less than x + d
--     round_up-mono      it does not fall as x grows
--     largest-above      the largest is at least each
--     largest-le         and at most any bound of all
--     largest-attained   and is one of them
--     largest-scaled     and so is a multiple of it, of the multiples
--     neighbours-all     a transitive relation between neighbours holds over all pairs
--     rising-lt          of entries that rise a later one is higher
--     rising-le          and no later one is lower
--     list_of-length     a list of n numbers has n entries
--     list_of-at         and f i at entry i
--     list_of-ext        lists of the same numbers are the same
--     list_of-append     a list of a + b numbers is one of a and then one of b
--     list_of-get_or     a list is the list of its entries
--     map-at             a function over a list, at an entry
--     map-list_of        so it is the list of its values
--     append-each        what is true of each entry of two lists is true of each entry of one behind the other
--     written-length     a list written in part keeps its length
--     written-at         the part stands from the given entry on
--     written-all        a list written in all of its entries is what was written
--     written-append     a part written behind a part is both parts written
--     written-more       so is one entry stored behind a part
--     written-list_of    so n stores, of f 0 to f (n - 1), write the list of these
--     written-front      a part written at a list's front is what the list begins with
--     written-fits       and so has room there
--     written-part       a list of which the part from an entry on was written at its front is written from that entry on
--     lent, back         the part of a list that is lent from an entry on, and the list with it back
--     lent-room          it has room for as many entries as the list has from there
--     written-back       a list into which a part written at its front has come back is written from that entry on
--     or-false           neither of two tests is true
--     outside-false      a number is not outside its range exactly when it keeps both ends
-- Assumes nothing.
use Prim.Native.Nat.{ℕ, zero, suc, ◌+◌, ◌-◌, ◌*◌, ◌≤◌, ◌<◌, zero-le}
use native.Mathlib.Nat.{le_step, add-zero, add-suc, add_assoc, zero-add, suc-add, le_trans, le_refl, le_of_lt, le_of_eq, lt_trans, lt_of_not-le, lt-suc_self, zero-lt-suc, not-suc-le-zero, suc-le-suc_iff, eq-or-lt_of_le, div-lt_iff_lt-mul, div-mul-le_self, mul-zero, zero-max, le-max_left, le-max_right, max-le, max-eq_left, max-eq_right}
use native.Mathlib.Decide.{dec_le, le_ind}
use native.Mathlib.Numerals.{add-one}
use native.Mathlib.Omega.{arith}
use mathlib.Core.Path.{◌≡◌, refl, sym, ap, ap₂, ◌∙◌}
use mathlib.Core.Bool.{Bool, true, false, ◌||◌, true≢false}
use mathlib.Core.Logic.{◌↔◌, ⊎_elim}
use mathlib.Core.List.{List, [], ◌∷◌, ◌++◌, map, append-nil, append_assoc}
use lib.ListN.{length, get_or, take, drop, set, length-append, length-take, length-drop, length-map, drop_of_length-le, get_or-append}
use lib.Seq.{get_or_at, get_or-append-add, ext_get_or, length-take-le, take_all, take_at, drop_at, drop-drop, set_split}
use lib.Dec.{ltb, lit<}
use borrow.Author.Tests.{ltb-false, le-ltb}
use Rattle.terms.specs.Numbers.{round_up, largest, outside, Rising, list_of, written}

pub round_up-le : (d x y : ℕ) → 0 < d → (round_up x d ≤ y) ↔ (x ≤ d * y)
round_up-le d x y hd = (
  λ h. let g = (div-lt_iff_lt-mul hd).0 (suc-le-suc_iff.1 h) in omega arith,
  λ h. suc-le-suc_iff.0 ((div-lt_iff_lt-mul hd).1 (omega arith)),
)

pub round_up-above : (d x : ℕ) → 0 < d → x ≤ d * round_up x d
round_up-above d x hd = (round_up-le d x (round_up x d) hd).0 (le_refl (round_up x d))

pub round_up-lt : (d x : ℕ) → 0 < d → d * round_up x d < x + d
round_up-lt d x hd = omega (arith, div-mul-le_self (x + (d - 1)) d)

pub round_up-mono : (d : ℕ) {x y : ℕ} → 0 < d → x ≤ y → round_up x d ≤ round_up y d
round_up-mono d {x} {y} hd h = (round_up-le d x (round_up y d) hd).1 (le_trans h (round_up-above d y hd))

pub largest-above : (f : ℕ → ℕ) (n : ℕ) {i : ℕ} → i < n → f i ≤ largest f n
unfolding largest
largest-above f zero h = absurd (not-suc-le-zero h)
largest-above f (suc n) {i} h =
    ⊎_elim (λ e. rw e (le-max_right (largest f n) (f n))) (λ g. le_trans (largest-above f n g) (le-max_left (largest f n) (f n)))
    (eq-or-lt_of_le (suc-le-suc_iff.0 h))

pub largest-le : (f : ℕ → ℕ) (n : ℕ) {y : ℕ} → ((i : ℕ) → i < n → f i ≤ y) → largest f n ≤ y
unfolding largest
largest-le f zero h = omega arith
largest-le f (suc n) h = max-le (largest-le f n (λ i g. h i (omega arith))) (h n (le_refl (suc n)))

pub largest-attained : (f : ℕ → ℕ) (n : ℕ) → 0 < n → (i : ℕ) × (i < n) × (f i ≡ largest f n)
unfolding largest
largest-attained f zero h = absurd (not-suc-le-zero h)
largest-attained f (suc zero) h = (0, lit< tt, sym (zero-max (f 0)))
largest-attained f (suc (suc n)) h =
    let (i, below, e) = largest-attained f (suc n) (zero-lt-suc n) in
    elim (dec_le (largest f (suc n)) (f (suc n))) [
      | yes g ↦ (suc n, lt-suc_self (suc n), sym (max-eq_right g))
      | no g ↦ (i, omega arith, e ∙ sym (max-eq_left (le_of_lt (lt_of_not-le g))))
    ]

pub largest-scaled : (c : ℕ) (f : ℕ → ℕ) (n : ℕ) {y : ℕ} → ((i : ℕ) → i < n → c * f i ≤ y) → c * largest f n ≤ y
unfolding largest
largest-scaled c f zero h = rw mul-zero zero-le
largest-scaled c f (suc n) h = let (i, g, e) = largest-attained f (suc n) (zero-lt-suc n) in rw (← e) (h i g)

-- a transitive relation between neighbours holds over all pairs
pub neighbours-all : (R : ℕ → ℕ → Type 0) → ((a b c : ℕ) → R a b → R b c → R a c) → (f : ℕ → ℕ) (n : ℕ)
    → ((i : ℕ) → suc i < n → R (f i) (f (suc i))) → (i j : ℕ) → i < j → j < n → R (f i) (f j)
neighbours-all R trans f n next i j =
    le_ind (λ j. j < n → R (f i) (f j)) (next i) (λ j h before g. trans _ _ _ (before (omega arith)) (next j g)) j

pub rising-lt : (l : List ℕ) {n : ℕ} → Rising l n → (i j : ℕ) → i < j → j < n → get_or l i 0 < get_or l j 0
rising-lt l {n} = neighbours-all (λ a b. a < b) (λ a b c. lt_trans) (λ i. get_or l i 0) n

pub rising-le : (l : List ℕ) {n : ℕ} → Rising l n → (i j : ℕ) → i ≤ j → j < n → get_or l i 0 ≤ get_or l j 0
rising-le l up i j h g =
    ⊎_elim (λ e. le_of_eq (ap (λ m. get_or l m 0) e)) (λ lt. le_of_lt (rising-lt l up i j lt g)) (eq-or-lt_of_le h)

pub list_of-length : {A : Type 0} (f : ℕ → A) (n : ℕ) → length (list_of f n) ≡ n
unfolding list_of
list_of-length f zero = refl
list_of-length f (suc n) = simp (length-append, list_of-length f n, add-one)

pub list_of-at : {A : Type 0} (f : ℕ → A) (n : ℕ) (d : A) {i : ℕ} → i < n → get_or (list_of f n) i d ≡ f i
unfolding list_of
list_of-at f zero d h = absurd (not-suc-le-zero h)
list_of-at f (suc n) d {i} h =
    let len : length (list_of f n) ≡ n = list_of-length f n in
    ⊎_elim (λ e. rw e (get_or_at (list_of f n) (f n) [] d n len))
    (λ g. get_or-append (list_of f n) (f n ∷ []) d i (omega arith) ∙ list_of-at f n d g)
    (eq-or-lt_of_le (suc-le-suc_iff.0 h))

pub list_of-ext : {A : Type 0} (f g : ℕ → A) (n : ℕ) → ((i : ℕ) → i < n → f i ≡ g i) → list_of f n ≡ list_of g n
unfolding list_of
list_of-ext f g zero same = refl
list_of-ext f g (suc n) same =
    ap₂ (λ l a. l ++ (a ∷ [])) (list_of-ext f g n (λ i h. same i (le_step h))) (same n (lt-suc_self n))

pub list_of-append : (f : ℕ → ℕ) (a b : ℕ) → list_of f (a + b) ≡ list_of f a ++ list_of (λ i. f (a + i)) b
unfolding list_of
list_of-append f a zero = simp (add-zero, append-nil)
list_of-append f a (suc b) = simp (add-suc, list_of-append f a b, append_assoc)

pub list_of-get_or : (l : List ℕ) → list_of (λ i. get_or l i 0) (length l) ≡ l
list_of-get_or l =
    ext_get_or 0 _ l (list_of-length _ (length l)) (λ i h. list_of-at (λ i. get_or l i 0) (length l) 0 (rw list_of-length at h))

-- P i a is true of each entry a of a list, at its place i
abbrev pub Each : (P : ℕ → ℕ → Type 0) (l : List ℕ) → Type 0
Each P l = (i : ℕ) → i < length l → P i (get_or l i 0)

-- what holds of each entry of two lists, by its place, holds of each entry of their append
pub append-each : (P : ℕ → ℕ → Type 0) (a b : List ℕ) → Each P a → Each (λ i. P (length a + i)) b → Each P (a ++ b)
append-each P [] b front back i h = rw zero-add at (back i h)
append-each P (v ∷ a) b front back zero h = front zero (omega arith)
append-each P (v ∷ a) b front back (suc i) h =
    append-each (λ i. P (suc i)) a b (λ i g. front (suc i) (omega arith)) (λ i g. rw suc-add at (back i g)) i (omega arith)

pub map-at : (f : ℕ → ℕ) (l : List ℕ) (i : ℕ) → i < length l → get_or (map f l) i 0 ≡ f (get_or l i 0)
map-at f [] i h = absurd (not-suc-le-zero h)
map-at f (x ∷ l) zero h = refl
map-at f (x ∷ l) (suc i) h = map-at f l i (suc-le-suc_iff.0 h)

pub map-list_of : (f : ℕ → ℕ) (l : List ℕ) → map f l ≡ list_of (λ i. f (get_or l i 0)) (length l)
map-list_of f l =
    sym (list_of-get_or (map f l)) ∙ ap (list_of (λ i. get_or (map f l) i 0)) (length-map l f) ∙ list_of-ext _ _ (length l) (λ i h. map-at f l i h)

pub written-length : (l : List ℕ) (at : ℕ) (xs : List ℕ) → at + length xs ≤ length l → length (written l at xs) ≡ length l
written-length l at xs h = simp (length-append, length-take, length-drop) (omega arith)

pub written-at : (l : List ℕ) (at : ℕ) (xs : List ℕ) (i : ℕ) → at + length xs ≤ length l → i < length xs → get_or (written l at xs) (at + i) 0 ≡ get_or xs i 0
written-at l at xs i room h =
    ap (λ n. get_or (written l at xs) (n + i) 0) (sym (length-take-le at l (omega arith))) ∙ get_or-append-add (take at l) _ i 0 ∙ get_or-append xs _ 0 i h

pub written-all : (l xs : List ℕ) → length xs ≡ length l → written l 0 xs ≡ xs
written-all l xs h = rw (zero-add, drop_of_length-le l {i = length xs} (omega arith), append-nil)

pub written-append : (l : List ℕ) (at : ℕ) (xs ys : List ℕ) → at + length (xs ++ ys) ≤ length l
    → written (written l at xs) (at + length xs) ys ≡ written l at (xs ++ ys)
written-append l at xs ys h =
    let fits : at + (length xs + length ys) ≤ length l = rw length-append at h in
    let front : length (take at l ++ xs) ≡ at + length xs = simp (length-append, length-take) (omega arith) in
    rw (← append_assoc (take at l) xs (drop (at + length xs) l), take_at (take at l ++ xs) _ _ front, ← drop-drop (length ys) (at + length xs), drop_at (take at l ++ xs) _ _ front, drop-drop)
    (simp (length-append, append_assoc, add_assoc))

pub written-more : (l : List ℕ) (at : ℕ) (xs : List ℕ) (x : ℕ) → at + length xs < length l
    → set (written l at xs) (at + length xs) x ≡ written l at (xs ++ (x ∷ []))
written-more l at xs x h =
    let len : length (written l at xs) ≡ length l = written-length l at xs (omega arith) in
    set_split (written l at xs) (at + length xs) x (omega arith)
    ∙ rw (← add-one) (written-append l at xs (x ∷ []) (rw length-append (omega arith)))

pub written-list_of : (l : List ℕ) (f : ℕ → ℕ) (i : ℕ) → i < length l → set (written l 0 (list_of f i)) i (f i) ≡ written l 0 (list_of f (i + 1))
unfolding list_of
written-list_of l f i h =
    let len : length (list_of f i) ≡ i = list_of-length f i in
    rw (add-one, len, zero-add i) (rw (zero-add (length (list_of f i)), len) at (written-more l 0 (list_of f i) (f i) (omega arith)))

module _ (l₀ l xs : List ℕ) (n : ℕ) (e : l ≡ written l₀ 0 xs) (same : length xs ≡ n) where
  pub written-front : take n l ≡ xs
  written-front = ap (take n) e ∙ take_at xs _ n same

  pub written-fits : (n ≤ length l) × (n ≡ length (take n l))
  written-fits =
      let count : length (take n l) ≡ n = ap length written-front ∙ same in
      (omega (arith, count, length-take n l), sym count)

pub written-part : (l : List ℕ) (at : ℕ) (xs : List ℕ) → take at l ++ written (drop at l) 0 xs ≡ written l at xs
written-part l at xs = rw (zero-add, drop-drop)

-- the entries of l from `at` on, as they are lent, and l when they are back as part
abbrev pub lent : (l : List ℕ) (at : ℕ) → List ℕ
lent l at = take (length l - at) (drop at l)

abbrev pub back : (l : List ℕ) (at : ℕ) (part : List ℕ) → List ℕ
back l at part = take at l ++ (part ++ drop (length l - at) (drop at l))

pub lent-room : (l : List ℕ) (at n : ℕ) → at + n ≤ length l → n ≤ length (lent l at)
lent-room l at n h = simp (length-take, length-drop) (omega arith)

pub written-back : (l : List ℕ) (at : ℕ) (xs ys : List ℕ) → ys ≡ written (lent l at) 0 xs → back l at ys ≡ written l at xs
written-back l at xs ys e =
    let all : length (drop at l) ≤ length l - at = simp length-drop (le_refl (length l - at)) in
    rw (e, take_all (length l - at) (drop at l) all, drop_of_length-le (drop at l) all, append-nil) (written-part l at xs)

pub or-false : (a b : Bool) → (a || b ≡ false) ↔ ((a ≡ false) × (b ≡ false))
or-false true b = (λ e. absurd (true≢false e), λ h. absurd (true≢false h.0))
or-false false b = (λ e. (refl, e), λ h. h.1)

pub outside-false : (lo hi x : ℕ) → (outside lo hi x ≡ false) ↔ ((lo ≤ x) × (x ≤ hi))
outside-false lo hi x =
    let both = or-false (ltb x lo) (ltb hi x) in
    (λ e. (ltb-false x lo (both.0 e).0, ltb-false hi x (both.0 e).1), λ h. both.1 (le-ltb x lo h.0, le-ltb hi x h.1))
