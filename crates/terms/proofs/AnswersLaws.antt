-- What is true of judgements, and of the refusal that is given where several apply. Definitions: specs/Answers.antt.
--     refuse_if-passed                                               a test refuses exactly when it is true
--     or_else-passed                                                 of two judgements both pass, or the first refusal is given
--     test-false, test-true, skip, here                              how the first refusal is found, judgement by judgement
--     answer-given, answer-refused, answer-passed, answer-refuses    an operation's answer, from its judgement and back
--     first-passed                                                   several judgements pass exactly when each does
--     first-append                                                   of two lists the second is judged where the first passes
--     first_fault-passed                                             a list passes exactly when no place is at fault
--     none_bad-zero, none_bad-more, first_bad-here, first_bad-none   how a search finds the first place at fault
--     first_fault-found                                              a refusal stands at the first place at fault
--     first_fault-none                                               and there is none where no place is
--     first_fault-search                                             so a list is judged by where a search ended
--     Numbered                                                       a judgement that passes or refuses with a given number
--     Ascending                                                      judgements in the order of their numbers
--     lowest-first                                                   of such the lowest is the first
--     lowest-append                                                  and with more behind them it is found in the same way
--     lowest-least                                                   no judgement has a lower number than the refusal that is given
--     lowest-one                                                     and that is one of them
--     lower-passed                                                   a judgement with one that passes behind it is itself
--     lower-assoc                                                    of three judgements any two may be taken first
--     lowest-two                                                     the lowest of two is the lower
--     lowest-both                                                    of two lists one behind the other the lowest is the lower of both lowest
--     lowest-more                                                    with one more behind, it is the lower of the lowest and that one
--     lower-both                                                     the lower of two passes exactly when both do
--     lowest-each                                                    so of two lists one behind the other both pass where the whole does
--     lowest-passed                                                  the lowest passes exactly when each judgement does
--     room_check-passed                                              a list passes exactly when it has room
-- Assumes nothing.
use Prim.Native.Nat.{ℕ, zero, suc, ◌+◌, ◌≤◌, ◌<◌}
use native.Mathlib.Nat.{le_refl, not-le_of_lt, le_trans, le_of_lt, not-suc-le-zero, suc-le-suc_iff, eq-or-lt_of_le, lt-suc_self, le_step}
use native.Mathlib.Decide.{dec_lt}
use native.Mathlib.Omega.{arith}
use mathlib.Core.Path.{◌≡◌, refl, sym, ap, ◌∙◌}
use mathlib.Core.Bool.{Bool, true, false, cond, true≢false}
use mathlib.Core.Logic.{◌↔◌, ◌⊎◌, inl, inr, ⊎_elim}
use mathlib.Core.List.{List, [], ◌∷◌, ◌++◌}
use lib.Dec.{T, leb, ltb, lit≤}
use lib.ListN.{length, get_or}
use borrow.Author.Count.{below_more}
use borrow.Author.Tests.{ltb-true, ltb-false, lt-ltb, le-ltb}
use Rattle.rules.specs.Refusals as refusal
use Rattle.terms.specs.Answers.{room_check, given, refused, Judgement, passed, refuse_if, or_else, first_fault, NoneBad, FirstBad, lower, lowest, first, answer_with}

pub refused-not-passed : {n i : ℕ} → ◌≡◌ {A = Judgement} (refused n i) passed → ⊥
refused-not-passed e = let z : ◌≡◌ {A = ℕ} 0 1 = cc in omega arith

pub refuse_if-passed : (bad : Bool) (n i : ℕ) → (refuse_if bad n i ≡ passed) ↔ (bad ≡ false)
unfolding refuse_if
refuse_if-passed true n i = (λ e. absurd (refused-not-passed e), λ e. absurd (true≢false e))
refuse_if-passed false n i = (λ e. refl, λ e. refl)

pub or_else-passed : (a b : Judgement) → (or_else a b ≡ passed) ↔ ((a ≡ passed) × (b ≡ passed))
or_else-passed (given tt) b = (λ e. (refl, e), λ h. h.1)
or_else-passed (refused n i) b = (λ e. absurd (refused-not-passed e), λ h. absurd (refused-not-passed h.0))

-- how the first refusal is found: a test that is false or true, a judgement that passes or refuses
pub test-false : {bad : Bool} (n i : ℕ) → bad ≡ false → refuse_if bad n i ≡ passed
test-false {bad} n i = (refuse_if-passed bad n i).1

pub test-true : {bad : Bool} (n i : ℕ) → bad ≡ true → refuse_if bad n i ≡ refused n i
unfolding refuse_if
test-true n i e = rw e

pub skip : {j : Judgement} (js : List Judgement) → j ≡ passed → first (j ∷ js) ≡ first js
unfolding first
skip js e = rw e

pub here : {j : Judgement} {n i : ℕ} (js : List Judgement) → j ≡ refused n i → first (j ∷ js) ≡ refused n i
unfolding first
here js e = rw e

-- an operation's answer, from its judgement
pub answer-given : {A : Type 0} {j : Judgement} (x : A) → j ≡ passed → answer_with j x ≡ given x
answer-given x e = rw e

pub answer-refused : {A : Type 0} {j : Judgement} {n i : ℕ} (x : A) → j ≡ refused n i → answer_with j x ≡ refused n i
answer-refused x e = rw e

pub answer-passed : {A : Type 0} (j : Judgement) (x y : A) → answer_with j x ≡ given y → (j ≡ passed) × (x ≡ y)
answer-passed (given tt) x y e = (refl, cc)
answer-passed (refused n i) x y e = let z : ◌≡◌ {A = ℕ} 0 1 = cc in absurd (omega arith)

pub answer-refuses : {A : Type 0} (j : Judgement) (x : A) (n i : ℕ) → answer_with j x ≡ refused n i → j ≡ refused n i
answer-refuses (given tt) x n i e = let z : ◌≡◌ {A = ℕ} 0 1 = cc in absurd (omega arith)
answer-refuses (refused m k) x n i e = cc

-- each of them passes
abbrev pub AllPassed : List Judgement → Type 0
AllPassed [] = Unit {0}
AllPassed (j ∷ js) = (j ≡ passed) × AllPassed js

pub first-passed : (js : List Judgement) → (first js ≡ passed) ↔ AllPassed js
unfolding first
first-passed [] = (λ e. tt, λ h. refl)
first-passed (j ∷ js) =
    let both = or_else-passed j (first js) in
    (λ e. ((both.0 e).0, (first-passed js).0 (both.0 e).1), λ h. both.1 (h.0, (first-passed js).1 h.1))

pub first-append : (js ks : List Judgement) → first (js ++ ks) ≡ or_else (first js) (first ks)
unfolding first
first-append [] ks = refl
first-append (given a ∷ js) ks = first-append js ks
first-append (refused n i ∷ js) ks = refl

pub first_fault-passed : (n : ℕ) (bad : ℕ → Bool) (m : ℕ) → (first_fault n bad m ≡ passed) ↔ ((i : ℕ) → i < m → bad i ≡ false)
unfolding first_fault
first_fault-passed n bad zero = (λ e i h. absurd (not-suc-le-zero h), λ h. refl)
first_fault-passed n bad (suc m) =
    let both = or_else-passed (first_fault n bad m) (refuse_if (bad m) n m) in (
      λ e i h.
          ⊎_elim (λ g. ap bad g ∙ (refuse_if-passed (bad m) n m).0 (both.0 e).1) (λ g. (first_fault-passed n bad m).0 (both.0 e).0 i g)
          (eq-or-lt_of_le (suc-le-suc_iff.0 h)),
      λ h. both.1 ((first_fault-passed n bad m).1 (λ i g. h i (le_step g)), (refuse_if-passed (bad m) n m).1 (h m (lt-suc_self m))),
    )

-- how a search finds the first place at fault: nothing passed yet, one place more passed, a fault met, all passed
pub none_bad-zero : (bad : ℕ → Bool) → NoneBad bad 0
none_bad-zero bad j h = absurd (not-suc-le-zero h)

pub none_bad-more : (bad : ℕ → Bool) (i : ℕ) → NoneBad bad i → bad i ≡ false → NoneBad bad (i + 1)
none_bad-more bad i = below_more (λ j. bad j ≡ false) i

pub first_bad-here : (bad : ℕ → Bool) (n i : ℕ) → NoneBad bad i → i < n → bad i ≡ true → FirstBad bad n i
first_bad-here bad n i before h fault = record { within = le_of_lt h; fault = λ _. fault; before = before }

pub first_bad-none : (bad : ℕ → Bool) (n i : ℕ) → NoneBad bad i → i ≤ n → n ≤ i → FirstBad bad n i
first_bad-none bad n i before h end = record { within = h; fault = λ g. absurd (not-le_of_lt g end); before = before }

pub first_fault-found : (n : ℕ) (bad : ℕ → Bool) (m i : ℕ) → FirstBad bad m i → i < m → first_fault n bad m ≡ refused n i
unfolding first_fault refuse_if
first_fault-found n bad zero i at h = absurd (not-suc-le-zero h)
first_fault-found n bad (suc m) i at h =
    ⊎_elim (λ e. rw ((first_fault-passed n bad m).1 (λ j g. at.before j (rw e g)), ← e, at.fault h))
    (λ g. rw (first_fault-found n bad m i (record { within = le_of_lt g; fault = λ _. at.fault h; before = at.before }) g))
    (eq-or-lt_of_le (suc-le-suc_iff.0 h))

pub first_fault-none : (n : ℕ) (bad : ℕ → Bool) (m i : ℕ) → FirstBad bad m i → m ≤ i → first_fault n bad m ≡ passed
first_fault-none n bad m i at h = (first_fault-passed n bad m).1 (λ j g. at.before j (le_trans g h))

pub first_fault-search : (n : ℕ) (bad : ℕ → Bool) (m i : ℕ) → FirstBad bad m i → refuse_if (ltb i m) n i ≡ first_fault n bad m
first_fault-search n bad m i at =
    elim (dec_lt i m) [
      | yes h ↦ test-true n i (lt-ltb i m h) ∙ sym (first_fault-found n bad m i at h)
      | no h ↦ let g : m ≤ i = omega arith in test-false n i (le-ltb i m g) ∙ sym (first_fault-none n bad m i at g)
    ]

-- passes, or refuses with the number m
abbrev pub Numbered : ℕ → Judgement → Type 0
Numbered m (given a) = Unit {0}
Numbered m (refused n i) = n ≡ m

pub refuse_if-numbered : (bad : Bool) (n i : ℕ) → Numbered n (refuse_if bad n i)
unfolding refuse_if
refuse_if-numbered true n i = refl
refuse_if-numbered false n i = tt

or_else-numbered : (n : ℕ) (a b : Judgement) → Numbered n a → Numbered n b → Numbered n (or_else a b)
or_else-numbered n (given x) b h g = g
or_else-numbered n (refused m i) b h g = h

pub first_fault-numbered : (n : ℕ) (bad : ℕ → Bool) (m : ℕ) → Numbered n (first_fault n bad m)
unfolding first_fault
first_fault-numbered n bad zero = tt
first_fault-numbered n bad (suc m) =
    or_else-numbered n (first_fault n bad m) (refuse_if (bad m) n m) (first_fault-numbered n bad m) (refuse_if-numbered (bad m) n m)

-- judgements whose numbers are at least n and do not fall
pub data Ascending : (n : ℕ) → List Judgement → Type 0 where
  none : {n : ℕ} → Ascending n []
  next : {n : ℕ} (m : ℕ) {j : Judgement} {js : List Judgement} → n ≤ m → Numbered m j → Ascending m js → Ascending n (j ∷ js)

-- one test more in front, and one list more
pub test : {n : ℕ} (m : ℕ) (bad : Bool) (i : ℕ) {js : List Judgement} → T (leb n m) → Ascending m js → Ascending n (refuse_if bad m i ∷ js)
test m bad i h js = next m (lit≤ h) (refuse_if-numbered bad m i) js

pub list : {n : ℕ} (m : ℕ) (bad : ℕ → Bool) (l : ℕ) {js : List Judgement} → T (leb n m) → Ascending m js → Ascending n (first_fault m bad l ∷ js)
list m bad l h js = next m (lit≤ h) (first_fault-numbered m bad l) js

abbrev AtLeast : ℕ → Judgement → Type 0
AtLeast m (given a) = Unit {0}
AtLeast m (refused n i) = m ≤ n

at_least-le : {n m : ℕ} (j : Judgement) → n ≤ m → AtLeast m j → AtLeast n j
at_least-le (given a) h g = tt
at_least-le (refused k i) h g = le_trans h g

first-at_least : {n : ℕ} {js : List Judgement} → Ascending n js → AtLeast n (first js)
unfolding first
first-at_least none = tt
first-at_least (next m {j = given a} {js = js} h g t) = at_least-le (first js) h (first-at_least t)
first-at_least (next m {j = refused k i} h g t) = omega arith

-- a refusal is lower than any that has no lower number
lower-first : {n m : ℕ} (i : ℕ) (j : Judgement) → n ≡ m → AtLeast m j → lower (refused n i) j ≡ refused n i
lower-first i (given a) e h = refl
lower-first {n} i (refused k l) e h = let g : n ≤ k = omega arith in rw (le-ltb k n g)

pub lowest-first : {n : ℕ} {js : List Judgement} → Ascending n js → lowest js ≡ first js
unfolding lowest first
lowest-first none = refl
lowest-first (next m {j = given a} h g t) = lowest-first t
lowest-first (next m {j = refused k i} {js = js} h g t) = rw (lowest-first t) (lower-first i (first js) g (first-at_least t))

pub lowest-append : {n : ℕ} (js ks : List Judgement) → Ascending n js → Ascending n (js ++ ks) → lowest (js ++ ks) ≡ or_else (lowest js) (first ks)
lowest-append js ks up on = lowest-first on ∙ first-append js ks ∙ ap (λ j. or_else j (first ks)) (sym (lowest-first up))

-- a judgement that refuses with a number of at most m
abbrev AtMost : ℕ → Judgement → Type 0
AtMost m (given a) = ⊥
AtMost m (refused n i) = n ≤ m

lower-left : (m i : ℕ) (b : Judgement) → AtMost m (lower (refused m i) b)
lower-left m i (given a) = le_refl m
lower-left m i (refused n j) = go (ltb n m) refl
  where
    go : (t : Bool) → ltb n m ≡ t → AtMost m (cond t (refused n j) (refused m i))
    go true e = le_of_lt (ltb-true n m e)
    go false e = le_refl m

lower-right : (m : ℕ) (a b : Judgement) → AtMost m b → AtMost m (lower a b)
lower-right m (given x) b h = h
lower-right m (refused k i) (refused n j) h = go (ltb n k) refl
  where
    go : (t : Bool) → ltb n k ≡ t → AtMost m (cond t (refused n j) (refused k i))
    go true e = h
    go false e = le_trans (ltb-false n k e) h
lower-right m (refused k i) (given x) h = absurd h

-- no judgement refuses with a lower number than the one that is given
pub lowest-least : (js : List Judgement) (l m i : ℕ) → get_or js l passed ≡ refused m i → AtMost m (lowest js)
unfolding lowest
lowest-least [] l m i e = absurd (refused-not-passed (sym e))
lowest-least (a ∷ js) zero m i e = rw e (lower-left m i (lowest js))
lowest-least (a ∷ js) (suc l) m i e = lower-right m a (lowest js) (lowest-least js l m i e)

lower-one : (a b : Judgement) → (lower a b ≡ a) ⊎ (lower a b ≡ b)
lower-one (given a) b = inr refl
lower-one (refused m i) (given b) = inl refl
lower-one (refused m i) (refused n j) = go (ltb n m)
  where
    go : (t : Bool) → (cond {A = Judgement} t (refused n j) (refused m i) ≡ refused m i) ⊎ (cond {A = Judgement} t (refused n j) (refused m i) ≡ refused n j)
    go true = inr refl
    go false = inl refl

-- the refusal that is given is one of them
pub lowest-one : (js : List Judgement) (m i : ℕ) → lowest js ≡ refused m i → (l : ℕ) × (get_or js l passed ≡ refused m i)
unfolding lowest
lowest-one [] m i e = absurd (refused-not-passed (sym e))
lowest-one (a ∷ js) m i e =
    ⊎_elim (λ g. (0, sym g ∙ e)) (λ g. let (l, h) = lowest-one js m i (sym g ∙ e) in (suc l, h)) (lower-one a (lowest js))

pub lower-passed : (a : Judgement) → lower a passed ≡ a
lower-passed (given tt) = refl
lower-passed (refused m i) = refl

pub lower-assoc : (a b c : Judgement) → lower (lower a b) c ≡ lower a (lower b c)
lower-assoc (given x) b c = refl
lower-assoc (refused m i) (given y) c = refl
lower-assoc (refused m i) (refused n j) (given z) = lower-passed (lower (refused m i) (refused n j))
lower-assoc (refused m i) (refused n j) (refused o k) = go (ltb n m) (ltb o n) refl refl
  where
    go : (s t : Bool) → ltb n m ≡ s → ltb o n ≡ t
        → lower (cond s (refused n j) (refused m i)) (refused o k) ≡ lower (refused m i) (cond t (refused o k) (refused n j))
    go true true s t = let h : o < m = omega (arith, ltb-true n m s, ltb-true o n t) in rw (t, lt-ltb o m h)
    go true false s t = rw (t, s)
    go false true s t = refl
    go false false s t = let h : m ≤ o = omega (arith, ltb-false n m s, ltb-false o n t) in rw (s, le-ltb o m h)

pub lowest-two : (a b : Judgement) → lowest (a ∷ b ∷ []) ≡ lower a b
unfolding lowest
lowest-two a b = ap (lower a) (lower-passed b)

pub lowest-both : (js ks : List Judgement) → lowest (js ++ ks) ≡ lower (lowest js) (lowest ks)
unfolding lowest
lowest-both [] ks = refl
lowest-both (a ∷ js) ks = ap (lower a) (lowest-both js ks) ∙ sym (lower-assoc a (lowest js) (lowest ks))

pub lowest-more : (js : List Judgement) (j : Judgement) → lowest (js ++ (j ∷ [])) ≡ lower (lowest js) j
unfolding lowest
lowest-more js j = lowest-both js (j ∷ []) ∙ ap (lower (lowest js)) (lower-passed j)

pub lower-both : (a b : Judgement) → (lower a b ≡ passed) ↔ ((a ≡ passed) × (b ≡ passed))
lower-both (given tt) b = (λ e. (refl, e), λ h. h.1)
lower-both (refused m i) (given y) = (λ e. absurd (refused-not-passed e), λ h. absurd (refused-not-passed h.0))
lower-both (refused m i) (refused n j) = go (ltb n m)
  where
    go : (t : Bool) → (cond {A = Judgement} t (refused n j) (refused m i) ≡ passed) ↔ ((◌≡◌ {A = Judgement} (refused m i) passed) × (◌≡◌ {A = Judgement} (refused n j) passed))
    go true = (λ e. absurd (refused-not-passed e), λ h. absurd (refused-not-passed h.0))
    go false = (λ e. absurd (refused-not-passed e), λ h. absurd (refused-not-passed h.0))

pub lowest-each : (js ks : List Judgement) → lowest (js ++ ks) ≡ passed → (lowest js ≡ passed) × (lowest ks ≡ passed)
lowest-each js ks e = (lower-both (lowest js) (lowest ks)).0 (sym (lowest-both js ks) ∙ e)

pub lowest-passed : (js : List Judgement) → (lowest js ≡ passed) ↔ AllPassed js
unfolding lowest
lowest-passed [] = (λ e. tt, λ h. refl)
lowest-passed (j ∷ js) =
    let both = lower-both j (lowest js) in
    (λ e. ((both.0 e).0, (lowest-passed js).0 (both.0 e).1), λ h. both.1 (h.0, (lowest-passed js).1 h.1))

pub room_check-passed : (l : List ℕ) (at n : ℕ) → (room_check l at n ≡ passed) ↔ (at + n ≤ length l)
room_check-passed l at n =
    let test = refuse_if-passed (ltb (length l) (at + n)) refusal.room 0 in
    (λ e. ltb-false (length l) (at + n) (test.0 e), λ h. test.1 (le-ltb (length l) (at + n) h))
