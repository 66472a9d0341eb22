-- A list that is filled entry by entry from its front, as a loop does. Definitions: specs/Numbers.antt.
--     filled-length    a list keeps its length
--     filled-written   with room for n entries it begins with f 0 to f (n - 1) and else is as it was
--     Filled           the loop's invariant after i entries
--     filled-none      at first nothing is filled
--     filled-more      then one entry more
--     filled-done      at last n
--     filled-all       which is all of them written, with room for them
-- Assumes nothing.
use Prim.Native.Nat.{ℕ, zero, suc, ◌+◌, ◌≤◌}
use native.Mathlib.Nat.{le_of_lt, le_antisymm}
use native.Mathlib.Numerals.{add-one}
use mathlib.Core.Path.{◌≡◌, refl, ap, ◌∙◌}
use mathlib.Core.List.{List}
use lib.ListN.{length, set, length-set}
use Rattle.terms.specs.Numbers.{list_of, written, filled}
use Rattle.terms.proofs.NumbersLaws.{written-list_of}

pub filled-length : (l : List ℕ) (f : ℕ → ℕ) (n : ℕ) → length (filled l f n) ≡ length l
unfolding filled
filled-length l f zero = refl
filled-length l f (suc n) = rw length-set (filled-length l f n)

pub filled-written : (l : List ℕ) (f : ℕ → ℕ) (n : ℕ) → n ≤ length l → filled l f n ≡ written l 0 (list_of f n)
unfolding filled list_of
filled-written l f zero h = refl
filled-written l f (suc n) h = rw (filled-written l f n (le_of_lt h)) (written-list_of l f n h ∙ ap (λ m. written l 0 (list_of f m)) (add-one n))

pub record Filled (f : ℕ → ℕ) (l₀ l : List ℕ) (i : ℕ) : Type 0 where
  pub same : length l ≡ length l₀
  pub is : l ≡ filled l₀ f i

pub filled-none : (f : ℕ → ℕ) (l : List ℕ) → Filled f l l 0
unfolding filled
filled-none f l = record { same = refl; is = refl }

module _ {f : ℕ → ℕ} {l₀ l : List ℕ} {i : ℕ} (p : Filled f l₀ l i) where
  pub filled-more : {l' : List ℕ} {x : ℕ} → l' ≡ set l i x → x ≡ f i → Filled f l₀ l' (i + 1)
  unfolding filled
  filled-more is e = record { same = ap length is ∙ rw length-set p.same; is = is ∙ rw (add-one, p.is, e) }

  pub filled-done : {n : ℕ} → i ≤ n → n ≤ i → l ≡ filled l₀ f n
  filled-done h g = p.is ∙ ap (filled l₀ f) (le_antisymm h g)

  pub filled-all : {n : ℕ} → i ≤ n → n ≤ i → n ≤ length l₀ → l ≡ written l₀ 0 (list_of f n)
  filled-all {n} h g room = filled-done h g ∙ filled-written l₀ f n room
