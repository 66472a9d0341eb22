-- What is true of one text put behind another. Definitions: specs/Put.antt.
--     put-none     where no byte is put, the list stays as it was
--     put-length   a list into which a text was put keeps its length
--     room-front   where two texts have room, the first has
--     room-then    behind the first of two texts there is room for the second
--     put-then     two texts put one behind the other are put
--     stored-one   a byte that is stored is put
--     stored-more  and so are a text and one byte stored behind it
--     decimals     what the check needs of these, and of a number's digits, for `put_decimal`
--     Left         of a whole text the rest is left to put
--     left-all     at first that is all
--     left-then    when the next part is put, what stands behind it is left
-- Assumes nothing.
use Prim.Native.Nat.{ℕ, ◌+◌, ◌<◌}
use native.Mathlib.Nat.{add-zero}
use native.Mathlib.Omega.{arith}
use mathlib.Core.Path.{◌≡◌, sym, ap, ◌∙◌}
use mathlib.Core.List.{List, [], ◌∷◌, ◌++◌}
use lib.ListN.{length, set, length-append, take-append-drop}
use lib.Seq.{set_split}
use native.Mathlib.Numerals.{add-one}
use Rattle.terms.specs.Numbers.{written}
use Rattle.terms.proofs.NumbersLaws.{written-length, written-append, written-more}
use Rattle.layout.proofs.TextLaws.{decimal-one, decimal-step}
use Rattle.text.specs.Put.{Room, Put}

pub put-none : (l : List ℕ) (at m : ℕ) → m ≡ at → Put l at [] l m
put-none l at m e = (rw (add-zero, take-append-drop), e ∙ sym (add-zero at))

pub put-length : (l : List ℕ) (at : ℕ) (xs l' : List ℕ) (m : ℕ) → Room l at xs → Put l at xs l' m → length l' ≡ length l
put-length l at xs l' m room put = ap length put.0 ∙ written-length l at xs room

module _ (l : List ℕ) (at : ℕ) (xs ys : List ℕ) (room : Room l at (xs ++ ys)) where
  pub room-front : Room l at xs
  room-front = omega (arith, length-append xs ys)

  module _ (l' : List ℕ) (m : ℕ) (first : Put l at xs l' m) where
    pub room-then : Room l' m ys
    room-then = omega (arith, length-append xs ys, put-length l at xs l' m room-front first, first.1)

    pub put-then : (l'' : List ℕ) (n : ℕ) → Put l' m ys l'' n → Put l at (xs ++ ys) l'' n
    put-then l'' n second =
        (cc (first.0, first.1, second.0, written-append l at xs ys room), omega (arith, length-append xs ys, first.1, second.1))

pub stored-one : (l : List ℕ) (at x : ℕ) → at < length l → set l at x ≡ written l at (x ∷ [])
stored-one l at x h = rw add-one (set_split l at x h)

pub stored-more : (l : List ℕ) (at : ℕ) (xs : List ℕ) (x : ℕ) (l' : List ℕ) (m : ℕ) → l' ≡ written l at xs → m ≡ at + length xs → m < length l
    → set l' m x ≡ written l at (xs ++ (x ∷ []))
stored-more l at xs x l' m e f h = cc (e, f, written-more l at xs x (omega arith))

pub ruleset decimals = (decimal-one, decimal-step, length-append, stored-one, stored-more)

-- l has become l' on the way to the whole text from entry at on: what is left is rest, from entry m on
pub record Left (l : List ℕ) (at : ℕ) (whole l' : List ℕ) (m : ℕ) (rest : List ℕ) : Type 0 where
  pub room : Room l' m rest
  pub finish : (l'' : List ℕ) (n : ℕ) → Put l' m rest l'' n → Put l at whole l'' n

pub left-all : (l : List ℕ) (at : ℕ) (whole : List ℕ) → Room l at whole → Left l at whole l at whole
left-all l at whole room = record { room = room; finish = λ l'' n put. put }

module _ {l : List ℕ} {at : ℕ} {whole l' : List ℕ} {m : ℕ} (xs ys : List ℕ) (left : Left l at whole l' m (xs ++ ys)) where
  pub left-then : (l'' : List ℕ) (n : ℕ) → Put l' m xs l'' n → Left l at whole l'' n ys
  left-then l'' n put =
      record {
        room = room-then l' m xs ys left.room l'' n put;
        finish = λ l3 k more. left.finish l3 k (put-then l' m xs ys left.room l'' n put l3 k more);
      }
