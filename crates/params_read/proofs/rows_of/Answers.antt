-- `params_read::rows_of` meets its contract: each entry is what the closure gives at its row.
-- Assumes nothing.
use Prim.Native.Nat.{ℕ, zero, suc, ◌+◌, ◌*◌, ◌<◌}
use native.Mathlib.Nat.{add-zero, zero-add, not-suc-le-zero}
use native.Mathlib.Omega.{arith}
use denote.Param.Members.{Mut, Called}
use mathlib.Core.Path.{◌≡◌, sym, subst, ◌∙◌}
use mathlib.Core.Bool.{cond}
use mathlib.Core.List.{List}
use lib.Dec.{ltb}
use lib.ListN.{get_or}
use lib.Seq.{ext_get_or}
use borrow.Author.Rules.{rules}
use borrow.Author.Tests.{tests}
use Rattle.std.specs.Array.{IsFromFnResult, IsFromFnResultFrom}
use Rattle.terms.specs.Numbers.{list_of}
use Rattle.terms.proofs.NumbersLaws.{list_of-length, list_of-at}
use Rattle.params_read.proofs.rows_of.Goals as goal

-- what calls that leave the closure f as it is gave, number by number
module _ {F : Type 0} (g : Mut F (ℕ × Unit {0}) ℕ) (f : F) (h : ℕ → ℕ)
    (gives : (i r : ℕ) (f' : F) → Called g f (i, tt) r f' → (r ≡ h i) × (f' ≡ f)) (ys : List ℕ) where
  made-at : (i n k : ℕ) → IsFromFnResultFrom g f ys i n → k < n → get_or ys (i + k) 0 ≡ h (i + k)
  made-at i zero k made less = absurd (not-suc-le-zero less)
  made-at i (suc n) zero (q, y, is, call, rest) less = rw add-zero (is.1 0 ∙ (gives i y q call).0)
  made-at i (suc n) (suc k) (q, y, is, call, rest) less =
      let e : i + suc k ≡ i + 1 + k = omega arith in
      rw e (made-at (i + 1) n k (subst (λ q. IsFromFnResultFrom g q ys (i + 1) n) (gives i y q call).1 rest) (omega arith))

  made : (n : ℕ) → IsFromFnResult g f ys n → ys ≡ list_of h n
  made n m =
      ext_get_or 0 ys (list_of h n) (m.long ∙ sym (list_of-length h n))
      (λ k less. let inside : k < n = omega (arith, m.long) in rw zero-add at (made-at 0 n k m.each inside) ∙ sym (list_of-at h n 0 inside))

pub returns : goal.returns
returns c =
    let values = c.args.values.now in
    made _ _ (λ row. cond (ltb row c.args.n) (get_or values (3 + 3 * row + c.args.column) 0) 0) (λ i r f k. search (rules, tests)) c.from_fn.result _ c.from_fn.ensures.items
