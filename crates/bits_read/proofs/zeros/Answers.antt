-- `bits_read::zeros` meets its contract: `find` gives the first bit that is not 0, all before it being zeros.
-- Assumes nothing.
use Prim.Native.Nat.{ℕ, ◌+◌, ◌≤◌, ◌<◌}
use native.Mathlib.Omega.{arith}
use mathlib.Core.Path.{◌≡◌, sym}
use mathlib.Core.Logic.{◌≢◌}
use mathlib.Core.List.{List}
use borrow.Author.Rules.{rules}
use borrow.Author.Tests.{tests}
use Rattle.std.specs.Prelude.{Option, Some, None, unwrap_or, MatchOption}
use Rattle.std.proofs.lemmas.Iterator.{first_from_Range}
use Rattle.coding.specs.Codes.{bit_at, bits_of}
use Rattle.coding.proofs.CodesLaws.{Zeros, zeros-one}
use Rattle.bits_read.proofs.zeros.Goals as goal

module _ (bytes : List ℕ) (p n : ℕ) where
  counted : (o : Option ℕ) → MatchOption o ((k : ℕ) → 0 ≤ k → k < n → bit_at bytes (p + k) ≡ 0) (λ i. (0 ≤ i) × (i < n) × (bit_at bytes (p + i) ≢ 0) × ((k : ℕ) → 0 ≤ k → k < i → bit_at bytes (p + k) ≡ 0)) → Zeros (bits_of bytes) p n (unwrap_or o n)
  counted None h = record { run = λ i g. h i (omega arith) g; stop = omega arith; up_to = omega arith }
  counted (Some i) h = record { run = λ k g. h.3 k (omega arith) g; stop = λ _. h.2; up_to = omega arith }

pub returns : goal.returns
returns c =
    let bytes = c.args.bytes.now in
    let p = c.args.p in
    let zs = counted bytes p c.args.n c.find.result (first_from_Range _ _ _ _ (λ i. bit_at bytes (p + i) ≢ 0) (λ i. bit_at bytes (p + i) ≡ 0) c.find.ensures.ran (λ x q k. search (rules, tests)) (λ x q k. search (rules, tests))) in
    rw c.unwrap_or.ensures (sym (zeros-one zs), zs.up_to)
