-- `params_write::Judged::length` meets its contract: the bits of the fields, each at most 63, are those of the record.
-- Assumes nothing.
use Prim.Native.Nat.{ℕ, zero, suc, ◌+◌, ◌*◌, ◌^◌, ◌<◌}
use native.Mathlib.Numerals.{add-one}
use native.Mathlib.Omega.{arith}
use mathlib.Core.Path.{◌≡◌, ap, subst, ◌∙◌}
use mathlib.Core.List.{map}
use lib.ListN.{length}
use borrow.Author.Rules.{rules}
use borrow.Author.Tests.{tests}
use Rattle.std.specs.List.{range_with_len, sum}
use Rattle.std.proofs.lemmas.Iterator.{YieldsList-from_range, YieldsList-from_map, serves_from_Range}
use Rattle.std.proofs.lemmas.Iterator.Adapters.{fits_from_length, at_most_from_yields_List}
use Rattle.std.proofs.lemmas.Iterator.Consumers.{sum_from_yields_List}
use Rattle.std.proofs.lemmas.List.FromFn.{length-range_with_len, sum_by-map-range_with_len_more}
use Rattle.coding.specs.Params.{Params, params_bits}
use Rattle.params.specs.Outcome.{params_of}
use Rattle.params_write.proofs.WriteLaws.{field_bits, bits_left, bits-none, length-more}
use Rattle.params_write.proofs.Judged.length.Goals as goal

-- what is left falls by each part
sum-left : (part left : ℕ → ℕ) (n : ℕ) → ((f : ℕ) → f < n → left f ≡ part f + left (f + 1)) → sum (map part (range_with_len 0 n)) + left n ≡ left 0
sum-left part left zero falls = omega arith
sum-left part left (suc n) falls =
    subst (λ m. sum (map part (range_with_len 0 m)) + left m ≡ left 0) (add-one n)
    (omega (arith, sum_by-map-range_with_len_more (λ x. x) part 0 n n (omega arith), sum-left part left n (λ f h. falls f (omega arith)), falls n (omega arith)))

whole : (p : Params) → sum (map (λ f. length (field_bits p f)) (range_with_len 0 (3 + 3 * p.cpb_cnt + 4))) ≡ length (params_bits p)
whole p =
    let n = 3 + 3 * p.cpb_cnt + 4 in
    omega
    (arith, sum-left (λ f. length (field_bits p f)) (λ f. length (bits_left p f)) n (λ f h. length-more p f h), ap length (bits-none p n (omega arith)))

pub sum-requires-clause-can : goal.sum-requires-clause-can
sum-requires-clause-can c = (tt, serves_from_Range (λ x q k. search rules) (λ x g l. search rules))

pub sum-requires-clause-fits : goal.sum-requires-clause-fits
sum-requires-clause-fits c =
    fits_from_length _ _ 103 (2 ^ 64)
    (at_most_from_yields_List (YieldsList-from_range 0 c.field_count.result c.field_count.result c.map.ensures.source (search rules)) (rw length-range_with_len (search rules)))
    c.map.ensures.closure (search rules) (λ x r q k. search (rules, tests))

pub returns : goal.returns
returns c =
    let p = params_of c.args.self.now.params in
    let all = 3 + 3 * p.cpb_cnt + 4 in
    sum_from_yields_List c.map.result c.sum.result c.sum.ensures.ran
    (YieldsList-from_map _ (λ f. length (field_bits p f)) (YieldsList-from_range 0 c.field_count.result all c.map.ensures.source (search rules)) c.map.ensures.closure (λ x r q k. search (rules, tests)))
    ∙ whole p
