-- The struct of a refusal has a record that is all zero.
--     no-rows      numbers that are all zero are those of no rows
--     no-params    a record of zeros is the record of a refusal
-- Assumes nothing.
use Prim.Native.Nat.{ℕ, ◌<◌}
use native.Mathlib.Omega.{arith}
use mathlib.Core.Path.{◌≡◌, refl, sym, ◌∙◌}
use mathlib.Core.Bool.{Bool, true, false, cond}
use mathlib.Core.List.{List, []}
use lib.Dec.{ltb}
use Rattle.std.specs.Array.{AllOfLen}
use Rattle.std.proofs.lemmas.Grind.{same_number_lists}
use Rattle.rules.specs.Limits.{cpb_cnt_max}
use Rattle.terms.proofs.NumbersLaws.{list_of-length, list_of-at}
use Rattle.coding.specs.Params.{rows_of, zero_params}
use Rattle.params.specs.Outcome.{params_of}
use Rattle.params.specs.declared.Params.{Params}
use Rattle.answers.proofs.records.PlannerParamsReadFromResultParamsReadRefusal.from.Goals as goal

either-way : (b : Bool) → cond {A = ℕ} b 0 0 ≡ 0
either-way true = refl
either-way false = refl

no-rows : (c : ℕ) (xs : List ℕ) → AllOfLen (λ x. x ≡ 0) xs cpb_cnt_max → xs ≡ rows_of [] 0 c
no-rows c xs zeros =
    same_number_lists xs (rows_of [] 0 c) (zeros.long ∙ sym (list_of-length _ cpb_cnt_max))
    (λ k h.
    let in-range : k < cpb_cnt_max = omega (arith, zeros.long) in
    zeros.at k 0 in-range ∙ sym (list_of-at _ cpb_cnt_max 0 in-range ∙ either-way (ltb k 0)))

module _ (p : Params) where
  abbrev Zeros : Type 0
  Zeros =
      (p.cpb_cnt ≡ 0)
      × ((p.bit_rate_scale ≡ 0)
      × ((p.cpb_size_scale ≡ 0)
      × (AllOfLen (λ x. x ≡ 0) p.bit_rate_value_minus1 cpb_cnt_max
      × (AllOfLen (λ x. x ≡ 0) p.cpb_size_value_minus1 cpb_cnt_max
      × (AllOfLen (λ x. x ≡ 0) p.cbr_flag cpb_cnt_max
      × ((p.initial_cpb_removal_delay_length_minus1 ≡ 0)
      × ((p.cpb_removal_delay_length_minus1 ≡ 0)
      × ((p.dpb_output_delay_length_minus1 ≡ 0)
      × (p.time_offset_length ≡ 0)))))))))

  no-params : Zeros → params_of p ≡ zero_params
  no-params (cnt, (rate, (size, (rates, (sizes, (flags, (initial, (removal, (output, offset))))))))) =
      rw (cnt, rate, size, no-rows 0 _ rates, no-rows 1 _ sizes, no-rows 2 _ flags, initial, removal, output, offset)

pub returns-in-Err : goal.returns-in-Err
returns-in-Err c =
    let (_, (_, (_, (next, zeros)))) = c.default.ensures in
    rw (c.in-Err.is, next, c.from.ensures, c.number.ensures, c.place.ensures) (refl, no-params c.default.result.params zeros)
