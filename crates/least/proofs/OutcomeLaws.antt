-- The answers of this crate, from what is judged and what is measured. Definitions: model/specs/Faults.antt, model/specs/Outcomes.antt,
-- specs/Outcome.antt.
--     least-steps                    a recording and a rate are judged one after the other
--     table-steps                    a recording, rates and the room of two lists are judged one after the other
--     table-refused, table-written   a table's answer with both lists: as they were, or with its figures in the part that was lent
-- Assumes nothing.
use Prim.Native.Nat.{ℕ}
use mathlib.Core.Path.{◌≡◌, sym, ap, ap₂, ◌∙◌}
use mathlib.Core.List.{List, [], ◌∷◌, ◌++◌, map}
use lib.ListN.{length}
use Rattle.std.specs.Prelude.{Result, Ok, Err}
use Rattle.rules.specs.Refusals as refusal
use Rattle.terms.specs.Numbers.{written}
use Rattle.terms.specs.Answers.{Judgement, passed, or_else, first, lowest}
use Rattle.terms.proofs.NumbersLaws.{lent, back, written-back}
use Rattle.terms.proofs.AnswersLaws.{none, test, list, first-append, lowest-first}
use Rattle.model.specs.Recording.{Recording}
use Rattle.model.specs.Least.{least_buffer, least_fullness}
use Rattle.model.specs.Faults.{rate_check, rates_faults, room_faults, least_faults, table_faults}
use Rattle.model.specs.Outcomes.{judge_outcome, table_outcome}
use Rattle.model.proofs.FaultsLaws.{faults-after}
use Rattle.judgement.specs.Outcome.{judgement_of}
use Rattle.judgement.proofs.Steps.{last}
use Rattle.judgement.specs.declared.Refusal.{Refusal}
use Rattle.least.specs.Outcome.{tabled}

module _ (k : Recording) (rate : ℕ) where
  pub least-steps : lowest (least_faults k rate) ≡ first (judge_outcome k ∷ rate_check rate ∷ [])
  unfolding first
  least-steps = faults-after k (rate_check rate ∷ []) (test refusal.rate _ 0 tt none)

module _ (k : Recording) (rates : List ℕ) (at : ℕ) (l m : List ℕ) where
  abbrev rooms : List Judgement
  rooms = room_faults l m at (length rates)

  pub table-steps : lowest (table_faults k rates at l m) ≡ first (judge_outcome k ∷ lowest (rates_faults rates) ∷ lowest rooms ∷ [])
  unfolding first
  table-steps =
      faults-after k (rates_faults rates ++ rooms) (test refusal.rate _ 0 tt (list refusal.rate _ (length rates) tt (test refusal.room _ 0 tt (test refusal.room _ 0 tt none))))
      ∙ ap (or_else (judge_outcome k))
      (
      first-append (rates_faults rates) rooms
      ∙ ap₂ or_else (sym (lowest-first {n = refusal.rate} (test refusal.rate _ 0 tt (list refusal.rate _ (length rates) tt none))))
      (sym (lowest-first {n = refusal.room} (test refusal.room _ 0 tt (test refusal.room _ 0 tt none))) ∙ sym (last (lowest rooms)))
      )

  pub table-refused : (out : Result (Unit {0}) Refusal) (e : Refusal) → out ≡ Err e
      → judgement_of out ≡ first (judge_outcome k ∷ lowest (rates_faults rates) ∷ lowest rooms ∷ []) → tabled out l m ≡ table_outcome k rates at l m
  table-refused out e was says = let refuses = table-steps ∙ sym says ∙ ap judgement_of was in rw (was, refuses)

  module _ (rated : lowest (rates_faults rates) ≡ passed) (roomy : lowest rooms ≡ passed) where
    pub table-written : judge_outcome k ≡ passed → (buffers fullnesses : List ℕ)
        → buffers ≡ written (lent l at) 0 (map (least_buffer k) rates) → fullnesses ≡ written (lent m at) 0 (map (least_fullness k) rates)
        → tabled (Ok tt) (back l at buffers) (back m at fullnesses) ≡ table_outcome k rates at l m
    unfolding first
    table-written judged buffers fullnesses eb ef =
        rw (
          table-steps,
          judged,
          rated,
          roomy,
          written-back l at (map (least_buffer k) rates) buffers eb,
          written-back m at (map (least_fullness k) rates) fullnesses ef,
        )
