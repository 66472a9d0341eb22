-- `params_write::write_params` meets its contract: a refusal is the record's judgement or that of the room, and otherwise the bytes are those that
-- `write_fields` gives. Assumes nothing.
use Prim.Native.Nat.{ℕ, ◌+◌, ◌≤◌, ◌<◌}
use native.Mathlib.Omega.{arith}
use mathlib.Core.Path.{◌≡◌, refl, sym, ap, ◌∙◌}
use mathlib.Core.List.{List, []}
use lib.ListN.{length}
use borrow.Author.Tests.{lt-ltb, le-ltb}
use Rattle.std.specs.Prelude.{Ok, Err}
use Rattle.rules.specs.Refusals as refusal
use Rattle.terms.specs.Answers.{refused, passed, first}
use Rattle.terms.proofs.AnswersLaws.{test-false, test-true, skip, here, first-passed}
use Rattle.coding.specs.Codes.{bits_of, put_bits}
use Rattle.coding.specs.Params.{Params, params_judged, params_bits, write_faults, write_outcome}
use Rattle.judgement.specs.Outcome.{number_of, place_of}
use Rattle.judgement.specs.declared.Refusal.{Refusal}
use Rattle.judgement.specs.declared.Refusal.TheVariants.{Room}
use Rattle.judgement.proofs.Steps.{stopped}
use Rattle.params.specs.Outcome.{params_of}
use Rattle.params_write.specs.Outcome.{params_written}
use Rattle.params_write.proofs.write_params.Goals.{then-end-start-via-then-end-start, then-end-start-via-else-end-start+then-end-start-2}
use Rattle.params_write.proofs.write_params.Goals as goal

module _ (p : Params) (bytes : List ℕ) (start : ℕ) where
  -- the bytes of a refusal stay
  stays : (e : Refusal) → first (write_faults p bytes start) ≡ refused (number_of e) (place_of e) → params_written (Err e) bytes ≡ write_outcome p bytes start
  stays e says = rw says refl

  fault : (e : Refusal) → refused (number_of e) (place_of e) ≡ params_judged p → params_written (Err e) bytes ≡ write_outcome p bytes start
  fault e says = stays e (here _ (sym says))

  module _ (judged : params_judged p ≡ passed) (bits : ℕ) (long : bits ≡ length (params_bits p)) where
    short : (bits_of bytes).end < start + bits → params_written (Err Room) bytes ≡ write_outcome p bytes start
    short h = stays Room (skip _ judged ∙ here [] (test-true refusal.room 0 (rw long at (lt-ltb _ _ h))))

    done : start + bits ≤ (bits_of bytes).end → (q : ℕ) (after : List ℕ) → (q ≡ start + length (params_bits p)) × (after ≡ put_bits bytes start (params_bits p))
        → params_written (Ok q) after ≡ write_outcome p bytes start
    done h q after (next, put) =
        let e : first (write_faults p bytes start) ≡ passed =
        (first-passed (write_faults p bytes start)).1 (judged, (test-false refusal.room 0 (rw long at (le-ltb _ _ h)), tt)) in
        rw (e, next, put) refl

pub returns-in_err-judged : goal.returns-in_err-judged
returns-in_err-judged c =
    ap (λ r. params_written r c.args.bytes.now) (stopped _ _ c.from_residual.ensures.1)
    ∙ fault (params_of c.args.params) c.args.bytes.now c.args.start _ c.in_err-judged.ensures.judges

pub returns-then-end-start : goal.returns-then-end-start
returns-then-end-start c =
    short (params_of c.args.params) c.args.bytes.now c.args.start (sym c.in_ok-judged.ensures.judges) _ (rw c.in_ok-judged.ensures.same at c.length-bits.ensures)
    (elim c.then-end-start.branch [
      | then-end-start-via-then-end-start w ↦ omega arith
      | then-end-start-via-else-end-start+then-end-start-2 w ↦ omega arith
    ])

pub returns : goal.returns
returns c =
    done (params_of c.args.params) c.args.bytes.now c.args.start (sym c.in_ok-judged.ensures.judges) _ (rw c.in_ok-judged.ensures.same at c.length-bits.ensures)
    (omega arith) _ _ (rw c.in_ok-judged.ensures.same at c.write.ensures)
