-- Demand 2, "each undoes the other", about what the planner's own reader and writer answer. Statements: specs/Demand2.antt; over the
-- definitions: coding/proofs/Undoing.antt.
--     demand2-written   what was written is read again
--     demand2-read      what was read is written again
--     demand2-length    what was written is as long as was answered
-- Assumes nothing.
use Prim.Native.Nat.{ℕ, ◌+◌}
use native.Mathlib.Omega.{arith}
use mathlib.Core.Path.{◌≡◌, refl, sym, ap, ◌∙◌}
use lib.ListN.{length}
use Rattle.std.specs.Prelude.{Result, Ok, Err}
use Rattle.terms.specs.Answers.{given, first}
use Rattle.terms.proofs.AnswersLaws.{answer-passed}
use Rattle.coding.specs.Params.{ParamsRead, ParamsWritten, params_judged, params_bits, write_faults}
use Rattle.coding.proofs.Undoing.{written-is-read, read-is-written}
use Rattle.judgement.specs.declared.Refusal.{Refusal}
use Rattle.judgement.proofs.Unique.{answer_by-one}
use Rattle.params.specs.Outcome.{params_of}
use Rattle.params.specs.declared.Params.{Params}
use Rattle.params_read.specs.Outcome.{params_read_of}
use Rattle.params_read.specs.declared.ParamsRead as code
use Rattle.demands.specs.Demand2.{Demand2Written, Demand2Read, Demand2Length}

-- a record that was read to a position
read-to : (r : Result code.ParamsRead Refusal) (next : ℕ) → (params_read_of r).answer ≡ given next
    → (back : Params) × (r ≡ Ok (record { next = next; params = back }))
read-to (Ok read) next e = let same : read.next ≡ next = cc in (read.params, rw (← same) refl)
read-to (Err r) next e = let z : ◌≡◌ {A = ℕ} 0 1 = cc in absurd (omega arith)

pub demand2-written : Demand2Written
demand2-written params bytes after start next r wrote read =
    let (given-next, same) = written-is-read (params_of params) bytes after start next (sym wrote) in
    let (back, is) = read-to r next (ap (λ (o : ParamsRead). o.answer) read ∙ given-next) in
    (back, is, rw (← ap (λ (o : ParamsRead). o.params) (sym (ap params_read_of is) ∙ read)) at same)

pub demand2-read : Demand2Read
demand2-read bytes after start r w read wrote =
    let was = read-is-written (params_of r.params) bytes start r.next (sym read) in
    let same = wrote ∙ was in
    (answer_by-one (λ n. n) (λ x y e. e) w (Ok r.next) (ap (λ (o : ParamsWritten). o.answer) same), ap (λ (o : ParamsWritten). o.bytes) same)

pub demand2-length : Demand2Length
demand2-length params bytes after start next n wrote measured =
    let p = params_of params in
    let bits = length (params_bits p) in
    let (_, count) = answer-passed (params_judged p) bits n (sym measured) in
    let (_, end) = answer-passed (first (write_faults p bytes start)) (start + bits) next (sym (ap (λ (o : ParamsWritten). o.answer) wrote)) in
    sym end ∙ ap (λ k. start + k) count
