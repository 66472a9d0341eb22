-- Two answers that the promise allows are equal. Promise: specs/Promises.antt.
--     found_of-one      no two answers say the same
--     lookup-unique
-- Assumes nothing.
use Prim.Native.Nat.{ℕ}
use mathlib.Core.Path.{◌≡◌, sym, ◌∙◌}
use Rattle.std.specs.Prelude.{Result}
use Rattle.model.specs.Lookup.{Table}
use Rattle.judgement.specs.declared.Refusal.{Refusal}
use Rattle.judgement.proofs.Unique.{answer_by-one}
use Rattle.recording.specs.Given.{bucket_of}
use Rattle.recording.specs.declared.Bucket.{Bucket}
use Rattle.recording.proofs.Unique.{bucket_of-one}
use Rattle.lookup.specs.Outcome.{found_of}
use Rattle.lookup.specs.Promises.{LookupPromise}

pub found_of-one : (v w : Result Bucket Refusal) → found_of v ≡ found_of w → v ≡ w
found_of-one = answer_by-one bucket_of bucket_of-one

pub lookup-unique : (t : Table) (rate : ℕ) (v w : Result Bucket Refusal) → LookupPromise t rate v → LookupPromise t rate w → v ≡ w
lookup-unique t rate v w p q = found_of-one v w (p ∙ sym q)
