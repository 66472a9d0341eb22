-- What a promise of this crate allows is one answer.
--     needs_of-one   no two sums of needs say the same
--     least-one      the rate and both figures are the whole answer
-- Assumes nothing.
use mathlib.Core.Path.{◌≡◌, ap}
use Rattle.model.specs.Needs as needs
use Rattle.recording.specs.declared.Bucket.{Bucket}
use Rattle.needs.specs.Outcome.{needs_of}
use Rattle.needs.specs.declared.Needs.{Needs}

pub needs_of-one : (v w : Needs) → needs_of v ≡ needs_of w → v ≡ w
needs_of-one v w e =
    ap (λ (m : needs.Needs). record { total = m.total; level = m.level; buffer = m.buffer; fullness = m.fullness }) e

pub least-one : (v w : Bucket) → v.rate ≡ w.rate → v.buffer ≡ w.buffer → v.fullness ≡ w.fullness → v ≡ w
least-one v w r b f = λ i. record { rate = r i; buffer = b i; fullness = f i }
