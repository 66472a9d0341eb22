-- What a promise on `bucket_of` allows is one bucket.
--     bucket_of-one    no two buckets say the same
-- Assumes nothing.
use mathlib.Core.Path.{◌≡◌, ap}
use Rattle.model.specs.Arrival as arrival
use Rattle.recording.specs.Given.{bucket_of}
use Rattle.recording.specs.declared.Bucket.{Bucket}

pub bucket_of-one : (v w : Bucket) → bucket_of v ≡ bucket_of w → v ≡ w
bucket_of-one v w e = ap (λ (u : arrival.Bucket). record { rate = u.rate; buffer = u.buffer; fullness = u.fullness }) e
