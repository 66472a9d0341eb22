-- What is handed in, in the definitions' terms.
--     recording_of   a recording
--     bucket_of      a bucket
-- Assumes nothing.
use Rattle.model.specs.Recording as recording
use Rattle.model.specs.Arrival as arrival
use Rattle.recording.specs.declared.Recording.{Recording}
use Rattle.recording.specs.declared.Bucket.{Bucket}

abbrev pub recording_of : Recording → recording.Recording
recording_of k = recording.recording k.sizes.now k.ticks.now k.ts k.nu

abbrev pub bucket_of : Bucket → arrival.Bucket
bucket_of u = arrival.bucket u.rate u.buffer u.fullness
