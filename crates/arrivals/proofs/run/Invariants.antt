-- `arrivals::run` meets its contract. The loop's invariant: the line is free from the last end on, what was seen is the verdict on the pictures
-- passed, and both lists are filled with their starts and ends. Assumes nothing.
use Rattle.model.specs.Arrival.{arrival_start, arrival_end}
use Rattle.terms.proofs.FilledLaws.{Filled}
use Rattle.recording.specs.Given.{recording_of, bucket_of}
use Rattle.arrivals.proofs.RunLaws.{Running}
use Rattle.arrivals.proofs.run.Given as goal

abbrev pub invariant-loop-i : goal.invariant-loop-i
invariant-loop-i l =
    let k = recording_of l.fn.judged.recording in
    let u = bucket_of l.fn.judged_bucket.bucket in
    Running k u l.free l.seen l.i
    × Filled (arrival_start k u) l.initial.starts l.starts l.i
    × Filled (arrival_end k u) l.initial.ends l.ends l.i
