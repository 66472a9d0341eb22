-- What this crate's answer says.
--     seen_of    the first late picture so far, as a verdict
-- Assumes nothing.
use Rattle.std.specs.Prelude.{Option, None, Some}
use Rattle.model.specs.Arrival.{Verdict, holds, late}
use Rattle.arrivals.specs.declared.Late.{Late}

abbrev pub seen_of : Option Late → Verdict
seen_of None = holds
seen_of (Some l) = late l.picture l.units
