-- What the promise on a run settles of what it saw, beside the lists.
--     seen_of-one    the first late picture and its units, or that none is
-- Assumes nothing.
use mathlib.Core.Path.{◌≡◌, refl, ap}
use Rattle.std.specs.Prelude.{Option, None, Some}
use Rattle.model.specs.Arrival.{Verdict, holds, late}
use Rattle.arrivals.specs.Seen.{seen_of}
use Rattle.arrivals.specs.declared.Late.{Late}

late_in : Verdict → Late
late_in holds = record { picture = 0; units = 0 }
late_in (late picture units) = record { picture = picture; units = units }

pub seen_of-one : (v w : Option Late) → seen_of v ≡ seen_of w → v ≡ w
unfolding late_in
seen_of-one None None e = refl
seen_of-one None (Some l) e = cc
seen_of-one (Some l) None e = cc
seen_of-one (Some l) (Some m) e = ap Some (ap late_in e)
