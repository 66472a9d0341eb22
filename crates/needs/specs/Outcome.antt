-- What this crate's answer says.
--     needs_of    what the pictures so far need
-- Assumes nothing.
use Rattle.model.specs.Needs as needs
use Rattle.needs.specs.declared.Needs.{Needs}

abbrev pub needs_of : Needs → needs.Needs
needs_of m = record { total = m.total; level = m.level; buffer = m.buffer; fullness = m.fullness }
