-- What this crate's operations promise of their answers, cited by their `ensures`.
--     SecondsPromise   seconds_of
--     PanelPromise     panel
-- Assumes nothing.
use Rattle.std.specs.Prelude.{◌≡◌, Float, Result}
use Rattle.model.specs.Arrival.{Bucket}
use Rattle.model.specs.Panel.{seconds_outcome, panel_outcome}
use Rattle.judgement.specs.declared.Refusal.{Refusal}
use Rattle.panel.specs.Outcome.{timed_of, reading_of}
use Rattle.panel.specs.declared.Seconds.{Seconds}
use Rattle.panel.specs.declared.Reading.{Reading}

abbrev pub SecondsPromise : Bucket → Result Seconds Refusal → Type 0
SecondsPromise u r = timed_of r ≡ seconds_outcome u

abbrev pub PanelPromise : Bucket → (limit : Float) → Result Reading Refusal → Type 0
PanelPromise u limit r = reading_of r ≡ panel_outcome u limit
