-- What the exports on seconds and the panel promise of their structs, cited by their `ensures`.
--     ExportedSeconds   planner_seconds
--     ExportedPanel     planner_panel
-- Assumes nothing.
use Rattle.std.specs.Prelude.{◌≡◌, Float}
use Rattle.model.specs.Arrival.{Bucket}
use Rattle.model.specs.Panel.{seconds_outcome, panel_outcome}
use Rattle.answers.specs.Seconds.{seconds_answer, reading_answer}
use Rattle.answers.specs.declared.seconds.PlannerSeconds.{PlannerSeconds}
use Rattle.answers.specs.declared.seconds.PlannerPanelReading.{PlannerPanelReading}

abbrev pub ExportedSeconds : Bucket → PlannerSeconds → Type 0
ExportedSeconds u r = r ≡ seconds_answer (seconds_outcome u)

abbrev pub ExportedPanel : Bucket → (limit : Float) → PlannerPanelReading → Type 0
ExportedPanel u limit r = r ≡ reading_answer (panel_outcome u limit)
