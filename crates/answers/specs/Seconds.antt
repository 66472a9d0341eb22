-- Seconds and panel readings as the plain structs that C and Rust see: a refusal has its number and place, and all figures 0.
--     seconds_answer   wait and fill time
--     reading_answer   within or over the panel's limit
-- Assumes nothing.
use Rattle.rules.specs.Kinds as kind
use Rattle.terms.specs.Answers.{Answer, given, refused}
use Rattle.model.specs.Panel.{Seconds, Reading, within, over, zero_seconds}
use Rattle.answers.specs.declared.seconds.PlannerSeconds.{PlannerSeconds}
use Rattle.answers.specs.declared.seconds.PlannerPanelReading.{PlannerPanelReading}

abbrev pub seconds_answer : Answer Seconds → PlannerSeconds
seconds_answer (given s) = record { kind = kind.given; number = 0; place = 0; wait = s.wait; fill = s.fill }
seconds_answer (refused n i) = record { kind = kind.refused; number = n; place = i; wait = zero_seconds; fill = zero_seconds }

abbrev pub reading_on : Reading → PlannerPanelReading
reading_on (within wait) = record { kind = kind.within; number = 0; place = 0; wait = wait; limit = zero_seconds }
reading_on (over wait limit) = record { kind = kind.over; number = 0; place = 0; wait = wait; limit = limit }

abbrev pub reading_answer : Answer Reading → PlannerPanelReading
reading_answer (given r) = reading_on r
reading_answer (refused n i) = record { kind = kind.refused; number = n; place = i; wait = zero_seconds; limit = zero_seconds }
