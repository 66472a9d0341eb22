-- Two answers that a promise allows are equal. Promises: specs/Promises.antt.
--     took_of-one, read_of-one        no two values say the same
--     timed_of-one, reading_of-one    no two answers say the same
--     seconds-unique, panel-unique
-- Assumes nothing.
use mathlib.Core.Path.{◌≡◌, sym, ap, ◌∙◌}
use lib.Ieee.{Float}
use Rattle.std.specs.Prelude.{Result}
use Rattle.model.specs.Arrival.{Bucket}
use Rattle.model.specs.Panel as panel
use Rattle.judgement.specs.declared.Refusal.{Refusal}
use Rattle.judgement.proofs.Unique.{answer_by-one}
use Rattle.panel.specs.Outcome.{took_of, timed_of, read_of, reading_of}
use Rattle.panel.specs.Promises.{SecondsPromise, PanelPromise}
use Rattle.panel.specs.declared.Seconds.{Seconds}
use Rattle.panel.specs.declared.Reading.{Reading}
use Rattle.panel.specs.declared.Reading.TheVariants as reading

took_of-one : (v w : Seconds) → took_of v ≡ took_of w → v ≡ w
took_of-one v w e = ap (λ (s : panel.Seconds). record { wait = s.wait; fill = s.fill }) e

timed_of-one : (v w : Result Seconds Refusal) → timed_of v ≡ timed_of w → v ≡ w
timed_of-one = answer_by-one took_of took_of-one

read_of-one : (v w : Reading) → read_of v ≡ read_of w → v ≡ w
read_of-one (reading.Within x) (reading.Within x') e = cc
read_of-one (reading.Within x) (reading.Over x' y') e = cc
read_of-one (reading.Over x y) (reading.Within x') e = cc
read_of-one (reading.Over x y) (reading.Over x' y') e = cc

reading_of-one : (v w : Result Reading Refusal) → reading_of v ≡ reading_of w → v ≡ w
reading_of-one = answer_by-one read_of read_of-one

pub seconds-unique : (u : Bucket) (v w : Result Seconds Refusal) → SecondsPromise u v → SecondsPromise u w → v ≡ w
seconds-unique u v w p q = timed_of-one v w (p ∙ sym q)

pub panel-unique : (u : Bucket) (limit : Float) (v w : Result Reading Refusal) → PanelPromise u limit v → PanelPromise u limit w → v ≡ w
panel-unique u limit v w p q = reading_of-one v w (p ∙ sym q)
