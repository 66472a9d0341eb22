-- The starred cases of document 01, "Worked figures", computed together from the definitions: one list with one claim.
--     computed   those of recordings, and then those of parameter bits: the document's order
--     expected   what the document says of each
--     starred    they are equal
-- The cases: model/proofs/Cases.antt, coding/proofs/Cases.antt. Assumes nothing.
use mathlib.Core.Path.{◌≡◌, ap₂}
use mathlib.Core.Logic.{◌⊎◌, inl, inr}
use mathlib.Core.List.{List, ◌++◌, map}
use Rattle.model.proofs.Cases as recordings
use Rattle.coding.proofs.Cases as bits

-- the cases of recordings, and behind them those of bits
abbrev both : List recordings.Figure → List bits.Figure → List (recordings.Figure ⊎ bits.Figure)
both l m = map inl l ++ map inr m

pub computed : List (recordings.Figure ⊎ bits.Figure)
computed = both recordings.computed bits.computed

pub expected : List (recordings.Figure ⊎ bits.Figure)
expected = both recordings.expected bits.expected

pub starred : computed ≡ expected
unfolding computed expected
starred = ap₂ both recordings.starred bits.starred
