-- The version of the library, and what the export on it promises, cited by its `ensures`.
--     version           0.2.0: major x 10000 + minor x 100 + patch
--     ExportedVersion   planner_version
-- Assumes nothing.
use Rattle.std.specs.Prelude.{ℕ, ◌≡◌}

abbrev pub version : ℕ
version = 200

abbrev pub ExportedVersion : ℕ → Type 0
ExportedVersion r = r ≡ version
