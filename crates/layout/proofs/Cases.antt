-- The printed table of document 01, "The sheet and the printed table", computed from the definitions.
--     sheet_bytes       a recording and its rates as a sheet
--     printed           a sheet of recording D prints the table there
--     printed-figures   one of E prints its buffer before its start
--     printed-refusal   and one whose tick 3 does not rise the refusal line
-- Definitions: specs/. Assumes nothing.
use Prim.Native.Nat.{ℕ, ◌+◌, ◌*◌}
use mathlib.Core.Path.{◌≡◌, refl}
use mathlib.Core.List.{List, [], ◌∷◌, ◌++◌}
use lib.ListN.{length}
use Rattle.terms.specs.Numbers.{largest, list_of}
use Rattle.terms.specs.Words.{word_bytes}
use Rattle.terms.specs.Answers.{refuse_if, first_fault, lowest, first}
use Rattle.model.specs.Recording.{Recording, recording, pictures}
use Rattle.model.specs.Least.{bits_before}
use Rattle.model.proofs.Cases.{recording_d, recording_e}
use Rattle.layout.specs.Text.{letters, digits, row_lines}
use Rattle.layout.specs.Sheet.{sheet_text}

words : List ℕ → List ℕ
words [] = []
words (x ∷ more) = word_bytes x ++ words more

-- a recording and its rates as a sheet
pub sheet_bytes : Recording → (rates : List ℕ) → List ℕ
unfolding words
sheet_bytes k rates =
    let n : ℕ = pictures k in
    words (n ∷ 28 ∷ (28 + 4 * n) ∷ length rates ∷ (28 + 8 * n) ∷ k.ts ∷ k.nu ∷ k.sizes ++ (k.ticks ++ rates))

pub printed : sheet_text (sheet_bytes recording_d (250 ∷ 500 ∷ 1000 ∷ [])) ≡ letters "rate buffer start\n250 10250 10250\n500 7500 7500\n1000 5000 5000\n"
unfolding sheet_bytes recording_d largest list_of bits_before refuse_if first_fault lowest first digits row_lines letters
printed = refl

pub printed-figures : sheet_text (sheet_bytes recording_e (300 ∷ [])) ≡ letters "rate buffer start\n300 900 500\n"
unfolding sheet_bytes recording_e largest list_of bits_before refuse_if first_fault lowest first digits row_lines letters
printed-figures = refl

pub printed-refusal : sheet_text (sheet_bytes (recording (1 ∷ 1 ∷ 1 ∷ 1 ∷ []) (0 ∷ 1 ∷ 2 ∷ 2 ∷ []) 1 1) (250 ∷ [])) ≡ letters "refused 5 at 3\n"
unfolding sheet_bytes list_of refuse_if first_fault lowest first digits letters
printed-refusal = refl
