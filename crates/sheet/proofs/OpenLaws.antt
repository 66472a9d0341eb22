-- The outcome of opening a sheet, from what is read and judged. Definitions: layout/specs/Sheet.antt, specs/Outcome.antt.
--     read                      what the check needs of words that were read, for `judge_lists`
--     header-stop               a step of a header's that refuses, behind those that pass, is the answer
--     header-there, header-few, header-rows    what the steps that pass say of a header
--     header-long, header-counted, header-rated, header-passed    and what is left to judge behind them
--     header-given, header-fits    a header that passes gives its counts and its clock, and the file is as long as it says
--     head-pictures, head-rates    which are the sheet's
--     recording-read, rates-read    a recording and rates that were read are those of the sheet
--     lists-stop, lists-last    so the recording, judged by itself, is the first of the sheet's lists to refuse, and the rates are the last
--     rooms                     the checks of the room in three lists
--     open-header, open-lists, open-rooms, open-room    what is refused: by the header, by the lists, and else by the room of three lists
--     head-judged               a header that is not refused passed, and says what the sheet's does
--     open-given                and where nothing is, its words stand at the front of the three lists
-- Assumes nothing.
use Prim.Native.Nat.{ℕ, ◌+◌, ◌*◌, ◌≤◌}
use mathlib.Core.Path.{◌≡◌, sym, ap, ◌∙◌}
use mathlib.Core.List.{List, [], ◌∷◌, ◌++◌}
use lib.Dec.{ltb}
use lib.ListN.{length, take}
use borrow.Author.Tests.{ltb-false}
use Rattle.std.specs.Prelude.{Result, Ok, Err}
use Rattle.std.specs.Result.{IsErrAnd}
use Rattle.rules.specs.Limits.{header_bytes, sheet_pictures_max, rows_max}
use Rattle.rules.specs.Refusals as refusal
use Rattle.terms.specs.Numbers.{written, outside}
use Rattle.terms.specs.Words.{words_at}
use Rattle.terms.specs.Answers.{Judgement, given, refused, passed, refuse_if, or_else, lowest, first, answer_with, room_check}
use Rattle.terms.proofs.NumbersLaws.{outside-false}
use Rattle.terms.proofs.AnswersLaws.{refuse_if-passed, skip, here, first-append, answer-passed, answer-refuses, none, test, lowest-first}
use Rattle.model.specs.Recording.{recording}
use Rattle.model.specs.Faults.{rate_list_check, room_faults}
use Rattle.model.specs.Outcomes.{judge_outcome}
use Rattle.layout.specs.Sheet as sheet
use Rattle.layout.specs.Sheet.{picture_count, rate_count, clock_scale, clock_units, sheet_rates, sheet_recording, misplaced, header_faults, list_faults, open_faults, open_outcome}
use Rattle.layout.proofs.SheetLaws.{header_faults-laid, list_faults-first}
use Rattle.words.proofs.FrontLaws.{words-front, words-fit}
use Rattle.judgement.specs.Outcome.{number_of, place_of, judgement_of}
use Rattle.judgement.specs.declared.Refusal.{Refusal}
use Rattle.judgement.proofs.Steps.{stopped, refuses, passes, stop, pass, stop-answer, last}
use Rattle.sheet.specs.declared.Head.{Head}
use Rattle.sheet.specs.Outcome.{HeadFits, head_of, opened_of, opened}

pub ruleset read = (words-fit)

pub header-stop : (bytes : List ℕ) (r : Result (Unit {0}) Refusal) (out : Result Head Refusal) (e : Refusal) {j : Judgement} (js : List Judgement)
    → first (header_faults bytes) ≡ first (j ∷ js) → judgement_of r ≡ j → r ≡ Err e → IsErrAnd out (λ y. y ≡ e)
    → opened_of out ≡ answer_with (first (header_faults bytes)) (sheet.head_of bytes)
header-stop bytes r out e js left says was back =
    stop-answer head_of r out e js (sheet.head_of bytes) says was back ∙ ap (λ j. answer_with j (sheet.head_of bytes)) (sym left)

-- the steps of a header that pass, one behind the other
module _ (bytes : List ℕ) (r₁ : Result (Unit {0}) Refusal) (x₁ : Unit {0})
    (long : judgement_of r₁ ≡ refuse_if (ltb (length bytes) header_bytes) refusal.sheet 0) (was₁ : r₁ ≡ Ok x₁) where
  pub header-there : header_bytes ≤ length bytes
  header-there = ltb-false _ _ ((refuse_if-passed _ refusal.sheet 0).0 (passes r₁ x₁ long was₁))

  pub header-long : first (header_faults bytes)
      ≡ first (refuse_if (outside 1 sheet_pictures_max (picture_count bytes)) refusal.pictures 0
      ∷ refuse_if (outside 1 rows_max (rate_count bytes)) refusal.rate 0
      ∷ refuse_if (misplaced bytes) refusal.sheet 0
      ∷ [])
  header-long = pass r₁ x₁ _ long was₁

  module _ (r₂ : Result (Unit {0}) Refusal) (x₂ : Unit {0})
      (counted : judgement_of r₂ ≡ refuse_if (outside 1 sheet_pictures_max (picture_count bytes)) refusal.pictures 0) (was₂ : r₂ ≡ Ok x₂) where
    pub header-few : picture_count bytes ≤ sheet_pictures_max
    header-few =
        ((outside-false 1 sheet_pictures_max (picture_count bytes)).0 ((refuse_if-passed _ refusal.pictures 0).0 (passes r₂ x₂ counted was₂))).1

    pub header-counted : first (header_faults bytes)
        ≡ first (refuse_if (outside 1 rows_max (rate_count bytes)) refusal.rate 0 ∷ refuse_if (misplaced bytes) refusal.sheet 0 ∷ [])
    header-counted = header-long ∙ pass r₂ x₂ _ counted was₂

    module _ (r₃ : Result (Unit {0}) Refusal) (x₃ : Unit {0})
        (rated : judgement_of r₃ ≡ refuse_if (outside 1 rows_max (rate_count bytes)) refusal.rate 0) (was₃ : r₃ ≡ Ok x₃) where
      pub header-rows : rate_count bytes ≤ rows_max
      header-rows = ((outside-false 1 rows_max (rate_count bytes)).0 ((refuse_if-passed _ refusal.rate 0).0 (passes r₃ x₃ rated was₃))).1

      pub header-rated : first (header_faults bytes) ≡ first (refuse_if (misplaced bytes) refusal.sheet 0 ∷ [])
      header-rated = header-counted ∙ pass r₃ x₃ _ rated was₃

      pub header-passed : (r₄ : Result (Unit {0}) Refusal) (x₄ : Unit {0}) → judgement_of r₄ ≡ refuse_if (misplaced bytes) refusal.sheet 0 → r₄ ≡ Ok x₄
          → first (header_faults bytes) ≡ passed
      header-passed r₄ x₄ placed was₄ = header-rated ∙ last _ ∙ passes r₄ x₄ placed was₄

-- a header that passes, by what was read of it
module _ (bytes : List ℕ) (n m ts nu : ℕ) (pictures : n ≡ picture_count bytes) (rates : m ≡ rate_count bytes) (ok : first (header_faults bytes) ≡ passed) where
  pub header-given : ts ≡ clock_scale bytes → nu ≡ clock_units bytes
      → given (record { pictures = n; rates = m; ts = ts; nu = nu }) ≡ answer_with (first (header_faults bytes)) (sheet.head_of bytes)
  header-given scale units = rw (ok, pictures, rates, scale, units)

  pub header-fits : HeadFits bytes (record { pictures = n; rates = m; ts = ts; nu = nu })
  header-fits = let l = (header_faults-laid bytes).0 ok in rw (pictures, rates) (l.whole, l.few, l.rows)

-- a header that was judged, and what it says
module _ (bytes : List ℕ) (head : Head) (said : head_of head ≡ sheet.head_of bytes) where
  pub head-pictures : head.pictures ≡ picture_count bytes
  head-pictures = ap (λ h. h.pictures) said

  pub head-rates : head.rates ≡ rate_count bytes
  head-rates = ap (λ h. h.rates) said

  pub recording-read : (l₀ l m₀ m : List ℕ) → l ≡ written l₀ 0 (words_at bytes header_bytes head.pictures)
      → m ≡ written m₀ 0 (words_at bytes (header_bytes + 4 * head.pictures) head.pictures)
      → recording (take head.pictures l) (take head.pictures m) head.ts head.nu ≡ sheet_recording bytes
  recording-read l₀ l m₀ m el em =
      let ts : head.ts ≡ clock_scale bytes = ap (λ h. h.ts) said in
      let nu : head.nu ≡ clock_units bytes = ap (λ h. h.nu) said in
      rw (words-front bytes _ _ l₀ l el, words-front bytes _ _ m₀ m em, head-pictures, ts, nu)

  pub rates-read : (r₀ r : List ℕ) → r ≡ written r₀ 0 (words_at bytes (header_bytes + 8 * head.pictures) head.rates) → take head.rates r ≡ sheet_rates bytes
  rates-read r₀ r e = rw (words-front bytes _ _ r₀ r e, head-pictures, head-rates)

  -- the recording that was read, judged
  module _ (l₀ l m₀ m : List ℕ) (el : l ≡ written l₀ 0 (words_at bytes header_bytes head.pictures))
      (em : m ≡ written m₀ 0 (words_at bytes (header_bytes + 4 * head.pictures) head.pictures)) (a : Result (Unit {0}) Refusal)
      (judged : judgement_of a ≡ judge_outcome (recording (take head.pictures l) (take head.pictures m) head.ts head.nu)) where
    same : judgement_of a ≡ judge_outcome (sheet_recording bytes)
    same = judged ∙ ap judge_outcome (recording-read l₀ l m₀ m el em)

    lists-first : lowest (list_faults bytes) ≡ first (judge_outcome (sheet_recording bytes) ∷ rate_list_check (sheet_rates bytes) ∷ [])
    unfolding first
    lists-first = list_faults-first bytes

    pub lists-stop : (out : Result (Unit {0}) Refusal) (e : Refusal) → a ≡ Err e → IsErrAnd out (λ y. y ≡ e) → judgement_of out ≡ lowest (list_faults bytes)
    lists-stop out e was back = stop a out e _ same was back ∙ sym lists-first

    pub lists-last : (x : Unit {0}) → a ≡ Ok x → (r₀ r : List ℕ) → r ≡ written r₀ 0 (words_at bytes (header_bytes + 8 * head.pictures) head.rates)
        → {j : Judgement} → j ≡ rate_list_check (take head.rates r) → j ≡ lowest (list_faults bytes)
    lists-last x was r₀ r er listed =
        listed ∙ ap rate_list_check (rates-read r₀ r er) ∙ sym (lists-first ∙ pass a x _ same was ∙ last _)

module _ (bytes l m r : List ℕ) where
  -- the checks of the room in the three lists
  abbrev pub rooms : List Judgement
  rooms = room_faults l m 0 (picture_count bytes) ++ (room_check r 0 (rate_count bytes) ∷ [])

  rooms-first : first rooms ≡ first (lowest (room_faults l m 0 (picture_count bytes)) ∷ room_check r 0 (rate_count bytes) ∷ [])
  unfolding first
  rooms-first =
      first-append (room_faults l m 0 (picture_count bytes)) (room_check r 0 (rate_count bytes) ∷ [])
      ∙ ap (λ j. or_else j (first (room_check r 0 (rate_count bytes) ∷ []))) (sym (lowest-first {n = refusal.room} (test refusal.room _ 0 tt (test refusal.room _ 0 tt none))))

  open-first : first (open_faults bytes l m r)
      ≡ first (first (header_faults bytes) ∷ lowest (list_faults bytes) ∷ lowest (room_faults l m 0 (picture_count bytes)) ∷ room_check r 0 (rate_count bytes) ∷ [])
  unfolding first
  open-first =
      first-append (header_faults bytes) (lowest (list_faults bytes) ∷ rooms)
      ∙ ap (λ j. or_else (first (header_faults bytes)) (or_else (lowest (list_faults bytes)) j)) rooms-first

  open-stop : (out : Result Head Refusal) (e : Refusal) → first (open_faults bytes l m r) ≡ refused (number_of e) (place_of e) → IsErrAnd out (λ y. y ≡ e)
      → opened out l m r ≡ open_outcome bytes l m r
  open-stop out e fault back = ap (λ o. opened o l m r) (stopped out e back) ∙ rw fault

  -- the header, judged
  module _ (h : Result Head Refusal) (judged : opened_of h ≡ answer_with (first (header_faults bytes)) (sheet.head_of bytes)) where
    pub open-header : (out : Result Head Refusal) (e : Refusal) → h ≡ Err e → IsErrAnd out (λ y. y ≡ e) → opened out l m r ≡ open_outcome bytes l m r
    open-header out e was back =
        open-stop out e (open-first ∙ here _ (answer-refuses (first (header_faults bytes)) (sheet.head_of bytes) _ _ (sym judged ∙ ap opened_of was))) back

    module _ (head : Head) (was : h ≡ Ok head) where
      pub head-judged : (first (header_faults bytes) ≡ passed) × (head_of head ≡ sheet.head_of bytes)
      head-judged =
          let (ok, said) = answer-passed (first (header_faults bytes)) (sheet.head_of bytes) (head_of head) (sym judged ∙ ap opened_of was) in
          (ok, sym said)

      -- then its lists
      module _ (r₁ : Result (Unit {0}) Refusal) (listed : judgement_of r₁ ≡ lowest (list_faults bytes)) where
        left₁ : first (open_faults bytes l m r)
            ≡ first (lowest (list_faults bytes) ∷ lowest (room_faults l m 0 (picture_count bytes)) ∷ room_check r 0 (rate_count bytes) ∷ [])
        left₁ = open-first ∙ skip _ head-judged.0

        pub open-lists : (out : Result Head Refusal) (e : Refusal) → r₁ ≡ Err e → IsErrAnd out (λ y. y ≡ e) → opened out l m r ≡ open_outcome bytes l m r
        open-lists out e was₁ back = open-stop out e (left₁ ∙ here _ (refuses r₁ e listed was₁)) back

        -- then the room for its sizes and ticks
        module _ (x₁ : Unit {0}) (was₁ : r₁ ≡ Ok x₁) (r₂ : Result (Unit {0}) Refusal) (paired : judgement_of r₂ ≡ lowest (room_faults l m 0 head.pictures)) where
          left₂ : first (open_faults bytes l m r) ≡ first (lowest (room_faults l m 0 (picture_count bytes)) ∷ room_check r 0 (rate_count bytes) ∷ [])
          left₂ = left₁ ∙ pass r₁ x₁ _ listed was₁

          says₂ : judgement_of r₂ ≡ lowest (room_faults l m 0 (picture_count bytes))
          says₂ = paired ∙ ap (λ n. lowest (room_faults l m 0 n)) (head-pictures bytes head head-judged.1)

          pub open-rooms : (out : Result Head Refusal) (e : Refusal) → r₂ ≡ Err e → IsErrAnd out (λ y. y ≡ e) → opened out l m r ≡ open_outcome bytes l m r
          open-rooms out e was₂ back = open-stop out e (left₂ ∙ here _ (refuses r₂ e says₂ was₂)) back

          -- then the room for its rates
          module _ (x₂ : Unit {0}) (was₂ : r₂ ≡ Ok x₂) (r₃ : Result (Unit {0}) Refusal) (rated : judgement_of r₃ ≡ room_check r 0 head.rates) where
            left₃ : first (open_faults bytes l m r) ≡ room_check r 0 (rate_count bytes)
            left₃ = left₂ ∙ pass r₂ x₂ _ says₂ was₂ ∙ last _

            says₃ : judgement_of r₃ ≡ room_check r 0 (rate_count bytes)
            says₃ = rated ∙ ap (room_check r 0) (head-rates bytes head head-judged.1)

            pub open-room : (out : Result Head Refusal) (e : Refusal) → r₃ ≡ Err e → IsErrAnd out (λ y. y ≡ e) → opened out l m r ≡ open_outcome bytes l m r
            open-room out e was₃ back = open-stop out e (left₃ ∙ refuses r₃ e says₃ was₃) back

            module _ (x₃ : Unit {0}) (was₃ : r₃ ≡ Ok x₃) where
              pub open-given : (sizes ticks rates : List ℕ)
                  → sizes ≡ written l 0 (words_at bytes header_bytes head.pictures)
                  → ticks ≡ written m 0 (words_at bytes (header_bytes + 4 * head.pictures) head.pictures)
                  → rates ≡ written r 0 (words_at bytes (header_bytes + 8 * head.pictures) head.rates)
                  → opened (Ok head) sizes ticks rates ≡ open_outcome bytes l m r
              open-given sizes ticks rates es et er =
                  let (_, said) = head-judged in
                  rw (left₃ ∙ passes r₃ x₃ says₃ was₃, es, et, er, said, head-pictures bytes head said, head-rates bytes head said)
