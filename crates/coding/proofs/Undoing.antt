-- Reading and writing a parameter record undo each other. Statements: specs/Undoing.antt.
--     written-is-read   what was written stands in the bytes, an accepted record's bits read as its values, and these make the record back
--     read-is-written   what was read passes and stands there as written, so writing it changes no byte
--     cut-is-short      the bits that are left read the same, or they end inside a field; the first they cannot, for the record ends past them
--     same-elsewhere    the same bits stand at the other position too
-- Assumes nothing.
use Prim.Native.Nat.{ℕ, ◌+◌, ◌-◌, ◌/◌, ◌%◌, ◌^◌, ◌≤◌, ◌<◌}
use native.Mathlib.Omega.{arith}
use mathlib.Core.Path.{◌≡◌, sym, ap, ◌∙◌}
use mathlib.Core.Logic.{◌↔◌, inl, inr}
use mathlib.Core.List.{List}
use lib.Dec.{ltb}
use lib.ListN.{length, take, length-take}
use lib.Seq.{get_or-take}
use borrow.Author.Tests.{ltb-false, le-ltb}
use Rattle.rules.specs.Refusals as refusal
use Rattle.terms.specs.Answers.{Answer, given, refused, passed, first}
use Rattle.coding.specs.Codes.{Bits, bits_of, Stands, put_bits}
use Rattle.coding.specs.Fields.{fields_of, FieldsRead, done, short, at_fault}
use Rattle.coding.specs.Params.{Params, values_of, params_from, zero_params, params_judged, params_bits, params_reading, read_answer, read_outcome, write_faults, bytes_if}
use Rattle.coding.specs.Undoing.{read_to, WrittenIsRead, ReadIsWritten, CutIsShort, SameElsewhere}
use Rattle.terms.proofs.AnswersLaws.{refuse_if-passed, answer-passed, first-passed}
use Rattle.coding.proofs.CodesLaws.{Binary, Longer}
use Rattle.coding.proofs.PutBitsLaws.{put_bits-stands, put_bits-same}
use Rattle.coding.proofs.FieldsLaws.{fields_bits-all, count-passed, params-back, params-sound, ShortOr, params-cut}
use Rattle.coding.proofs.BackLaws.{record-back}

refused-not-given : {n i next : ℕ} → ◌≡◌ {A = Answer ℕ} (refused n i) (given next) → ⊥
refused-not-given e = let z : ◌≡◌ {A = ℕ} 0 1 = cc in omega arith

-- the bits of bytes are 0 or 1
bits_of-binary : (bytes : List ℕ) → Binary (bits_of bytes)
bits_of-binary bytes i = omega arith

-- a reading that gives a record has read its values
read-done : (r : FieldsRead) (next : ℕ) (params : Params) → read_answer r ≡ read_to next params
    → (values : List ℕ) × (r ≡ done values next) × (params ≡ params_from values)
read-done (done values n) next params e =
    let g : ◌≡◌ {A = Answer ℕ} (given n) (given next) = ap (λ o. o.answer) e in
    (values, cc, sym (ap (λ o. o.params) e))
read-done (short p) next params e = absurd (refused-not-given (ap (λ o. o.answer) e))
read-done (at_fault p row) next params e = absurd (refused-not-given (ap (λ o. o.answer) e))

-- what a record that was read says of its bits
record Sound (bytes : List ℕ) (p next : ℕ) (params : Params) : Type 0 where
  judged : params_judged params ≡ passed
  back : params_from (values_of params) ≡ params
  stands : Stands (bits_of bytes) p (params_bits params)
  behind : next ≡ p + length (params_bits params)

read-sound : (params : Params) (bytes : List ℕ) (p next : ℕ) → read_outcome bytes p ≡ read_to next params → Sound bytes p next params
read-sound params bytes p next e =
    let (values, is, same) = read-done (params_reading (bits_of bytes) p) next params e in
    let (judged, back, stands, behind) = params-sound (bits_of bytes) p values next (bits_of-binary bytes) is in
    rw same (record { judged = judged; back = ap params_from back; stands = stands; behind = behind })

-- the bits of an accepted record read as its values
stands-read : (params : Params) (bytes : List ℕ) (p : ℕ) → params_judged params ≡ passed → Stands (bits_of bytes) p (params_bits params)
    → read_outcome bytes p ≡ read_to (p + length (params_bits params)) (params_from (values_of params))
stands-read params bytes p ok st = ap read_answer (params-back (bits_of bytes) params p ok st)

-- writing is not refused where the record passes and its bits have room
write-passed : (params : Params) (bytes : List ℕ) (p : ℕ)
    → (first (write_faults params bytes p) ≡ passed) ↔ ((params_judged params ≡ passed) × (p + length (params_bits params) ≤ (bits_of bytes).end))
write-passed params bytes p =
    let end : ℕ = (bits_of bytes).end in
    let behind : ℕ = p + length (params_bits params) in
    let all = first-passed (write_faults params bytes p) in
    let room = refuse_if-passed (ltb end behind) refusal.room 0 in (
      λ ok. let (judged, rest) = all.0 ok in (judged, ltb-false end behind (room.0 rest.0)),
      λ both. all.1 (both.0, (room.1 (le-ltb end behind both.1), tt)),
    )

-- bytes begin with the first n of them, and so do their bits
take-longer : (n : ℕ) (bytes : List ℕ) → Longer (bits_of bytes) (bits_of (take n bytes))
take-longer n bytes =
    record {
      end = omega (arith, length-take n bytes);
      same = λ q h. ap (λ byte. byte / 2 ^ (7 - q % 8) % 2) (sym (get_or-take n bytes (q / 8) 0 (omega (arith, length-take n bytes))));
    }

pub written-is-read : WrittenIsRead
written-is-read params bytes after p next e =
    let bits : List ℕ = params_bits params in
    let (ok, behind) = answer-passed (first (write_faults params bytes p)) (p + length bits) next (ap (λ o. o.answer) e) in
    let (judged, room) = (write-passed params bytes p).0 ok in
    let put : put_bits bytes p bits ≡ after = sym (ap (λ j. bytes_if j bytes p bits) ok) ∙ ap (λ o. o.bytes) e in
    let st : Stands (bits_of after) p bits = rw put at (put_bits-stands bytes p bits (fields_bits-all (fields_of params.cpb_cnt) (values_of params)) room) in
    let back : read_outcome after p ≡ read_to next (params_from (values_of params)) = rw (← behind) (stands-read params after p judged st) in
    let (some, few, _) = (count-passed params.cpb_cnt _).0 judged in
    (ap (λ o. o.answer) back, rw back (record-back params some few))

pub read-is-written : ReadIsWritten
read-is-written params bytes p next e =
    let bits : List ℕ = params_bits params in
    let s = read-sound params bytes p next e in
    let ok : first (write_faults params bytes p) ≡ passed = (write-passed params bytes p).1 (s.judged, s.stands.within) in
    rw (ok, s.behind, put_bits-same bytes p bits s.stands)

-- no record that ends past the bits is read from them
past-not-read : (x : Bits) (p : ℕ) (values : List ℕ) (next : ℕ) → Binary x → x.end < next → params_reading x p ≡ done values next → ⊥
past-not-read x p values next hb h e = let (_, _, stands, behind) = params-sound x p values next hb e in omega (arith, stands.within)

short-answer : {a b : FieldsRead} → ShortOr a b → (a ≡ b → ⊥) → read_answer a ≡ record { answer = refused refusal.short 0; params = zero_params }
short-answer (inl (q, e)) other = ap read_answer e
short-answer (inr e) other = absurd (other e)

pub cut-is-short : CutIsShort
cut-is-short params bytes p next n e h =
    let x = bits_of bytes in
    let y = bits_of (take n bytes) in
    let (values, is, _) = read-done (params_reading x p) next params e in
    let hb = bits_of-binary (take n bytes) in
    short-answer (params-cut x y p hb (take-longer n bytes)) (λ same. past-not-read y p values next hb (omega (arith, length-take n bytes)) (same ∙ is))

pub same-elsewhere : SameElsewhere
same-elsewhere params bytes other p q m e room same =
    let s = read-sound params bytes p (p + m) e in
    let len : m ≡ length (params_bits params) = omega (arith, s.behind) in
    let st : Stands (bits_of other) q (params_bits params) = record { within = omega arith; same = λ i h. same i (omega arith) ∙ s.stands.same i h } in
    stands-read params other q s.judged st ∙ rw (← len, s.back)
