-- What is true of the lines of a table put one behind the other. Definitions: layout/specs/Text.antt, specs/Put.antt.
--     row          the line of rate i
--     Begun        the lines of the first i rates are put
--     begun-none   at first none is
--     begun-room   the next line has room
--     begun-more   and when it is put, so are the lines of i + 1 rates
--     begun-all    with no rate left, all lines are put
--     row-turn     a loop over the three lists side by side passes rate i with what stands beside it
--     row-end      and ends behind the last rate
-- Assumes nothing.
use Prim.Native.Nat.{ℕ, suc, ◌+◌, ◌≤◌, ◌<◌, zero-le}
use native.Mathlib.Nat.{le_antisymm}
use native.Mathlib.Numerals.{add-one}
use native.Mathlib.Omega.{arith}
use mathlib.Core.Path.{◌≡◌, refl, sym, ap, ◌∙◌}
use mathlib.Core.List.{List, ◌++◌}
use lib.ListN.{length, get_or}
use Rattle.std.proofs.Common.{Option, Some, None, Iter, Bor}
use Rattle.std.proofs.iter.Yields.{fronts}
use Rattle.std.proofs.lemmas.Iterator.{zips, YieldsList, YieldsList-from_slice, YieldsList-from_zip}
use Rattle.std.proofs.lemmas.Iterator.Consumers.{YieldsList-turn, YieldsList-end}
use Rattle.std.proofs.lemmas.List.{get_or_read}
use Rattle.std.proofs.lemmas.Slice.Zip.{length-zip, get_or-zip}
use Rattle.std.specs.Iterator.{Yields}
use Rattle.std.specs.Iterator.Adapters.{zip_first, zip_second}
use Rattle.std.specs.List.{zip}
use Rattle.std.specs.Slice.Iter.{iter_rest}
use Rattle.std.specs.declared.iter.Zip.{Zip}
use Rattle.layout.specs.Text.{row_line, row_lines}
use Rattle.layout.proofs.TextLaws.{row_lines-mono}
use Rattle.text.specs.Put.{Room, Put}
use Rattle.text.proofs.PutLaws.{put-none, room-then, put-then}

module _ (rates buffers fullnesses : List ℕ) where
  -- the line of rate i
  abbrev pub row : ℕ → List ℕ
  row i = row_line (get_or rates i 0) (get_or buffers i 0) (get_or fullnesses i 0)

  -- the list l has become l', with the lines of the first i rates from entry at on
  pub record Begun (l : List ℕ) (at : ℕ) (l' : List ℕ) (m i : ℕ) : Type 0 where
    pub room : Room l at (row_lines rates buffers fullnesses (length rates))
    pub among : i ≤ length rates
    pub put : Put l at (row_lines rates buffers fullnesses i) l' m

  pub begun-none : (l : List ℕ) (at : ℕ) → Room l at (row_lines rates buffers fullnesses (length rates)) → Begun l at l at 0
  unfolding row_lines
  begun-none l at room = record { room = room; among = zero-le; put = put-none l at at refl }

  module _ (l : List ℕ) (at : ℕ) (l' : List ℕ) (m i : ℕ) (p : Begun l at l' m i) where
    begun-front : i < length rates → Room l at (row_lines rates buffers fullnesses i ++ row i)
    unfolding row_lines
    begun-front h = omega (arith, p.room, row_lines-mono rates buffers fullnesses (suc i) (length rates) h)

    pub begun-room : i < length rates → Room l' m (row i)
    begun-room h = room-then l at (row_lines rates buffers fullnesses i) (row i) (begun-front h) l' m p.put

    pub begun-more : i < length rates → (l'' : List ℕ) (n : ℕ) → Put l' m (row i) l'' n → Begun l at l'' n (i + 1)
    unfolding row_lines
    begun-more h l'' n put =
        record {
          room = p.room;
          among = omega arith;
          put = rw (add-one i) (put-then l at (row_lines rates buffers fullnesses i) (row i) (begun-front h) l' m p.put l'' n put);
        }

    pub begun-all : length rates ≤ i → Put l at (row_lines rates buffers fullnesses (length rates)) l' m
    begun-all h = rw (le_antisymm h p.among) p.put

  -- the three lists side by side, and a loop over them: it began at s, has passed xs and goes on from t by r to u
  module _
      (second : length rates ≤ length buffers) (third : length rates ≤ length fullnesses)
      (xs : List ((Bor ℕ × Bor ℕ) × Bor ℕ)) (s t u : Zip (Zip (Iter ℕ) (Iter ℕ)) (Iter ℕ)) (r : Option ((Bor ℕ × Bor ℕ) × Bor ℕ))
      (at-rates : iter_rest (zip_first (zip_first s)) ≡ rates) (at-buffers : iter_rest (zip_second (zip_first s)) ≡ buffers)
      (at-fullnesses : iter_rest (zip_second s) ≡ fullnesses)
      (passed : Yields (zips (zips fronts fronts) fronts) s xs t) (step : zips (zips fronts fronts) fronts t r u) where
    abbrev beside : List ((ℕ × ℕ) × ℕ)
    beside = zip (zip rates buffers) fullnesses

    beside-length : length beside ≡ length rates
    beside-length = omega (arith, length-zip (zip rates buffers) fullnesses, length-zip rates buffers)

    beside-yielded : YieldsList (zips (zips fronts fronts) fronts) (λ p. ((p.0.0.now, p.0.1.now), p.1.now)) s beside
    beside-yielded =
        YieldsList-from_zip (YieldsList-from_zip (YieldsList-from_slice rates at-rates) (YieldsList-from_slice buffers at-buffers)) (YieldsList-from_slice fullnesses at-fullnesses)

    pub row-turn : (p : (Bor ℕ × Bor ℕ) × Bor ℕ) → r ≡ Some p → (length xs < length rates) × (row (length xs) ≡ row_line p.0.0.now p.0.1.now p.1.now)
    row-turn p is =
        let turn = YieldsList-turn beside-yielded xs t passed r u p is step in
        let among : length xs < length rates = omega (arith, turn.0, beside-length) in
        let here : ((p.0.0.now, p.0.1.now), p.1.now) ≡ ((get_or rates (length xs) 0, get_or buffers (length xs) 0), get_or fullnesses (length xs) 0) =
        get_or_read beside (length xs) _ turn.0 turn.1 ((0, 0), 0)
        ∙ get_or-zip (zip rates buffers) fullnesses (length xs) ((0, 0), 0) (omega (arith, length-zip rates buffers)) (omega arith)
        ∙ ap (λ q. (q, get_or fullnesses (length xs) 0)) (get_or-zip rates buffers (length xs) (0, 0) among (omega arith)) in
        (among, sym (ap (λ q. row_line q.0.0 q.0.1 q.1) here))

    pub row-end : r ≡ None → length rates ≤ length xs
    row-end is = omega (arith, beside-length, (YieldsList-end beside-yielded xs t passed r u is step).1)
