-- `params_read::read_fields` meets its contract. The loop's invariant: reading goes on from field `f` with the values so far to what was to be read.
-- Assumes nothing.
use Prim.Native.Nat.{ℕ, ◌-◌}
use mathlib.Core.Path.{◌≡◌}
use mathlib.Core.List.{List, [], ◌∷◌}
use lib.ListN.{length, take, drop}
use Rattle.coding.specs.Codes.{Bits, bits_of}
use Rattle.coding.specs.Fields.{fields_after_count, fields_of, read_fields}
use Rattle.params_read.proofs.read_fields.Given as goal

-- reading goes on from field f
pub record Passed (x : Bits) (start n : ℕ) (values₀ values : List ℕ) (p f : ℕ) : Type 0 where
  pub size : length values ≡ length values₀
  pub is : read_fields x (drop f (fields_of n)) (take f values) p ≡ read_fields x (fields_after_count n) ((n - 1) ∷ []) start

abbrev pub invariant-loop-f : goal.invariant-loop-f
invariant-loop-f l = Passed (bits_of l.bytes) l.start l.n l.initial.values l.values l.p l.f
