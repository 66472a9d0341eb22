-- `params_write::Judged::write` meets its contract. The loop's invariant: the fields that are left, written at `p` into the bytes as they are, end where
-- the whole record does and give the bytes that it gives. Assumes nothing.
use Prim.Native.Nat.{ℕ, ◌+◌}
use mathlib.Core.Path.{◌≡◌}
use mathlib.Core.List.{List}
use lib.ListN.{length}
use Rattle.coding.specs.Codes.{put_bits}
use Rattle.coding.specs.Params.{Params, params_bits}
use Rattle.params.specs.Outcome.{params_of}
use Rattle.params_write.proofs.WriteLaws.{bits_left}
use Rattle.params_write.proofs.Judged.write.Given as goal

-- the first f fields are written, up to position q
pub record Written (p : Params) (bytes₀ : List ℕ) (start : ℕ) (bytes : List ℕ) (q f : ℕ) : Type 0 where
  pub end : q + length (bits_left p f) ≡ start + length (params_bits p)
  pub is : put_bits bytes q (bits_left p f) ≡ put_bits bytes₀ start (params_bits p)

abbrev pub invariant-loop-f : goal.invariant-loop-f
invariant-loop-f l = Written (params_of l.fn.self.params) l.initial.bytes l.start l.bytes l.p l.f
