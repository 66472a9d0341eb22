-- `params_write::Judged::write` meets its contract. The loop's invariant: the fields that are left, written at `p` into the bytes as they are, end where
-- the whole record does and give the bytes that it gives. Assumes nothing.
use Prim.Native.Nat.{ℕ, ◌+◌, ◌*◌, ◌^◌, ◌≤◌, ◌<◌}
use native.Mathlib.Omega.{arith}
use mathlib.Core.Path.{◌≡◌, refl, ap}
use mathlib.Core.List.{List, ◌++◌}
use lib.ListN.{length}
use Rattle.coding.specs.Codes.{code_bits, put_bits}
use Rattle.coding.specs.Params.{Params, params_bits}
use Rattle.coding.proofs.PutBitsLaws.{put_bits-append}
use Rattle.params.specs.Steps.{code_of}
use Rattle.params.specs.declared.Field as code
use Rattle.params_write.proofs.WriteLaws.{Here, bits_left, bits-none, bits-more, length-more}
use Rattle.params_write.proofs.Judged.write.Invariants.{Written}
use Rattle.params_write.proofs.Judged.write.Goals as goal

module _ (p : Params) (bytes₀ : List ℕ) (start : ℕ) (bytes : List ℕ) (q f : ℕ) (h : Written p bytes₀ start bytes q f) where
  module _ (inside : f < 3 + 3 * p.cpb_cnt + 4) (field : code.Field) (v : ℕ) (here : Here p f field v) where
    long : length (bits_left p f) ≡ length (code_bits (code_of field.code) v) + length (bits_left p (f + 1))
    long = rw (← here.0, ← here.1) at (length-more p f inside)

    room : (start + length (params_bits p) ≤ 8 * length bytes₀) × (start + length (params_bits p) ≤ 2 ^ 32) → length bytes ≡ length bytes₀
        → (q + length (code_bits (code_of field.code) v) ≤ 8 * length bytes) × (q + length (code_bits (code_of field.code) v) ≤ 2 ^ 32)
    room whole same = omega (arith, h.end, long)

    next : (q' : ℕ) (bytes' : List ℕ)
        → (q' ≡ q + length (code_bits (code_of field.code) v)) × (bytes' ≡ put_bits bytes q (code_bits (code_of field.code) v))
        → Written p bytes₀ start bytes' q' (f + 1)
    next q' bytes' (behind, put) =
        let bits : bits_left p f ≡ code_bits (code_of field.code) v ++ bits_left p (f + 1) = rw (← here.0, ← here.1) at (bits-more p f inside) in
        record {
          end = omega (arith, h.end, long);
          is = rw (put, behind, ← put_bits-append, ← bits) h.is;
        }

  done : 3 + 3 * p.cpb_cnt + 4 ≤ f → (q ≡ start + length (params_bits p)) × (bytes ≡ put_bits bytes₀ start (params_bits p))
  unfolding put_bits
  done all = (omega (arith, h.end, ap length (bits-none p f all)), rw (bits-none p f all) at h.is)

pub loop-f-init : goal.loop-f-init
loop-f-init c = record { end = refl; is = refl }

pub write-p-requires : goal.write-p-requires
write-p-requires c =
    room _ _ _ _ _ _ c.loop-f.invariant (omega arith) _ _ c.field.ensures c.requires c.loop-f.auto.bytes

pub loop-f-preserved : goal.loop-f-preserved
loop-f-preserved c = next _ _ _ _ _ _ c.loop-f.invariant (omega arith) _ _ c.field.ensures _ _ c.write-p.ensures

pub returns : goal.returns
returns c = done _ _ _ _ _ _ c.loop-f.invariant (omega arith)
