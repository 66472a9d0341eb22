-- The least figures picture by picture: what the first n pictures need, in units of 1/(R x TS) second.
--     Needs         all bits so far; the largest need of a span that ends at the last picture, of any span, of a span from picture 0
--     needs_step    one picture more
--     tick_before   the tick of the picture before picture n; the first picture's own before it
--     needs_below   what the first n pictures need, by these steps
-- That these are the least figures' own needs: proofs/NeedsLaws.antt. Assumes nothing.
use Rattle.std.specs.Prelude.{ℕ, zero, suc, ◌+◌, ◌-◌, ◌*◌, max}
use Rattle.model.specs.Recording.{Recording, size, tick, distance}

pub record Needs : Type 0 where
  pub total : ℕ
  pub level : ℕ
  pub buffer : ℕ
  pub fullness : ℕ

abbrev pub no_needs : Needs
no_needs = record { total = 0; level = 0; buffer = 0; fullness = 0 }

-- bits are the picture's in units; since the last and since the first picture are ticks in units
abbrev pub needs_step : Needs → (bits since_last since_first : ℕ) → Needs
needs_step m bits since_last since_first =
    record {
      total = m.total + bits;
      level = m.level - since_last + bits;
      buffer = max m.buffer (m.level - since_last + bits);
      fullness = max m.fullness (m.total + bits - since_first);
    }

abbrev pub tick_before : Recording → (n : ℕ) → ℕ
tick_before k zero = tick k 0
tick_before k (suc n) = tick k n

unfoldable pub needs_below : Recording → (rate n : ℕ) → Needs
needs_below k rate zero = no_needs
needs_below k rate (suc n) =
    needs_step (needs_below k rate n) (k.ts * size k n) (rate * k.nu * (tick k n - tick_before k n)) (rate * k.nu * distance k 0 n)
