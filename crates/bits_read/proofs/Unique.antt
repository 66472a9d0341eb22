-- What a promise on `read_of` allows is one answer.
--     read_of-one    no two answers of reading a code say the same
-- Assumes nothing.
use Prim.Native.Nat.{ℕ}
use mathlib.Core.Path.{◌≡◌, ap₂}
use Rattle.std.specs.Prelude.{Result, Ok, Err}
use Rattle.bits_read.specs.Outcome.{read_of}
use Rattle.bits_read.specs.declared.Code.{Code}
use Rattle.bits_read.specs.declared.CodeFault.{CodeFault}
use Rattle.bits_read.specs.declared.CodeFault.TheVariants.{Ended, Broken}

pub read_of-one : (v w : Result Code CodeFault) → read_of v ≡ read_of w → v ≡ w
read_of-one (Ok c) (Ok c') e = ap₂ (λ (x : ℕ) (p : ℕ). Ok (record { value = x; next = p })) (cc) (cc)
read_of-one (Ok c) (Err (Ended q')) e = cc
read_of-one (Ok c) (Err (Broken q')) e = cc
read_of-one (Err (Ended q)) (Ok c') e = cc
read_of-one (Err (Ended q)) (Err (Ended q')) e = cc
read_of-one (Err (Ended q)) (Err (Broken q')) e = cc
read_of-one (Err (Broken q)) (Ok c') e = cc
read_of-one (Err (Broken q)) (Err (Ended q')) e = cc
read_of-one (Err (Broken q)) (Err (Broken q')) e = cc
