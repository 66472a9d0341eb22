-- What this crate's answers say.
--     read_of    what reading one code answers
-- Assumes nothing.
use Rattle.std.specs.Prelude.{Result, Ok, Err}
use Rattle.coding.specs.Codes.{Read, got, ended, broken}
use Rattle.bits_read.specs.declared.Code.{Code}
use Rattle.bits_read.specs.declared.CodeFault.{CodeFault}
use Rattle.bits_read.specs.declared.CodeFault.TheVariants.{Ended, Broken}

abbrev pub read_of : Result Code CodeFault → Read
read_of (Ok code) = got code.value code.next
read_of (Err (Ended first)) = ended first
read_of (Err (Broken first)) = broken first
