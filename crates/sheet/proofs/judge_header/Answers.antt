-- `sheet::judge_header` meets its contract: each step is the check of its place, and what passes every step gives its counts and clock.
-- Assumes nothing.
use native.Mathlib.Omega.{arith}
use mathlib.Core.Path.{refl}
use Rattle.sheet.proofs.OpenLaws.{header-stop, header-there, header-few, header-rows, header-long, header-counted, header-rated, header-passed, header-given, header-fits}
use Rattle.sheet.proofs.judge_header.Goals as goal

pub returns-in_err-refuse_if-clause-judges : goal.returns-in_err-refuse_if-clause-judges
returns-in_err-refuse_if-clause-judges c =
    header-stop c.args.bytes.now _ _ _ _ refl c.refuse_if.ensures c.in_err-refuse_if.was c.from_residual.ensures.1

pub word_at-n-requires : goal.word_at-n-requires
word_at-n-requires c = omega (arith, header-there _ _ _ c.refuse_if.ensures c.in_ok-refuse_if.was)

pub returns-in_err-refuse_if-2-clause-judges : goal.returns-in_err-refuse_if-2-clause-judges
returns-in_err-refuse_if-2-clause-judges c =
    header-stop c.args.bytes.now _ _ _ _ (header-long _ _ _ c.refuse_if.ensures c.in_ok-refuse_if.was)
    (rw (c.is_outside.ensures, c.word_at-n.ensures.0) at c.refuse_if-2.ensures)
    c.in_err-refuse_if-2.was c.from_residual-in_err-refuse_if-2.ensures.1

pub word_at-m-requires : goal.word_at-m-requires
word_at-m-requires c = omega (arith, header-there _ _ _ c.refuse_if.ensures c.in_ok-refuse_if.was)

pub returns-in_err-refuse_if-3-clause-judges : goal.returns-in_err-refuse_if-3-clause-judges
returns-in_err-refuse_if-3-clause-judges c =
    header-stop c.args.bytes.now _ _ _ _
    (header-counted _ _ _ c.refuse_if.ensures c.in_ok-refuse_if.was _ _ (rw (c.is_outside.ensures, c.word_at-n.ensures.0) at c.refuse_if-2.ensures) c.in_ok-refuse_if-2.was)
    (rw (c.is_outside-2.ensures, c.word_at-m.ensures.0) at c.refuse_if-3.ensures)
    c.in_err-refuse_if-3.was c.from_residual-in_err-refuse_if-3.ensures.1

pub is_misplaced-requires : goal.is_misplaced-requires
is_misplaced-requires c =
    let pictures = rw (c.is_outside.ensures, c.word_at-n.ensures.0) at c.refuse_if-2.ensures in
    let rates = rw (c.is_outside-2.ensures, c.word_at-m.ensures.0) at c.refuse_if-3.ensures in
    let there = header-there _ _ _ c.refuse_if.ensures c.in_ok-refuse_if.was in
    let few = header-few _ _ _ c.refuse_if.ensures c.in_ok-refuse_if.was _ _ pictures c.in_ok-refuse_if-2.was in
    let rows = header-rows _ _ _ c.refuse_if.ensures c.in_ok-refuse_if.was _ _ pictures c.in_ok-refuse_if-2.was _ _ rates c.in_ok-refuse_if-3.was in
    (there, c.word_at-n.ensures.0, c.word_at-m.ensures.0, rw c.word_at-n.ensures.0 few, rw c.word_at-m.ensures.0 rows)

pub returns-in_err-refuse_if-4-clause-judges : goal.returns-in_err-refuse_if-4-clause-judges
returns-in_err-refuse_if-4-clause-judges c =
    header-stop c.args.bytes.now _ _ _ _
    (header-rated _ _ _ c.refuse_if.ensures c.in_ok-refuse_if.was _ _ (rw (c.is_outside.ensures, c.word_at-n.ensures.0) at c.refuse_if-2.ensures) c.in_ok-refuse_if-2.was
    _ _ (rw (c.is_outside-2.ensures, c.word_at-m.ensures.0) at c.refuse_if-3.ensures) c.in_ok-refuse_if-3.was)
    (rw c.is_misplaced.ensures at c.refuse_if-4.ensures)
    c.in_err-refuse_if-4.was c.from_residual-in_err-refuse_if-4.ensures.1

pub word_at-requires : goal.word_at-requires
word_at-requires c = omega (arith, header-there _ _ _ c.refuse_if.ensures c.in_ok-refuse_if.was)

pub word_at-requires-2 : goal.word_at-requires-2
word_at-requires-2 c = omega (arith, header-there _ _ _ c.refuse_if.ensures c.in_ok-refuse_if.was)

pub returns : goal.returns
returns c =
    let ok = header-passed c.args.bytes.now _ _ c.refuse_if.ensures c.in_ok-refuse_if.was _ _ (rw (c.is_outside.ensures, c.word_at-n.ensures.0) at c.refuse_if-2.ensures) c.in_ok-refuse_if-2.was
    _ _ (rw (c.is_outside-2.ensures, c.word_at-m.ensures.0) at c.refuse_if-3.ensures) c.in_ok-refuse_if-3.was
    _ _ (rw c.is_misplaced.ensures at c.refuse_if-4.ensures) c.in_ok-refuse_if-4.was in
    record {
      judges = header-given c.args.bytes.now _ _ _ _ c.word_at-n.ensures.0 c.word_at-m.ensures.0 ok c.word_at.ensures.0 c.word_at-2.ensures.0;
      fits = header-fits c.args.bytes.now _ _ c.word_at.result c.word_at-2.result c.word_at-n.ensures.0 c.word_at-m.ensures.0 ok;
    }
