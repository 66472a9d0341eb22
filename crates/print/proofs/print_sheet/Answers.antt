-- `print::print_sheet` meets its contract: the text is put together first, so that it is printed where there is room for it, and only there.
-- Assumes nothing.
use Rattle.print.proofs.PrintLaws.{print-given}
use Rattle.print.proofs.print_sheet.Goals as goal

pub returns : goal.returns
returns c =
    print-given c.args.bytes.now c.args.text.now _ _ _ c.put_sheet-output.ensures _ _ c.judge_room.ensures.judges c.in_ok-judge_room.was _ c.put_bytes.ensures.0
