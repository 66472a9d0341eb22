-- `print::put_table` meets its contract: three lists with room for every sheet are lent to the opening, and what stands in them was judged.
-- Assumes nothing.
use mathlib.Core.Path.{sym, subst}
use Rattle.text.specs.Put.{Put}
use Rattle.print.proofs.PrintLaws.{sheet-refused, sheet-opens}
use Rattle.print.proofs.put_table.Goals as goal

pub returns-in_err-head-clause-judges : goal.returns-in_err-head-clause-judges
returns-in_err-head-clause-judges c =
    sheet-refused c.args.bytes.now _ _ _ _ c.open_sheet.ensures _ c.in_err-head.was _ c.from_residual.ensures.1

pub slice_bounds-sizes-end : goal.slice_bounds-sizes-end
slice_bounds-sizes-end c = (sheet-opens c.args.bytes.now _ _ _ _ c.open_sheet.ensures _ c.in_ok-head.was).sizes_fit.0

pub slice_bounds-recording-end : goal.slice_bounds-recording-end
slice_bounds-recording-end c = (sheet-opens c.args.bytes.now _ _ _ _ c.open_sheet.ensures _ c.in_ok-head.was).sizes_fit.1

pub slice_bounds-ticks-end : goal.slice_bounds-ticks-end
slice_bounds-ticks-end c = (sheet-opens c.args.bytes.now _ _ _ _ c.open_sheet.ensures _ c.in_ok-head.was).ticks_fit.0

pub slice_bounds-recording-end-2 : goal.slice_bounds-recording-end-2
slice_bounds-recording-end-2 c = (sheet-opens c.args.bytes.now _ _ _ _ c.open_sheet.ensures _ c.in_ok-head.was).ticks_fit.1

pub slice_bounds-rates-end : goal.slice_bounds-rates-end
slice_bounds-rates-end c = (sheet-opens c.args.bytes.now _ _ _ _ c.open_sheet.ensures _ c.in_ok-head.was).rates_fit.0

pub slice_bounds-put_least-end : goal.slice_bounds-put_least-end
slice_bounds-put_least-end c = (sheet-opens c.args.bytes.now _ _ _ _ c.open_sheet.ensures _ c.in_ok-head.was).rates_fit.1

pub put_least-requires : goal.put_least-requires
put_least-requires c =
    let judged = (sheet-opens c.args.bytes.now _ _ _ _ c.open_sheet.ensures _ c.in_ok-head.was).judged in
    (judged.0, judged.1, judged.2)

pub returns-clause-judges : goal.returns-clause-judges
returns-clause-judges c = sym (sheet-opens c.args.bytes.now _ _ _ _ c.open_sheet.ensures _ c.in_ok-head.was).passes

pub returns-clause-puts : goal.returns-clause-puts
returns-clause-puts c =
    let put = c.put_least in
    let text = (sheet-opens c.args.bytes.now _ _ _ _ c.open_sheet.ensures _ c.in_ok-head.was).text in
    subst (λ xs. Put c.args.text.now 0 xs put.new.text put.result) (sym text) put.ensures
