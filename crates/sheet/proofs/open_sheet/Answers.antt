-- `sheet::open_sheet` meets its contract: a refusal, with the three lists as they were, or else the sheet's words at the front of each.
-- Assumes nothing.
use Rattle.sheet.proofs.OpenLaws.{open-header, open-lists, open-rooms, open-room, open-given}
use Rattle.sheet.proofs.open_sheet.Goals as goal

pub returns-in_err-head : goal.returns-in_err-head
returns-in_err-head c =
    open-header c.args.bytes.now _ _ _ _ c.judge_header.ensures.judges _ _ c.in_err-head.was c.from_residual.ensures.1

pub returns-in_err-judge_lists : goal.returns-in_err-judge_lists
returns-in_err-judge_lists c =
    open-lists c.args.bytes.now _ _ _ _ c.judge_header.ensures.judges _ c.in_ok-head.was _ c.judge_lists.ensures _ _ c.in_err-judge_lists.was c.from_residual-in_err-judge_lists.ensures.1

pub returns-in_err-judge_rooms : goal.returns-in_err-judge_rooms
returns-in_err-judge_rooms c =
    open-rooms c.args.bytes.now _ _ _ _ c.judge_header.ensures.judges _ c.in_ok-head.was _ c.judge_lists.ensures _ c.in_ok-judge_lists.was _ c.judge_rooms.ensures.judges
    _ _ c.in_err-judge_rooms.was c.from_residual-in_err-judge_rooms.ensures.1

pub returns-in_err-judge_room : goal.returns-in_err-judge_room
returns-in_err-judge_room c =
    open-room c.args.bytes.now _ _ _ _ c.judge_header.ensures.judges _ c.in_ok-head.was _ c.judge_lists.ensures _ c.in_ok-judge_lists.was _ c.judge_rooms.ensures.judges
    _ c.in_ok-judge_rooms.was _ c.judge_room.ensures.judges _ _ c.in_err-judge_room.was c.from_residual-in_err-judge_room.ensures.1

pub returns : goal.returns
returns c =
    open-given c.args.bytes.now _ _ _ _ c.judge_header.ensures.judges _ c.in_ok-head.was _ c.judge_lists.ensures _ c.in_ok-judge_lists.was
    _ c.judge_rooms.ensures.judges _ c.in_ok-judge_rooms.was _ c.judge_room.ensures.judges _ c.in_ok-judge_room.was
    _ _ _ c.read_words.ensures c.read_words-2.ensures c.read_words-3.ensures
