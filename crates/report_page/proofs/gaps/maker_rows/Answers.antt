use Rattle.report_page.proofs.gaps.maker_rows.Goals as goal
use Rattle.report_page.proofs.{Imports.[], Imports.report_of, Pieces.item_more}
use Rattle.report_page.specs.Gaps.{maker_row}

pub loop-seat-preserved : goal.loop-seat-preserved
loop-seat-preserved c =
    item_more (maker_row (report_of c.args.report.now)) c.loop-seat.seat [] c.loop-seat.rows c.add_maker.new.rows
    c.loop-seat.invariant c.in_ok-add_maker.ensures
