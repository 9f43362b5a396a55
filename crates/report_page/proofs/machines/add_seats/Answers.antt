use Rattle.report_page.proofs.machines.add_seats.Goals as goal
use Rattle.report_page.proofs.{Imports.report_of, Pieces.place_more}
use Rattle.report_page.specs.Machines.{rows_of_seat}

pub loop-seat-preserved : goal.loop-seat-preserved
loop-seat-preserved c =
    place_more (rows_of_seat (report_of c.args.report.now)) c.loop-seat.seat c.args.rows.now c.loop-seat.rows
    c.add_seat.new.rows c.loop-seat.invariant c.in_ok-add_seat.ensures
