use Rattle.report_page.proofs.Imports.{◌≡◌, ◌++◌, flat_map, range_with_len, report_of}
use Rattle.report_page.specs.Machines.{rows_of_seat}
use Rattle.report_page.proofs.machines.add_seats.Given as goal

-- the rows so far
abbrev pub invariant-loop-seat : goal.invariant-loop-seat
invariant-loop-seat l = l.rows ≡ l.fn.rows ++ flat_map (rows_of_seat (report_of l.report)) (range_with_len 0 l.seat)
