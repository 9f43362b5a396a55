use Rattle.report_page.proofs.Imports.{◌≡◌, map, range_with_len, report_of}
use Rattle.report_page.specs.Gaps.{maker_row}
use Rattle.report_page.proofs.gaps.maker_rows.Given as goal

-- the rows so far
abbrev pub invariant-loop-seat : goal.invariant-loop-seat
invariant-loop-seat l = l.rows ≡ map (maker_row (report_of l.report)) (range_with_len 0 l.seat)
