use Rattle.report_page.proofs.Imports.{◌≡◌, take, flat_map, report_of}
use Rattle.report_page.specs.Tables.{row_markup}
use Rattle.report_page.proofs.tables.rows_of.Given as goal

-- the rows so far
abbrev pub invariant-loop-row : goal.invariant-loop-row
invariant-loop-row l = l.out ≡ flat_map (row_markup (report_of l.report)) (take l.row-index l.rows)
