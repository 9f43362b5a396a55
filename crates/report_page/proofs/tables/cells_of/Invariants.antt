use Rattle.report_page.proofs.Imports.{◌≡◌, take, report_of}
use Rattle.report_page.specs.Tables.{cells_markup}
use Rattle.report_page.proofs.tables.cells_of.Given as goal

-- the cells so far
abbrev pub invariant-loop-cell : goal.invariant-loop-cell
invariant-loop-cell l = l.cells ≡ cells_markup (report_of l.report) (take l.cell-index l.row)
