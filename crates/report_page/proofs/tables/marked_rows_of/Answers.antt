use Rattle.report_page.proofs.tables.marked_rows_of.Goals as goal
use Rattle.report_page.proofs.Imports.{[], ap, get_or_read, report_of, slice_index_or, ◌++◌, ◌∙◌}
use Rattle.report_page.proofs.Pieces.{place_more}
use Rattle.report_page.specs.{Cells.TableRow, Tables.marked_row}

pub loop-number-preserved : goal.loop-number-preserved
loop-number-preserved c =
    let rows = c.args.rows.now in
    let number = c.loop-number.number in
    let out = c.loop-number.out in
    place_more (λ place. marked_row (report_of c.args.report.now) place (slice_index_or rows place [])) number [] out
    c.add_marked_row.new.out c.loop-number.invariant
    (c.in_ok-add_marked_row.ensures
    ∙ ap (λ (row : TableRow). out ++ marked_row (report_of c.args.report.now) number row)
    (c.as_slice.ensures
    ∙ get_or_read rows number c.index-rows-number.result c.loop-number-test.true c.index-rows-number.is []))
