use Rattle.report_page.proofs.entries.entry_rows.Goals as goal
use Rattle.report_page.proofs.{Imports.[], Imports.report_of, Pieces.item_more}
use Rattle.report_page.specs.Entries.{survivor_row}

pub loop-place-preserved : goal.loop-place-preserved
loop-place-preserved c =
    item_more (survivor_row (report_of c.args.report.now)) c.loop-place.place [] c.loop-place.rows c.add_entry.new.rows
    c.loop-place.invariant c.in_ok-add_entry.ensures
