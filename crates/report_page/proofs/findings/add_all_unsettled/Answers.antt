use Rattle.report_page.proofs.findings.add_all_unsettled.Goals as goal
use Rattle.report_page.proofs.{Imports.report_of, Pieces.place_more}
use Rattle.report_page.specs.Findings.{unsettled_at}

pub loop-place-preserved : goal.loop-place-preserved
loop-place-preserved c =
    place_more (unsettled_at (report_of c.args.report.now)) c.loop-place.place c.args.rows.now c.loop-place.rows
    c.add_unsettled_at.new.rows c.loop-place.invariant c.in_ok-add_unsettled_at.ensures
