use Rattle.report_page.proofs.findings.add_all_broken.Goals as goal
use Rattle.report_page.proofs.{Imports.report_of, Pieces.place_more}
use Rattle.report_page.specs.Findings.{broken_at}

pub loop-place-preserved : goal.loop-place-preserved
loop-place-preserved c =
    place_more (broken_at c.args.standard (report_of c.args.report.now)) c.loop-place.place c.args.rows.now
    c.loop-place.rows c.add_broken_at.new.rows c.loop-place.invariant c.in_ok-add_broken_at.ensures
