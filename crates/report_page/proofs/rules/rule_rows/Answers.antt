use Rattle.report_page.proofs.rules.rule_rows.Goals as goal
use Rattle.report_page.proofs.{Imports.[], Imports.report_of, Pieces.place_more}
use Rattle.report_page.specs.Rules.{rule_at}

pub loop-place-preserved : goal.loop-place-preserved
loop-place-preserved c =
    place_more (rule_at c.args.which c.args.standard (report_of c.args.report.now)) c.loop-place.place []
    c.loop-place.rows c.add_rule_at.new.rows c.loop-place.invariant c.in_ok-add_rule_at.ensures
