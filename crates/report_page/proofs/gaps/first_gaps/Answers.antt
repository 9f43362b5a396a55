use Rattle.std.proofs.lemmas.List.{length-take-le, take_all}
use Rattle.report_page.proofs.Imports.{arith, sym}
use Rattle.report_page.specs.Gaps.{most_listed}
use Rattle.report_page.proofs.gaps.first_gaps.Goals as goal

pub slice_bounds-result-end : goal.slice_bounds-result-end
slice_bounds-result-end c =
    sym (length-take-le most_listed c.args.gaps.now (omega (arith, c.if-gaps-le-MOST_LISTED.false)))

pub returns-then-gaps-le-MOST_LISTED : goal.returns-then-gaps-le-MOST_LISTED
returns-then-gaps-le-MOST_LISTED c =
    sym (take_all most_listed c.args.gaps.now (omega (arith, c.if-gaps-le-MOST_LISTED.true)))
