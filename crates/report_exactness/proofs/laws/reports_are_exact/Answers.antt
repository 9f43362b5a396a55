use Rattle.report_exactness.proofs.Reports.{reports_are_exact}
use Rattle.report_exactness.proofs.laws.reports_are_exact.Goals as goal

pub returns : goal.returns
returns c = reports_are_exact
