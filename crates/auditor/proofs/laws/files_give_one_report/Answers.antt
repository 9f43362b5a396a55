use Rattle.auditor.proofs.OneReport.{one_report}
use Rattle.auditor.proofs.laws.files_give_one_report.Goals as goal

pub returns : goal.returns
returns c = λ roster source names. one_report (record {
  rosters = c.roster_files_give_one_answer.ensures;
  readings = c.one_reading_is_right.ensures;
  logs = c.log_files_give_one_answer.ensures;
  graphs = c.entries_give_one_graph.ensures;
}) source names roster
