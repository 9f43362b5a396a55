use Rattle.log_commands.proofs.WatchAgreement.{watches_agree}
use Rattle.log_commands.proofs.watch_laws.watches_agree_with_audits.Goals as goal

pub returns : goal.returns
returns c = watches_agree c.entries_give_one_graph.ensures c.files_give_one_report.ensures
