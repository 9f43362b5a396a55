use Rattle.log_commands.proofs.HonestWatches.{watches_break_none}
use Rattle.log_commands.proofs.watch_laws.honest_watches_break_no_rule.Goals as goal

pub returns : goal.returns
returns c = watches_break_none
