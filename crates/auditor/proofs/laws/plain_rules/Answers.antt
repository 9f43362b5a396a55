use Rattle.auditor.proofs.PlainRules.{plain_rules}
use Rattle.auditor.proofs.laws.plain_rules.Goals as goal

pub returns : goal.returns
returns c = plain_rules
