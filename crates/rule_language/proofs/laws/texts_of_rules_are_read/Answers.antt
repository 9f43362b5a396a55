use Rattle.rule_language.proofs.RulesRead.{text_said, text_back}
use Rattle.rule_language.proofs.laws.texts_of_rules_are_read.Goals as goal

pub returns : goal.returns
returns c = λ text rules. (text_said text rules, text_back text rules)
