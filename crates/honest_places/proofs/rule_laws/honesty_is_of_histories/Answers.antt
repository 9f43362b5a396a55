use Rattle.honest_places.proofs.rule_laws.honesty_is_of_histories.Goals as goal

pub returns : goal.returns
returns c = Rattle.honest_places.proofs.RuleScripts.honesty_is_of_histories
