use Rattle.honest_places.proofs.RuleScripts
use Rattle.honest_places.proofs.rule_laws.scripts_lead_to_honest_places.Goals as goal

pub returns-clause-honest : goal.returns-clause-honest
returns-clause-honest c = RuleScripts.scripts_lead_to_honest_places

pub returns-clause-rules : goal.returns-clause-rules
returns-clause-rules c = RuleScripts.scripts_keep_the_rules

pub returns-clause-never_broken : goal.returns-clause-never_broken
returns-clause-never_broken c = RuleScripts.scripts_are_never_broken

pub returns-clause-kept : goal.returns-clause-kept
returns-clause-kept c = RuleScripts.scripts_are_kept

pub returns-clause-never_too_wide : goal.returns-clause-never_too_wide
returns-clause-never_too_wide c = RuleScripts.scripts_are_never_too_wide

pub returns-clause-no_early_end : goal.returns-clause-no_early_end
returns-clause-no_early_end c = RuleScripts.scripts_have_no_early_end
