use Rattle.honest_places.proofs.rule_laws.honest_entries_have_no_early_end.Goals as goal

pub returns : goal.returns
returns c = Rattle.honest_places.proofs.Rules.honest_entries_have_no_early_end
