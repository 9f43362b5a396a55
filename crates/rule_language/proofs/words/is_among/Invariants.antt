use Rattle.rule_language.proofs.words.is_among.Given as goal
use Rattle.rule_language.proofs.Imports.{drop, is_among, rule_names, ◌≡◌}

-- whether the name is taken depends on the rules that are left
abbrev pub invariant-loop-rule : goal.invariant-loop-rule
invariant-loop-rule l = is_among l.name (rule_names l.rules) ≡ is_among l.name (rule_names (drop l.rule-index l.rules))
