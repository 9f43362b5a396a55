use Rattle.rule_language.proofs.writing.write.Given as goal
use Rattle.rule_language.proofs.Imports.{drop, map, rule_tree, rules_text, ◌++◌, ◌≡◌}

-- what is still to be written
abbrev pub invariant-loop-rule : goal.invariant-loop-rule
invariant-loop-rule l =
    l.text.items ++ rules_text (map rule_tree (drop l.rule-index l.rules)) ≡ rules_text (map rule_tree l.rules)
