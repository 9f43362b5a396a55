use Rattle.rule_language.proofs.rules.read.Given as goal
use Rattle.rule_language.proofs.Imports.{IsNext, map, rule_names, rule_tree, rules_of, unread, vec_len, without_rest}
use Rattle.rule_language.proofs.{Imports.◌-◌, Imports.◌≡◌, Imports.◌≤◌, Steps.rules_after}

-- the rules so far, followed by those that are left, are all
abbrev pub invariant-rules : goal.invariant-rules
invariant-rules l = record {
  all : rules_of l.text ≡ without_rest (rules_after (map rule_tree l.rules.items) (256 - vec_len l.rules)
      (rule_names l.rules.items) (unread l.text l.token));
  next : IsNext l.text l.token;
  few : vec_len l.rules ≤ 256;
}

abbrev pub decreases-rules : goal.decreases-rules
decreases-rules l = 257 - vec_len l.rules
