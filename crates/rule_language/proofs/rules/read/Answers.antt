use Rattle.rule_language.proofs.rules.read.Goals as goal
use Rattle.rule_language.proofs.Imports.{[], arith, common_steps, false, is_end, map, map-append, nat_tests, rule_names}
use Rattle.rule_language.proofs.Imports.{rule_tree, rules, unread, vec_len, ◌-◌, ◌==◌, ◌||◌, ◌∷◌, ◌≡◌}
use Rattle.rule_language.proofs.Steps.{names_more, rules_at}

pub rules-preserved : goal.rules-preserved
rules-preserved c =
    let row = unread c.args.text.now c.rules.token in
    let more : ((256 - vec_len c.rules.rules == 0) || is_end row) ≡ false = grind (arith, nat_tests) in
    let at = rw more at (rules_at (map rule_tree c.rules.rules.items) (256 - vec_len c.rules.rules)
    (rule_names c.rules.rules.items) row) in
    let less : 256 - vec_len c.push-in-rules.new.self ≡ 256 - vec_len c.rules.rules - 1 =
    omega (arith, c.len.ensures, c.in_ok-push-2.ensures.len) in
    record {
      all = rw (
        less,
        c.in_ok-push-2.ensures.items,
        map-append rule_tree c.rules.rules.items (c.in_ok-rule-2.rule ∷ []),
        names_more c.rules.rules.items c.in_ok-rule-2.rule,
      ) (grind (arith, common_steps));
      next = search rules;
      few = omega (arith, c.len.ensures, c.in_ok-push-2.ensures.len);
    }
