use Rattle.rule_language.proofs.formulas.+formulas.Goals as goal
use Rattle.rule_language.proofs.Imports.{arith, bindings, common_steps, false, formula, nat_tests, rules, trees_of}
use Rattle.rule_language.proofs.Imports.{true, unread, vec_len, ◌-◌, ◌≡◌}
use Rattle.rule_language.proofs.{Steps.parts_at, Views.trees_push}

pub read_parts-returns-in_err-part-2-clause-value : goal.read_parts-returns-in_err-part-2-clause-value
read_parts-returns-in_err-part-2-clause-value t c =
    let at = parts_at (trees_of c.parts.parts.items) (64 - vec_len c.parts.parts)
    (formula c.args.levels (bindings c.args.scope.now)) (unread c.args.text.now c.parts.token) false
    (grind (arith, nat_tests)) in
    grind (arith, common_steps)

pub read_parts-parts-preserved : goal.read_parts-parts-preserved
read_parts-parts-preserved t c =
    let at = parts_at (trees_of c.parts.parts.items) (64 - vec_len c.parts.parts)
    (formula c.args.levels (bindings c.args.scope.now)) (unread c.args.text.now c.parts.token) false
    (grind (arith, nat_tests)) in
    let less : 64 - vec_len c.push-in-parts.new.self ≡ 64 - vec_len c.parts.parts - 1 =
    omega (arith, c.len.ensures, c.in_ok-push-2.ensures.len) in
    record {
      all = rw (less, c.in_ok-push-2.ensures.items) (grind (arith, common_steps, trees_push));
      next = search rules;
      few = omega (arith, c.len.ensures, c.in_ok-push-2.ensures.len);
    }

pub read_parts-returns-in_err-read_only-clause-value : goal.read_parts-returns-in_err-read_only-clause-value
read_parts-returns-in_err-read_only-clause-value t c =
    let at = parts_at (trees_of c.parts.parts.items) (64 - vec_len c.parts.parts)
    (formula c.args.levels (bindings c.args.scope.now)) (unread c.args.text.now c.parts.token) true
    (grind (arith, nat_tests)) in
    grind (arith, common_steps)

pub read_parts-returns-clause-value : goal.read_parts-returns-clause-value
read_parts-returns-clause-value t c =
    let at = parts_at (trees_of c.parts.parts.items) (64 - vec_len c.parts.parts)
    (formula c.args.levels (bindings c.args.scope.now)) (unread c.args.text.now c.parts.token) true
    (grind (arith, nat_tests)) in
    grind (arith, common_steps)
