use Rattle.rule_language.proofs.formulas.+formulas.Given as goal
use Rattle.rule_language.proofs.Imports.{bindings, formula, IsNext, several, trees_of, unread, vec_len, ◌+◌, ◌-◌, ◌≡◌}
use Rattle.rule_language.proofs.{Imports.◌≤◌, Steps.parts_after}
use Rattle.std.proofs.Common.{◌*◌}

-- each of these is called with fewer parentheses that may open, or after one with a greater rank
abbrev pub decreases-read_formula : goal.decreases-read_formula
decreases-read_formula l = 8 * l.levels + 2

abbrev pub decreases-read_inside : goal.decreases-read_inside
decreases-read_inside l = 8 * l.levels + 6

abbrev pub decreases-read_headed : goal.decreases-read_headed
decreases-read_headed l = 8 * l.levels + 5

abbrev pub decreases-read_quantified : goal.decreases-read_quantified
decreases-read_quantified l = 8 * l.levels + 4

abbrev pub decreases-read_implies : goal.decreases-read_implies
decreases-read_implies l = 8 * l.levels + 4

abbrev pub decreases-read_body : goal.decreases-read_body
decreases-read_body l = 8 * l.levels + 3

abbrev pub decreases-read_parts : goal.decreases-read_parts
decreases-read_parts l = 8 * l.levels + 3

-- the formulas so far, followed by those that are left, are all
abbrev pub invariant-read_parts-parts : goal.invariant-read_parts-parts
invariant-read_parts-parts l = record {
  all : several (formula l.levels (bindings l.scope)) (unread l.text l.fn.token)
      ≡ parts_after (trees_of l.parts.items) (64 - vec_len l.parts) (formula l.levels (bindings l.scope))
      (unread l.text l.token);
  next : IsNext l.text l.token;
  few : vec_len l.parts ≤ 64;
}

abbrev pub decreases-read_parts-parts : goal.decreases-read_parts-parts
decreases-read_parts-parts l = 65 - vec_len l.parts
