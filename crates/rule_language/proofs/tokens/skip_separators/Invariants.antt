use Rattle.rule_language.proofs.tokens.skip_separators.Given as goal
use Rattle.rule_language.proofs.Imports.{CutsNoWord, drop, length, row_from, ◌-◌, ◌≡◌, ◌≤◌}

-- only separators were passed over
abbrev pub invariant-loop-start : goal.invariant-loop-start
invariant-loop-start l = record {
  inside : l.start ≤ length l.text;
  between : CutsNoWord l.text l.start;
  passed : row_from l.start (drop l.start l.text) ≡ row_from l.fn.from (drop l.fn.from l.text);
}

abbrev pub decreases-loop-start : goal.decreases-loop-start
decreases-loop-start l = length l.text - l.start
