use Rattle.rule_language.proofs.writing.+writing.Given as goal
use Rattle.rule_language.proofs.Imports.{drop, row_text, trees_of, ◌++◌, ◌≡◌}

-- what is still to be written
abbrev pub invariant-push_row-loop-formula : goal.invariant-push_row-loop-formula
invariant-push_row-loop-formula l =
    l.out.items ++ row_text (trees_of (drop l.formula-index l.formulas)) ≡ l.fn.out.items ++ row_text
    (trees_of l.formulas)
