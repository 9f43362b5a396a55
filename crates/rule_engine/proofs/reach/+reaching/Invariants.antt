use Rattle.rule_engine.proofs.Imports.{drop, reaches_row, trees_of, ◌≡◌}
use Rattle.rule_engine.proofs.reach.+reaching.Given as goal

abbrev pub invariant-some_reach-loop-part : goal.invariant-some_reach-loop-part
invariant-some_reach-loop-part l =
    reaches_row l.row (trees_of l.parts) ≡ reaches_row l.row (trees_of (drop l.part-index l.parts))
