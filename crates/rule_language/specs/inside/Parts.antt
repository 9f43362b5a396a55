-- The formulas in a formula.
use Rattle.rule_language.specs.Trees.{Trees, no_trees, tree_then}

-- the formulas in the first of a row
abbrev pub parts_of : Trees → Trees
parts_of no_trees = no_trees
parts_of (tree_then form parts rest) = parts
