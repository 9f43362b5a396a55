-- Formulas in a row, each a form with its parts: what contracts see of formulas.
use Rattle.std.specs.Prelude.{ℕ, ◌+◌, List}
use Rattle.rule_language.specs.declared.form.Form.{Form}

-- formulas in a row: none, or a form with its parts in front of the rest
pub data Trees : Type 0 where
  no_trees : Trees
  tree_then : (form : Form) (parts rest : Trees) → Trees

-- how many formulas are in the row
abbrev pub count_of : Trees → ℕ
count_of no_trees = 0
count_of (tree_then form parts rest) = count_of rest + 1

-- one row and then another
abbrev pub joined_trees : Trees → Trees → Trees
joined_trees no_trees others = others
joined_trees (tree_then form parts rest) others = tree_then form parts (joined_trees rest others)

-- a rule: a name, and a row with its one formula
pub record RuleTree : Type 0 where
  pub name : List ℕ
  pub body : Trees
