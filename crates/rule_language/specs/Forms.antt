-- Formulas as trees.
use Rattle.std.specs.Prelude.{List, [], ◌∷◌, map, string_bytes}
use Rattle.rule_language.specs.declared.formula.Formula.{Formula, fold-Formula}
use Rattle.rule_language.specs.declared.formula.Formula.TheOpen.{Formula-F}
use Rattle.rule_language.specs.declared.form.Form.TheVariants as form
use Rattle.rule_language.specs.declared.formula.Rule.{Rule}
use Rattle.rule_language.specs.Trees.{Trees, no_trees, tree_then, RuleTree}

-- what puts trees in front of others, one after another
abbrev pub all_in_front : List (Trees → Trees) → Trees
all_in_front [] = no_trees
all_in_front (f ∷ fs) = f (all_in_front fs)

-- one level, with each formula inside already seen as what puts its tree in front of others
abbrev pub tree_step : Formula-F (Trees → Trees) → Trees → Trees
tree_step Formula-F.True rest = tree_then form.True no_trees rest
tree_step (Formula-F.ForEvery v kind body) rest = tree_then (form.ForEvery v kind) (body.value no_trees) rest
tree_step (Formula-F.ForSome v kind body) rest = tree_then (form.ForSome v kind) (body.value no_trees) rest
tree_step (Formula-F.EveryBefore v kind u body) rest = tree_then (form.EveryBefore v kind u) (body.value no_trees) rest
tree_step (Formula-F.SomeBefore v kind u body) rest = tree_then (form.SomeBefore v kind u) (body.value no_trees) rest
tree_step (Formula-F.And parts) rest = tree_then form.And (all_in_front parts.items) rest
tree_step (Formula-F.Or parts) rest = tree_then form.Or (all_in_front parts.items) rest
tree_step (Formula-F.Not body) rest = tree_then form.Not (body.value no_trees) rest
tree_step (Formula-F.Implies f g) rest = tree_then form.Implies (f.value (g.value no_trees)) rest
tree_step (Formula-F.Same v u) rest = tree_then (form.Same v u) no_trees rest
tree_step (Formula-F.Before v u) rest = tree_then (form.Before v u) no_trees rest
tree_step (Formula-F.Next v u) rest = tree_then (form.Next v u) no_trees rest
tree_step (Formula-F.Is v role) rest = tree_then (form.Is v role) no_trees rest
tree_step (Formula-F.OfKind v kind) rest = tree_then (form.OfKind v kind) no_trees rest
tree_step (Formula-F.Equal t s) rest = tree_then (form.Equal t s) no_trees rest
tree_step (Formula-F.Less t s) rest = tree_then (form.Less t s) no_trees rest

-- the formula's tree, put in front of others
abbrev pub in_front : Formula → Trees → Trees
in_front = fold-Formula (Trees → Trees) tree_step

-- the trees of formulas
abbrev pub trees_of : List Formula → Trees
trees_of formulas = all_in_front (map in_front formulas)

-- the tree of one
abbrev pub tree_of : Formula → Trees
tree_of formula = in_front formula no_trees

-- the tree of a rule
abbrev pub rule_tree : Rule → RuleTree
rule_tree rule = record { name = string_bytes rule.name; body = tree_of rule.body }
