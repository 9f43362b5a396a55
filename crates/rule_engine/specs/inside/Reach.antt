-- Over which rows the quantifiers of a rule go that go over all survivors.
use Rattle.std.specs.Prelude.{Bool, false, ◌||◌, Option, Some, None}
use Rattle.rule_language.specs.declared.row.Row.{Row}
use Rattle.rule_language.specs.declared.kind.Kind.{Kind}
use Rattle.rule_language.specs.declared.form.Form.{Form}
use Rattle.rule_language.specs.declared.form.Form.TheVariants.{ForEvery, ForSome}
use Rattle.rule_language.specs.Trees.{Trees, no_trees, tree_then}
use Rattle.rule_meaning.specs.Tests.{has_kind}

-- the kind that a quantifier over all survivors goes over
abbrev pub kind_of_all : Form → Option Kind
kind_of_all (ForEvery v kind) = Some kind
kind_of_all (ForSome v kind) = Some kind
kind_of_all form = None

-- whether the row is of the kind, if there is one
abbrev pub is_of : Row → Option Kind → Bool
is_of row None = false
is_of row (Some kind) = has_kind kind (Some row)

-- whether some quantifier over all survivors goes over the row
abbrev pub reaches_row : Row → Trees → Bool
reaches_row row no_trees = false
reaches_row row (tree_then form parts rest) =
    is_of row (kind_of_all form) || (reaches_row row parts || reaches_row row rest)
