-- Which trees are rules: arities, bound variables, sorts and limits.
use Rattle.std.specs.Prelude.{ℕ, zero, suc, ◌^◌, Bool, true, false, ◌&&◌, ◌||◌, ◌==◌, not, nat_lt, nat_le}
use Rattle.std.specs.Prelude.{if◌then◌else◌, List, [], ◌∷◌, ◌++◌, length, Option, Some, None, is_some}
use Rattle.std.specs.Str.{bytes_eq}
use Rattle.rule_language.specs.declared.kind.Kind.{Kind}
use Rattle.rule_language.specs.declared.kind.Field.{Field}
use Rattle.rule_language.specs.declared.kind.Sort.{Sort}
use Rattle.rule_language.specs.declared.kind.Sort.TheVariants as sort
use Rattle.rule_language.specs.declared.term.Term.{Term}
use Rattle.rule_language.specs.declared.term.Term.TheVariants.{Of, Number}
use Rattle.rule_language.specs.declared.form.Form.{Form}
use Rattle.rule_language.specs.declared.form.Form.TheVariants as form
use Rattle.rule_language.specs.Kinds.{has_field, sort_of_field, is_ordered, is_same_sort}
use Rattle.rule_language.specs.Scopes.{Scope, kind_in, is_letter}
use Rattle.rule_language.specs.Trees.{Trees, no_trees, tree_then, count_of, RuleTree}

-- whether the variable is bound
abbrev pub is_bound : Scope → ℕ → Bool
is_bound scope v = is_letter v && is_some (kind_in scope v)

-- whether one more quantifier may bind the variable: it isn't bound yet, and at most 4 quantifiers
-- nest
abbrev pub can_bind : Scope → ℕ → Bool
can_bind scope v = is_letter v && (not (is_some (kind_in scope v)) && nat_lt (length scope) 4)

-- the sort of a field of entries of the kind that a variable stands for
abbrev pub field_sort : Option Kind → Field → Option Sort
field_sort None field = None
field_sort (Some kind) field = if has_field kind field then Some (sort_of_field field) else None

-- the sort of a term, which has none where its variable is free or the kind doesn't have the field
abbrev pub sort_of : Scope → Term → Option Sort
sort_of scope (Of v field) = if is_letter v then field_sort (kind_in scope v) field else None
sort_of scope (Number n) = if nat_lt n (2 ^ 32) then Some sort.Count else None

-- whether two terms have one sort
abbrev pub are_of_one_sort : Option Sort → Option Sort → Bool
are_of_one_sort (Some sort) (Some other) = is_same_sort sort other
are_of_one_sort sort other = false

-- whether there is a sort and it has an order
abbrev pub has_order : Option Sort → Bool
has_order (Some sort) = is_ordered sort
has_order None = false

-- whether the variables and terms of the form are good where these variables are bound
abbrev pub is_closed : Scope → Form → Bool
is_closed scope form.True = true
is_closed scope (form.ForEvery v kind) = can_bind scope v
is_closed scope (form.ForSome v kind) = can_bind scope v
is_closed scope (form.EveryBefore v kind u) = can_bind scope v && is_bound scope u
is_closed scope (form.SomeBefore v kind u) = can_bind scope v && is_bound scope u
is_closed scope form.And = true
is_closed scope form.Or = true
is_closed scope form.Not = true
is_closed scope form.Implies = true
is_closed scope (form.Same v u) = is_bound scope v && is_bound scope u
is_closed scope (form.Before v u) = is_bound scope v && is_bound scope u
is_closed scope (form.Next v u) = is_bound scope v && is_bound scope u
is_closed scope (form.Is v role) = is_bound scope v
is_closed scope (form.OfKind v kind) = is_bound scope v
is_closed scope (form.Equal t u) = are_of_one_sort (sort_of scope t) (sort_of scope u)
is_closed scope (form.Less t u) = has_order (sort_of scope t) && are_of_one_sort (sort_of scope t) (sort_of scope u)

-- whether a form has this number of formulas in it
abbrev pub has_arity : Form → ℕ → Bool
has_arity form.And n = nat_lt 0 n && nat_le n 64
has_arity form.Or n = nat_lt 0 n && nat_le n 64
has_arity form.Implies n = n == 2
has_arity form.Not n = n == 1
has_arity (form.ForEvery v kind) n = n == 1
has_arity (form.ForSome v kind) n = n == 1
has_arity (form.EveryBefore v kind u) n = n == 1
has_arity (form.SomeBefore v kind u) n = n == 1
has_arity form n = n == 0

-- whether a form is allowed where so many more parentheses may open
abbrev pub is_shallow : ℕ → Form → Bool
is_shallow levels form.True = true
is_shallow zero form = false
is_shallow (suc levels) form = true

-- how many more may open in it
abbrev pub inner : ℕ → ℕ
inner zero = zero
inner (suc levels) = levels

-- what is bound in the form, of which a quantifier binds its variable
abbrev pub scope_in : Form → Scope → Scope
scope_in (form.ForEvery v kind) scope = (v, kind) ∷ scope
scope_in (form.ForSome v kind) scope = (v, kind) ∷ scope
scope_in (form.EveryBefore v kind u) scope = (v, kind) ∷ scope
scope_in (form.SomeBefore v kind u) scope = (v, kind) ∷ scope
scope_in form scope = scope

-- whether these are formulas where the variables of the scope are bound and so many more
-- parentheses may open
abbrev pub are_formulas : ℕ → Scope → Trees → Bool
are_formulas levels scope no_trees = true
are_formulas levels scope (tree_then form parts rest) =
    (is_shallow levels form && (is_closed scope form && has_arity form (count_of parts)))
    && (are_formulas (inner levels) (scope_in form scope) parts && are_formulas levels scope rest)

-- letters and digits
abbrev pub is_alphanumeric : ℕ → Bool
is_alphanumeric byte =
    (nat_le 48 byte && nat_le byte 57) || ((nat_le 65 byte && nat_le byte 90) || (nat_le 97 byte && nat_le byte 122))

-- whether all the bytes are letters or digits
abbrev pub are_alphanumeric : List ℕ → Bool
are_alphanumeric [] = true
are_alphanumeric (byte ∷ bytes) = is_alphanumeric byte && are_alphanumeric bytes

-- whether this is a name of a rule: 1 to 16 letters and digits
abbrev pub is_name : List ℕ → Bool
is_name word = (nat_lt 0 (length word) && nat_le (length word) 16) && are_alphanumeric word

-- whether the name is one of these
abbrev pub is_among : List ℕ → List (List ℕ) → Bool
is_among name [] = false
is_among name (other ∷ names) = bytes_eq name other || is_among name names

-- whether this is a rule after rules of these names, no two of one name: at most 32 parentheses
-- nest, of which its own is one
abbrev pub is_rule : List (List ℕ) → RuleTree → Bool
is_rule names rule =
    (is_name rule.name && not (is_among rule.name names)) && ((count_of rule.body == 1) && are_formulas 31 [] rule.body)

-- whether these are rules after rules of these names
abbrev pub follow : List (List ℕ) → List RuleTree → Bool
follow names [] = true
follow names (rule ∷ rules) = is_rule names rule && follow (names ++ rule.name ∷ []) rules

-- whether these are rules, of which there are 1 to 256
abbrev pub are_rules : List RuleTree → Bool
are_rules rules = (nat_lt 0 (length rules) && nat_le (length rules) 256) && follow [] rules
