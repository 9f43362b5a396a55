-- The rules of a text, or its first fault: what is read, in its order.
use Rattle.std.specs.Prelude.{ℕ, zero, suc, Bool, true, false, if◌then◌else◌, List, [], ◌∷◌, ◌++◌, codes}
use Rattle.std.specs.Prelude.{Option, Some, None, Result, Ok, Err}
use Rattle.roster.specs.declared.post.Role.{Role}
use Rattle.input_causes.specs.declared.rules.RuleWhy.TheVariants.{Shape}
use Rattle.rule_language.specs.declared.faults.RuleFault.{RuleFault}
use Rattle.rule_language.specs.declared.kind.Kind.{Kind}
use Rattle.rule_language.specs.declared.kind.Sort.{Sort}
use Rattle.rule_language.specs.declared.form.Form.{Form}
use Rattle.rule_language.specs.declared.form.Form.TheVariants as form
use Rattle.rule_language.specs.declared.form.Head.{Head}
use Rattle.rule_language.specs.declared.form.Head.TheVariants as head
use Rattle.rule_language.specs.Kinds.{role_named, is_same_sort}
use Rattle.rule_language.specs.Scopes.{Scope}
use Rattle.rule_language.specs.Trees.{Trees, no_trees, tree_then, joined_trees, RuleTree}
use Rattle.rule_language.specs.Tokens.{Token, Row, text_row, left, right}
use Rattle.rule_language.specs.Words.{or_cause, letter_in, unbound_in, bound_in, kind_for, Typed, term_in, whose_sort}
use Rattle.rule_language.specs.Words.{may_begin, head_for, opening, name_in}
use Rattle.rule_language.specs.Steps.{Read, ◌>>=◌, give, take, if_next, end, if_end, in_turn, after, closed, made_into}

-- a variable that isn't bound yet
abbrev pub new_variable : Scope → Read ℕ
new_variable scope = take (λ word. unbound_in scope (letter_in word))

-- a variable that is bound
abbrev pub a_variable : Scope → Read ℕ
a_variable scope = take (λ word. bound_in scope (letter_in word))

-- a kind of entries
abbrev pub a_kind : Read Kind
a_kind = take kind_for

-- a role
abbrev pub a_role : Read Role
a_role = take (λ word. or_cause Shape (role_named word))

-- a first term, which for an order has to have one
abbrev pub first_term : Bool → Scope → Read Typed
first_term ordered scope = take (λ word. whose_sort (may_begin ordered) (term_in scope word))

-- a second term, which has to have the sort of the first
abbrev pub second_term : Sort → Scope → Read Typed
second_term sort scope = take (λ word. whose_sort (is_same_sort sort) (term_in scope word))

-- two variables
abbrev pub pair : Scope → Read (ℕ × ℕ)
pair scope = closed (in_turn (a_variable scope) (λ v. a_variable scope))

-- a variable and a role
abbrev pub variable_and_role : Scope → Read (ℕ × Role)
variable_and_role scope = closed (in_turn (a_variable scope) (λ v. a_role))

-- a variable and a kind
abbrev pub variable_and_kind : Scope → Read (ℕ × Kind)
variable_and_kind scope = closed (in_turn (a_variable scope) (λ v. a_kind))

-- two terms of one sort
abbrev pub terms : Bool → Scope → Read (Typed × Typed)
terms ordered scope = closed (in_turn (first_term ordered scope) (λ first. second_term first.1 scope))

-- `before` and a variable, if they are there
abbrev pub range : Scope → Read (Option ℕ)
range scope = if_next (codes "before") (made_into Some (after (codes "before") (a_variable scope))) (give None)

-- the form of `every` or `some`, without or with `before` and a variable
abbrev pub quantifier : Bool → ℕ → Kind → Option ℕ → Form
quantifier true v kind None = form.ForEvery v kind
quantifier false v kind None = form.ForSome v kind
quantifier true v kind (Some u) = form.EveryBefore v kind u
quantifier false v kind (Some u) = form.SomeBefore v kind u

-- one formula of a form without others in it
abbrev pub atom : Form → Trees
atom form = tree_then form no_trees no_trees

-- one formula of a form with these in it
abbrev pub tree : Form → Trees → Trees
tree form parts = tree_then form parts no_trees

-- what a quantifier binds: a variable, a kind, and the variable before which its entries come; and its body
abbrev pub Bound : Type 0
Bound = ℕ × (Kind × (Option ℕ × Trees))

-- what a quantifier binds and its body, where `formula` reads a formula
unfoldable pub quantified : (Scope → Read Trees) → Scope → Read Bound
quantified formula scope =
    in_turn (new_variable scope) (λ v. in_turn a_kind (λ kind. in_turn (range scope) (λ u. closed (formula ((v, kind)
    ∷ scope)))))

-- the formula that a quantifier makes
abbrev pub quantified_tree : Bool → Bound → Trees
quantified_tree every q = tree (quantifier every q.0 q.1.0 q.1.1.0) q.1.1.1

-- a formula, and those after it
unfoldable pub row : Read Trees → Read Trees → Read Trees
row formula others = do
  first ← formula
  more ← others
  give (joined_trees first more)

-- up to so many formulas, and the parenthesis after them
unfoldable pub parts : ℕ → Read Trees → Read Trees
parts zero formula = closed (give no_trees)
parts (suc most) formula = if_next right (closed (give no_trees)) (row formula (parts most formula))

-- 1 to 64 formulas, and the parenthesis after them
abbrev pub several : Read Trees → Read Trees
several formula = row formula (parts 63 formula)

-- a formula after its parenthesis and first word, where `formula` reads those in it
unfoldable pub after_head : (Scope → Read Trees) → Scope → Head → Read Trees
after_head formula scope head.ForEvery = made_into (quantified_tree true) (quantified formula scope)
after_head formula scope head.ForSome = made_into (quantified_tree false) (quantified formula scope)
after_head formula scope head.And = made_into (tree form.And) (several (formula scope))
after_head formula scope head.Or = made_into (tree form.Or) (several (formula scope))
after_head formula scope head.Not = made_into (tree form.Not) (closed (formula scope))
after_head formula scope head.Implies = made_into (tree form.Implies) (row (formula scope) (closed (formula scope)))
after_head formula scope head.Same = made_into (λ two. atom (form.Same two.0 two.1)) (pair scope)
after_head formula scope head.Before = made_into (λ two. atom (form.Before two.0 two.1)) (pair scope)
after_head formula scope head.Next = made_into (λ two. atom (form.Next two.0 two.1)) (pair scope)
after_head formula scope head.Is = made_into (λ two. atom (form.Is two.0 two.1)) (variable_and_role scope)
after_head formula scope head.OfKind = made_into (λ two. atom (form.OfKind two.0 two.1)) (variable_and_kind scope)
after_head formula scope head.Equal = made_into (λ two. atom (form.Equal two.0.0 two.1.0)) (terms false scope)
after_head formula scope head.Less = made_into (λ two. atom (form.Less two.0.0 two.1.0)) (terms true scope)

-- a formula after its parenthesis
unfoldable pub inside : (Scope → Read Trees) → Scope → Read Trees
inside formula scope = do
  begun ← take (head_for scope)
  after_head formula scope begun

-- a formula in which so many more parentheses may open
unfoldable pub formula : ℕ → Scope → Read Trees
formula zero scope = take (opening zero) >>= λ opened. give (atom form.True)
formula (suc levels) scope = do
  opened ← take (opening (suc levels))
  if opened then inside (formula levels) scope else give (atom form.True)

-- a rule after others of these names, with 31 levels of parentheses in its own
unfoldable pub rule : List Token → Read RuleTree
rule names = after left (after (codes "rule") (made_into (λ two. record { name = two.0; body = two.1 })
    (in_turn (take (name_in names)) (λ name. closed (formula 31 [])))))

-- up to so many rules after others of these names, to the text's end
unfoldable pub more_rules : ℕ → List Token → Read (List RuleTree)
more_rules zero names = end >>= λ it. give []
more_rules (suc most) names = if_end (give []) (do
  first ← rule names
  others ← more_rules most (names ++ first.name ∷ [])
  give (first ∷ others))

-- 1 to 256 rules
unfoldable pub rules : Read (List RuleTree)
rules = do
  first ← rule []
  others ← more_rules 255 (first.name ∷ [])
  give (first ∷ others)

-- the answer without what is left
abbrev pub without_rest : {A : Type 0} → Result (A × Row) RuleFault → Result A RuleFault
without_rest (Ok read) = Ok read.0
without_rest (Err fault) = Err fault

-- the rules of a text, or the place and the cause of its first fault
unfoldable pub rules_of : List ℕ → Result (List RuleTree) RuleFault
rules_of text = without_rest (rules (text_row text))
