-- Rules of one's own of which unsettled is exact.
use Rattle.std.specs.Prelude.{◌≡◌, ℕ, Bool, true, false, ◌&&◌, ◌==◌, not, if◌then◌else◌}
use Rattle.std.specs.Prelude.{List, [], ◌∷◌, Option, Some, None, bytes_eq}
use Rattle.std.specs.List.{list_any}
use Rattle.rule_language.specs.declared.kind.Kind.{Kind}
use Rattle.rule_language.specs.declared.kind.Kind.TheVariants as kind
use Rattle.rule_language.specs.declared.kind.Field.{Field}
use Rattle.rule_language.specs.declared.kind.Field.TheVariants as field
use Rattle.rule_language.specs.declared.term.Term.TheVariants.{Of}
use Rattle.rule_language.specs.declared.form.Form.{Form}
use Rattle.rule_language.specs.declared.form.Form.TheVariants as form
use Rattle.rule_language.specs.Kinds.{field_word, has_booth, has_field}
use Rattle.rule_language.specs.Trees.{Trees, no_trees, tree_then}

-- that a variable's field is another variable's
pub record Equation : Type 0 where
  pub asked : Field
  pub of : ℕ
  pub given : Field

-- what the form says of v's field, if it is `(= v.FIELD w.FIELD)`
abbrev pub equation : ℕ → Form → Option Equation
equation v (form.Equal (Of a f) (Of b g)) =
    if a == v then Some (record { asked = f; of = b; given = g }) else None
equation v form = None

-- one equation in front of others, if each is one
abbrev pub one_more : Option Equation → Option (List Equation) → Option (List Equation)
one_more (Some e) (Some es) = Some (e ∷ es)
one_more e es = None

-- the equations that formulas are, if each is one
abbrev pub equations : ℕ → Trees → Option (List Equation)
equations v no_trees = Some []
equations v (tree_then form no_trees rest) = one_more (equation v form) (equations v rest)
equations v other = None

-- what a body asks of v: `true`, one equation, or `and` of some
abbrev pub body_asks : ℕ → Trees → Option (List Equation)
body_asks v (tree_then form.True no_trees no_trees) = Some []
body_asks v (tree_then form.And parts no_trees) = equations v parts
body_asks v body = equations v body

-- whether two fields are one, by their words
abbrev pub is_field : Field → Field → Bool
is_field f g = bytes_eq (field_word f) (field_word g)

-- whether an entry of the kind can have the other entry's value in the field, whatever it is
abbrev pub can_ask : Kind → Field → Field → Bool
can_ask k field.Booth field.Maker = has_booth k
can_ask k f g = is_field f g && has_field k f

-- whether an entry of the kind can meet all of them: each asks for another field, and for its value in
-- an entry of another bound variable
abbrev pub can_meet : List ℕ → ℕ → Kind → List Equation → Bool
can_meet bound v k [] = true
can_meet bound v k (e ∷ es) =
    (list_any (λ u. e.of == u) bound && (not (e.of == v) && can_ask k e.asked e.given))
    && (not (list_any (λ d. is_field e.asked d.asked) es) && can_meet bound v k es)

-- whether a body asks for equations that an entry of the kind can meet
abbrev pub can_be_met : List ℕ → ℕ → Kind → Option (List Equation) → Bool
can_be_met bound v k None = false
can_be_met bound v k (Some es) = can_meet bound v k es

-- the kind of some entries, and not `entry`
abbrev pub is_real : Kind → Bool
is_real kind.Any = false
is_real k = true

-- of tests of formulas in a row the first
abbrev pub first_test : List (Bool → Bool) → Bool → Bool
first_test [] p = true
first_test (t ∷ ts) p = t p

-- the second
abbrev pub second_test : List (Bool → Bool) → Bool → Bool
second_test [] p = true
second_test (t ∷ ts) p = first_test ts p

-- all of them
abbrev pub all_tests : List (Bool → Bool) → Bool → Bool
all_tests [] p = true
all_tests (t ∷ ts) p = t p && all_tests ts p

-- Whether lost entries of the kinds that `filled` tells lead the form to the truth value p, whatever
-- the survivors are. A form that asks what came before (`some v KIND before u BODY`) is led to true
-- where its kind is one of these, and to false where it isn't; `every .. before` and `before` are never
-- led; a connective is led as its parts are, and what is said of single entries goes either way.
abbrev pub leads_form : (Kind → Bool) → List ℕ → Form → Trees → (List ℕ → List (Bool → Bool)) → Bool → Bool
leads_form filled bound (form.ForEvery v k) parts inside p = first_test (inside (v ∷ bound)) p
leads_form filled bound (form.ForSome v k) parts inside p = first_test (inside (v ∷ bound)) p
leads_form filled bound (form.EveryBefore v k u) parts inside p = false
leads_form filled bound (form.SomeBefore v k u) parts inside p =
    (is_real k && (if p then filled k else not (filled k))) && can_be_met bound v k (body_asks v parts)
leads_form filled bound form.And parts inside p = all_tests (inside bound) p
leads_form filled bound form.Or parts inside p = all_tests (inside bound) p
leads_form filled bound form.Not parts inside p = first_test (inside bound) (not p)
leads_form filled bound form.Implies parts inside p =
    first_test (inside bound) (not p) && second_test (inside bound) p
leads_form filled bound (form.Before v u) parts inside p = false
leads_form filled bound form parts inside p = true

-- the same of formulas in a row, of each one
abbrev pub leads : (Kind → Bool) → Trees → List ℕ → List (Bool → Bool)
leads filled no_trees bound = []
leads filled (tree_then form parts rest) bound =
    leads_form filled bound form parts (leads filled parts) ∷ leads filled rest bound

-- some kinds of entries lead the rule to the truth value
pub record IsLed (rule : Trees) (p : Bool) : Type 0 where
  pub filled : Kind → Bool
  pub some : Kind
  pub real : is_real some ≡ true
  pub is_filled : filled some ≡ true
  pub led : first_test (leads filled rule []) p ≡ true

-- some kinds lead it to true, and some to false: no kind is both asked for and forbidden
pub record IsTwoSided (rule : Trees) : Type 0 where
  pub up : IsLed rule true
  pub down : IsLed rule false
