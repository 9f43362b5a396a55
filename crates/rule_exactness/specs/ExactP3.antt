-- P3 in a form that says the same, and of which unsettled is exact without a condition.
use Rattle.std.specs.Prelude.{◌↔◌, ℕ, Bool, List, map}
use Rattle.entry_order.specs.Node.{Node}
use Rattle.entry_order.specs.Settled.{IsGraphOf}
use Rattle.rule_language.specs.declared.row.Row.{Row}
use Rattle.rule_language.specs.declared.kind.Kind.{Kind}
use Rattle.rule_language.specs.declared.kind.Kind.TheVariants as kind
use Rattle.rule_language.specs.declared.kind.Field.TheVariants as field
use Rattle.rule_language.specs.declared.term.Term.TheVariants.{Of}
use Rattle.rule_language.specs.declared.form.Form.TheVariants as form
use Rattle.rule_language.specs.Trees.{Trees, no_trees, tree_then}
use Rattle.rule_meaning.specs.Meaning.{Holds}
use Rattle.rule_meaning.specs.Values.{three_in}
use Rattle.rule_meaning.specs.Sound.{HasNoDouble}
use Rattle.rule_exactness.specs.Exact.{AreWellFormed, IsAllThatIsTold}

-- an end of the session of x, whose letter is 120, before an entry, put in front of others
abbrev pub end_before : Kind → ℕ → Trees → Trees
end_before k u rest =
    tree_then (form.SomeBefore 122 k u)
    (tree_then (form.Equal (Of 122 field.Session) (Of 120 field.Session)) no_trees no_trees) rest

-- the three kinds of ends before an entry, put in front of others
abbrev pub ends_before : ℕ → Trees → Trees
ends_before u rest = end_before kind.Cast u (end_before kind.Cancel u (end_before kind.Challenge u rest))

-- P3: a session authorised before a closing has its cast, cancellation or challenge before it, or
-- even before its authorising
abbrev pub exact_p3_body : Trees
exact_p3_body =
    tree_then (form.ForEvery 120 kind.Authorise)
    (tree_then (form.ForEvery 121 kind.Closed)
    (tree_then form.Implies
    (tree_then (form.Before 120 121) no_trees
    (tree_then form.Or (ends_before 121 (ends_before 120 no_trees)) no_trees))
    no_trees)
    no_trees)
    no_trees

module _ {T : Type 0} (node : T → Node) (row : T → Row) where
  -- the rules hold of the same entries, whichever of them survive
  abbrev pub SayTheSame : Trees → Trees → Type 0
  SayTheSame rule other = (S G : List T) → Holds node row S G rule ↔ Holds node row S G other

  -- nobody can tell more of the rule by the same survivors
  abbrev pub ExactP3IsExact : (T → Type 0) → Type 0
  ExactP3IsExact MayBe =
      (machines : ℕ) (S : List T) (parents : ℕ → List ℕ) (ragged : ℕ → Bool) → HasNoDouble S →
      AreWellFormed node row machines S → IsGraphOf node S parents ragged →
      IsAllThatIsTold node row MayBe (λ G. Unit {0}) machines S exact_p3_body
      (three_in (map row S) parents ragged exact_p3_body)
