-- The trees of formulas, level by level.
use Rattle.rule_language.specs.declared.form.Form.TheVariants as form
use Rattle.rule_language.proofs.Imports.{[], ap, Form, joined_trees, List, no_trees, parts_of, refl, rules, sym}
use Rattle.rule_language.proofs.Imports.{tree_then, Trees, trees_of, ◌++◌, ◌∙◌, ◌∷◌, ◌≡◌}
use Rattle.rule_language.specs.Forms.{in_front, tree_of, tree_step}
use Rattle.rule_language.specs.declared.formula.Formula.{And, fold_out-Formula, Formula, Implies, map-Formula, Or}
use Rattle.rule_language.specs.declared.formula.Formula.{out-Formula, the_lemmas, TheOpen.Formula-F}
use Rattle.std.proofs.Common.{Box, Global, Vec}

-- the formulas of an `and` are its list, in order
pub view-And : (v : Vec Formula Global) → tree_of (And v) ≡ tree_then form.And (trees_of v.items) no_trees
view-And v = search (rules, the_lemmas)

-- the formulas of an `or` are its list, in order
pub view-Or : (v : Vec Formula Global) → tree_of (Or v) ≡ tree_then form.Or (trees_of v.items) no_trees
view-Or v = search (rules, the_lemmas)

-- an `implies` has its two formulas in it, the condition first
pub view-Implies : (a b : Box Formula Global) → tree_of (Implies a b) ≡ tree_then form.Implies
    (in_front a.value (tree_of b.value)) no_trees
view-Implies a b = search (rules, the_lemmas)

-- a formula is one form with parts, put in front of others
abbrev pub IsInFront : (Trees → Trees) → Form → Trees → Type 0
IsInFront put form parts = (rest : Trees) → put rest ≡ tree_then form parts rest

-- the form that is first in a row
abbrev form_in : Trees → Form
form_in no_trees = form.True
form_in (tree_then form parts rest) = form

-- one level puts one form with its parts in front, whatever is inside
shape_step : (x : Formula-F (Trees → Trees)) → (form : Form) × (parts : Trees) × IsInFront (tree_step x) form parts
shape_step Formula-F.True = (form.True, no_trees, λ rest. refl)
shape_step x = (form_in (tree_step x no_trees), parts_of (tree_step x no_trees), λ rest. refl)

-- each formula puts one form with its parts in front
pub shape : (f : Formula) → (form : Form) × (parts : Trees) × IsInFront (in_front f) form parts
shape f =
    let (outer, parts, is) = shape_step (map-Formula Formula (Trees → Trees) in_front (out-Formula f)) in (
      outer,
      parts,
      λ rest. ap (λ (put : Trees → Trees). put rest) (fold_out-Formula (Trees → Trees) tree_step f) ∙ is rest,
    )

-- a formula in front of others is its tree and then those
pub front : (f : Formula) (rest : Trees) → in_front f rest ≡ joined_trees (tree_of f) rest
front f rest =
    let (outer, parts, is) = shape f in
    is rest ∙ ap (λ row. joined_trees row rest) (sym (is no_trees))

-- rows one after another may be joined in any order
pub joined : (a b c : Trees) → joined_trees (joined_trees a b) c ≡ joined_trees a (joined_trees b c)
joined no_trees b c = refl
joined (tree_then form parts rest) b c = ap (tree_then form parts) (joined rest b c)

-- one formula more is after the others
pub trees_push : (fs : List Formula) (f : Formula) → trees_of (fs ++ f ∷ []) ≡ joined_trees (trees_of fs) (tree_of f)
trees_push [] f = refl
trees_push (g ∷ fs) f = rw (front g (trees_of (fs ++ f ∷ [])), front g (trees_of fs), trees_push fs f)
    (sym (joined (tree_of g) (trees_of fs) (tree_of f)))

-- and no row after it changes nothing
pub no_more : (a : Trees) → joined_trees a no_trees ≡ a
no_more no_trees = refl
no_more (tree_then form parts rest) = ap (tree_then form parts) (no_more rest)

-- the formulas of an `implies` in a row
pub view-Both : (a b : Box Formula Global) → tree_of (Implies a b) ≡ tree_then form.Implies
    (joined_trees (tree_of a.value) (tree_of b.value)) no_trees
view-Both a b = view-Implies a b ∙ ap (λ row. tree_then form.Implies row no_trees) (front a.value (tree_of b.value))

-- the trees of formulas of each form
pub ruleset views = (view-Both, the_lemmas)
