-- The first rule that is too wide.
use Rattle.live_auditor.proofs.Imports.{arith, false, get_or, is_too_wide, IsFirstTooWide, length}
use Rattle.live_auditor.proofs.Imports.{length-map, List, map, refl, Row, Rule, rule_tree, RuleTree, slice_get}
use Rattle.live_auditor.proofs.Imports.{slice_get-map, slice_get_read, slice_get_within, Some, sym, true, true≢false, ℕ}
use Rattle.live_auditor.proofs.Imports.{◌+◌, ◌<◌, ◌∙◌, ◌≡◌, ◌≤◌}

-- the first rules aren't too wide
abbrev pub AreNarrow : List Row → List Rule → ℕ → Type 0
AreNarrow rows rules k =
    (i : ℕ) (rule : RuleTree) → i < k → slice_get (map rule_tree rules) i ≡ Some rule →
    is_too_wide rows rule.body 1 ≡ false

module _ (rows : List Row) (rules : List Rule) (k : ℕ) (rule : Rule) (within : k < length rules)
    (is : rule ≡ get_or rules k rule) (so_far : AreNarrow rows rules k) where
  -- the tree of the rule at a place is at the same place among the trees
  tree_at : slice_get (map rule_tree rules) k ≡ Some (rule_tree rule)
  tree_at = rw (slice_get-map rule_tree rules k, slice_get_read rules (length rules) k rule refl within is)

  -- the next rule is the first that is too wide, if it is
  pub first_wide : is_too_wide rows (rule_tree rule).body 1 ≡ true → IsFirstTooWide rows (map rule_tree rules) k
  first_wide wide = record { rule = rule_tree rule; stands = tree_at; too_wide = wide; first = so_far }

  -- otherwise one more isn't
  pub narrow_more : is_too_wide rows (rule_tree rule).body 1 ≡ false → AreNarrow rows rules (k + 1)
  narrow_more narrow i tree below there = grind (arith, tree_at, so_far i tree)

-- where no rule is too wide there is no first one
pub none_first : (rows : List Row) (rules : List Rule) (k : ℕ) → length rules ≤ k → AreNarrow rows rules k →
    (place : ℕ) → IsFirstTooWide rows (map rule_tree rules) place → ⊥
none_first rows rules k all narrow place first =
    let within = slice_get_within (map rule_tree rules) place first.rule first.stands in
    true≢false (sym first.too_wide
    ∙ narrow place first.rule (omega (arith, within, all, length-map rules rule_tree)) first.stands)
