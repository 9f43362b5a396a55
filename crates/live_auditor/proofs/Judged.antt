-- Verdicts by the rows of survivors, as they are where others come after them.
use Rattle.live_auditor.proofs.Imports
use Imports.{[], All, all_below, any_below, ap, AreJudged, AreJudgedOver, arith, before, Bool, ComesBeforeNone}
use Imports.{cond_both, Contains-get_or, False, false, get_or, is_true, is_whole, IsGrowth, IsJudgeAnswer, IsKnownOf}
use Imports.{Known, known_before, known_whole, length, length-take-le, Links, List, list_any_none, map, ne_eqb}
use Imports.{nodes_by, not, Ok, or_from, parents_of, ragged_of, reaches, refl, Row, Rule, rule_tree, RuleTree}
use Imports.{same_answer, suc, take, Three, Unknown, Verdict, zero, ℕ, ◌&&◌, ◌<◌, ◌==◌, ◌||◌, ◌∷◌, ◌≡◌, ◌≤◌}
use Rattle.live_auditor.proofs.Ends.{slice_get_take}

-- whether z is y, or y is reached from z by n arrows
abbrev step : List Links → ℕ → ℕ → ℕ → Bool
step links n y z = (z == y) || reaches (parents_of links) n y z

-- whether x is whole as far as n arrows lead
abbrev whole : List Links → ℕ → ℕ → Bool
whole links n x = is_whole (parents_of links) (ragged_of links) n x

module _ {rows : List Row} {links : List Links} {count : ℕ} {trees : List RuleTree} {verdicts : List Verdict}
    (growth : IsGrowth rows links count trees verdicts) where
  -- the first of the survivors' links
  abbrev early : List Links
  early = take count links

  -- parents are below their children
  lower : (x : ℕ) → All (λ z. z < x) (parents_of links x)
  lower x k d within =
      growth.falls x (get_or (parents_of links x) k d) (Contains-get_or (parents_of links x) k d within)

  -- each of the first is reached from the same ones as it was
  same_reach : (n y x : ℕ) → x < count → reaches (parents_of links) n y x ≡ reaches (parents_of early) n y x
  same_reach zero y x low = refl
  same_reach (suc n) y x low =
      rw (slice_get_take count links x low) (any_below (step links n y) (step early n y) x
      (λ z less. ap (λ (b : Bool). (z == y) || b) (same_reach n y z (omega (arith, less, low)))) (parents_of links x)
      (lower x))

  -- and is whole if it was
  same_whole : (n x : ℕ) → x < count → whole links n x ≡ whole early n x
  same_whole zero x low = rw (slice_get_take count links x low)
  same_whole (suc n) x low =
      rw (slice_get_take count links x low) (ap (λ (b : Bool). not (ragged_of links x) && b)
      (all_below (whole links n) (whole early n) x (λ z less. same_whole n z (omega (arith, less, low)))
      (parents_of links x) (lower x)))

  -- a place isn't reached from one that isn't above it
  not_reached : (n y x : ℕ) → x ≤ y → reaches (parents_of links) n y x ≡ false
  not_reached zero y x past = refl
  not_reached (suc n) y x past =
      list_any_none (step links n y) (parents_of links x) (λ k d within.
      let z = get_or (parents_of links x) k d in
      let below = lower x k d within in
      or_from (z == y) (reaches (parents_of links) n y z) (ne_eqb z y (λ same. omega (arith, same, below, past)))
      (not_reached n y z (omega (arith, below, past))))

  module _ {known : Known} (is : IsKnownOf (nodes_by links) known) where
    -- a later survivor comes before none of the first
    pub last_comes_last : ComesBeforeNone count (known_before known)
    last_comes_last y x low past =
        rw (is.orders y x (omega (arith, low, growth.first)), not_reached x y x (omega (arith, low, past)))
        (cond_both (whole links x x) False Unknown (λ t. is_true t ≡ false) (λ _. refl) (λ _. refl))

    -- verdicts by the first links are verdicts by what is known of the order
    judged_each : (trees : List RuleTree) (verdicts : List Verdict) →
        AreJudged (take count rows) (nodes_by early) trees verdicts →
        AreJudgedOver (take count rows) (known_before known) (known_whole known) trees verdicts
    judged_each [] [] judged = tt
    judged_each (t ∷ trees) (v ∷ verdicts) judged =
        let counted = length-take-le count rows (omega (arith, growth.first, growth.one_each)) in (
          same_answer (take count rows) (before (parents_of early) (ragged_of early)) (known_before known)
              (λ x. whole early x x) (known_whole known)
              (λ y x low. let less : x < count = omega (arith, low, counted) in
              rw (is.orders y x (omega (arith, less, growth.first)), same_reach x y x less, same_whole x x less))
              (λ x low. let less : x < count = omega (arith, low, counted) in
              rw (is.wholes x (omega (arith, less, growth.first)), same_whole x x less))
              t.body (Ok v) judged.0,
          judged_each trees verdicts judged.1,
        )
    judged_each trees verdicts judged = absurd judged

    -- so are the verdicts on the first survivors
    pub judged_over : AreJudgedOver (take count rows) (known_before known) (known_whole known) trees verdicts
    judged_over = judged_each trees verdicts growth.judged

module _ (rows : List Row) (order : ℕ → ℕ → Three) (wholes : ℕ → Bool) where
  -- a verdict is on the rule at its place
  pub judged_at : (rules : List Rule) (verdicts : List Verdict) (i : ℕ) (rule : Rule) (verdict : Verdict) →
      AreJudgedOver rows order wholes (map rule_tree rules) verdicts → i < length rules →
      rule ≡ get_or rules i rule → verdict ≡ get_or verdicts i verdict →
      IsJudgeAnswer rows order wholes (rule_tree rule).body (Ok verdict)
  judged_at [] verdicts i rule verdict judged low is also = absurd (omega (arith, low))
  judged_at (r ∷ rules) [] i rule verdict judged low is also = absurd judged
  judged_at (r ∷ rules) (v ∷ verdicts) zero rule verdict judged low is also = rw (is, also) judged.0
  judged_at (r ∷ rules) (v ∷ verdicts) (suc i) rule verdict judged low is also =
      judged_at rules verdicts i rule verdict judged.1 (omega arith) is also
