-- Rules have one verdict.
use Rattle.auditor.proofs.Imports.{[], Agree, AllZip, AreJudged, before, Bool, Broken, cases_order, Err, GivesVerdicts}
use Rattle.auditor.proofs.Imports.{Graph, inl, inr, is_whole, IsFirstTooWide, IsVerdict, judged_is_narrow, List, Ok}
use Rattle.auditor.proofs.Imports.{Refusal, Result, Row, RuleSource, RuleTree, SameVerdict, sym, Three, Trees}
use Rattle.auditor.proofs.Imports.{Unsettled, Verdict, ℕ, ◌∙◌, ◌∷◌, ◌≡◌}
use Rattle.rule_engine.specs.declared.verdict.Verdict.TheVariants.{Kept}

-- a rule has one verdict
one_verdict : (rows : List Row) (order : ℕ → ℕ → Three) (wholes : ℕ → Bool) (tree : Trees) (v w : Verdict) →
    IsVerdict rows order wholes tree v → IsVerdict rows order wholes tree w → SameVerdict v w
one_verdict rows order wholes tree Kept Kept a b = tt
one_verdict rows order wholes tree (Broken p) (Broken q) (_, places) (_, also) = places ∙ sym also
one_verdict rows order wholes tree Unsettled Unsettled a b = tt
one_verdict rows order wholes tree v w a b = absurd (cc)

-- two places at which a rule is the first that is too wide are one
pub one_place : (rows : List Row) (rules : List RuleTree) (p q : ℕ) → IsFirstTooWide rows rules p →
    IsFirstTooWide rows rules q → p ≡ q
one_place rows rules p q a b =
    elim (cases_order p q) [
      | inl e ↦ e
      | inr (inl less) ↦ absurd (cc (b.first p a.rule less a.stands, a.too_wide))
      | inr (inr more) ↦ absurd (cc (a.first q b.rule more b.stands, b.too_wide))
    ]

module _ (rows : List Row) (graph : Graph) where
  -- each rule has one verdict
  each_agrees : (rules : List RuleTree) (vs ws : List Verdict) → AreJudged rows graph rules vs →
      AreJudged rows graph rules ws → AllZip SameVerdict vs ws
  each_agrees [] [] [] a b = tt
  each_agrees (r ∷ rules) (v ∷ vs) (w ∷ ws) a b = (
    one_verdict rows (before graph.parents graph.ragged) (λ x. is_whole graph.parents graph.ragged x x) r.body v w
        a.0.1 b.0.1,
    each_agrees rules vs ws a.1 b.1,
  )
  each_agrees rules vs ws a b = search

  -- rules give one answer
  pub verdicts_agree : (source : RuleSource) (rules : List RuleTree) (p q : Result (List Verdict) Refusal) →
      GivesVerdicts source rows graph rules p → GivesVerdicts source rows graph rules q →
      Agree (AllZip SameVerdict) p q
  verdicts_agree source rules (Ok vs) (Ok ws) a b = each_agrees rules vs ws a b
  verdicts_agree source rules (Ok vs) (Err s) a (place, first, e) =
      absurd (cc (judged_is_narrow rows graph rules vs place first.rule a first.stands, first.too_wide))
  verdicts_agree source rules (Err r) (Ok ws) (place, first, e) b =
      absurd (cc (judged_is_narrow rows graph rules ws place first.rule b first.stands, first.too_wide))
  verdicts_agree source rules (Err r) (Err s) (place, first, e) (place', first', e') =
      cc (one_place rows rules place place' first first')
