-- What is answered of rules, one after another.
use Rattle.std.specs.Prelude.{◌≡◌, ℕ, ◌<◌, true, false, List, Some, slice_get, Ok}
use Rattle.std.specs.List.{AllZip}
use Rattle.precedence.specs.Graph.{Graph}
use Rattle.rule_language.specs.declared.row.Row.{Row}
use Rattle.rule_language.specs.Trees.{RuleTree}
use Rattle.rule_meaning.specs.Widths.{is_too_wide}
use Rattle.rule_engine.specs.Verdicts.{IsJudged}
use Rattle.rule_engine.specs.declared.rules.Unjudged.{Unjudged}
use Rattle.rule_engine.specs.declared.rules.Unjudged.TheVariants.{TooWide, Memory}
use Rattle.rule_engine.specs.declared.verdict.Verdict.{Verdict}

-- one verdict for each rule
abbrev pub AreJudged : List Row → Graph → List RuleTree → List Verdict → Type 0
AreJudged rows graph = AllZip (λ rule verdict. IsJudged rows graph rule.body (Ok verdict))

-- the place of the first rule that is too wide, counted from 0
pub record IsFirstTooWide (rows : List Row) (rules : List RuleTree) (place : ℕ) : Type 0 where
  pub rule : RuleTree
  pub stands : slice_get rules place ≡ Some rule
  pub too_wide : is_too_wide rows rule.body 1 ≡ true
  pub first : (i : ℕ) (earlier : RuleTree) → i < place → slice_get rules i ≡ Some earlier →
      is_too_wide rows earlier.body 1 ≡ false

-- where rules aren't judged, the place is that of the first that is too wide
abbrev pub IsUnjudged : List Row → List RuleTree → Unjudged → Type 0
IsUnjudged rows rules (TooWide place) = IsFirstTooWide rows rules place
IsUnjudged rows rules Memory = Unit {0}
