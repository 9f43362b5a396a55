-- Survivors more, which come after all others.
use Rattle.std.specs.Prelude.{◌≡◌, ℕ, ◌≤◌, Bool, List, ◌++◌, ◌∷◌, [], Ok, length, take}
use Rattle.std.specs.List.{AllZip}
use Rattle.entry_graph.specs.EntryGraph.{Links, parents_of}
use Rattle.entry_order.specs.Ancestors.{Descends}
use Rattle.entry_order.specs.declared.three.Three.{Three}
use Rattle.rule_language.specs.declared.row.Row.{Row}
use Rattle.rule_language.specs.Trees.{RuleTree}
use Rattle.rule_engine.specs.Judged.{AreJudged}
use Rattle.rule_engine.specs.Verdicts.{IsJudgeAnswer}
use Rattle.rule_engine.specs.declared.verdict.Verdict.{Verdict}
use Rattle.live_auditor.specs.inside.Kept.{SurvivorsKept, nodes_by}

-- one verdict for each rule, by these rows and what is known of their order
abbrev pub AreJudgedOver : List Row → (ℕ → ℕ → Three) → (ℕ → Bool) → List RuleTree → List Verdict → Type 0
AreJudgedOver rows order wholes = AllZip (λ rule verdict. IsJudgeAnswer rows order wholes rule.body (Ok verdict))

-- the rows and links of survivors, of which the first have these verdicts
pub record IsGrowth (rows : List Row) (links : List Links) (count : ℕ) (rules : List RuleTree)
    (verdicts : List Verdict) : Type 0 where
  pub falls : Descends (parents_of links)
  pub one_each : length rows ≡ length links
  pub few : length links ≤ 16384
  pub first : count ≤ length links
  pub judged : AreJudged (take count rows) (nodes_by (take count links)) rules verdicts

-- what is kept with one survivor more: its digest and its link, and the rows of all
abbrev pub kept_with : SurvivorsKept → List ℕ → List Row → Links → SurvivorsKept
kept_with kept digest rows link = record {
  digests = kept.digests ++ digest ∷ [];
  rows = rows;
  links = kept.links ++ link ∷ [];
}
