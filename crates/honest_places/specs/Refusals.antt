-- Why an audit of what is left of an honest place is refused.
use Rattle.std.specs.Prelude.{◌≡◌, ◌⊎◌, ℕ, List, codes, Option, Ok, Err}
use Rattle.rule_language.specs.Trees.{RuleTree}
use Rattle.evidence.specs.Refusal.{Refusal, refused}
use Rattle.auditor.specs.Sources.{RuleSource, standard, in_file, GivesRules}

-- By the standard rules there is no refusal. Where the rules are in a file, this file is refused,
-- or one of its rules is too wide.
abbrev pub IsHonestRefusal : RuleSource → Option (List ℕ) → Refusal → Type 0
IsHonestRefusal standard file refusal = ⊥
IsHonestRefusal (in_file name) file refusal =
    GivesRules name file (Err refusal)
    ⊎ ((rules : List RuleTree) × (place : ℕ) × GivesRules name file (Ok rules)
    × (refusal ≡ refused name place (codes "TooWide")))
