-- Where the rules of an audit come from.
use Rattle.std.specs.Prelude.{◌≡◌, ◌⊎◌, ℕ, ◌<◌, ◌≤◌, List, [], ◌∷◌, length, codes, Option, Some, None, Result, Ok, Err}
use Rattle.input_causes.specs.declared.rules.RuleWhy.{RuleWhy}
use Rattle.input_causes.specs.Causes.{rule_why_word}
use Rattle.rule_language.specs.Trees.{RuleTree}
use Rattle.rule_language.specs.Reading.{Reads, IsFirstFault}
use Rattle.evidence.specs.Refusal.{Refusal, absent, refused, too_long}
use Rattle.auditor.specs.declared.auditing.RulesFrom.{RulesFrom}
use Rattle.auditor.specs.declared.auditing.RulesFrom.TheVariants.{Standard, File}

-- the standard rules, or those in a file
pub data RuleSource : Type 0 where
  standard : RuleSource
  in_file : (name : List ℕ) → RuleSource

-- the source that a caller asks for
abbrev pub source_of : RulesFrom → RuleSource
source_of Standard = standard
source_of (File name) = in_file name.now

-- the word that names the rules in a refusal
abbrev pub source_word : RuleSource → List ℕ
source_word standard = codes "standard"
source_word (in_file name) = name

-- the files that are read for the rules
abbrev pub rule_files : RuleSource → List (List ℕ)
rule_files standard = []
rule_files (in_file name) = name ∷ []

-- the most bytes of a file of rules
abbrev pub max_rules : ℕ
max_rules = 4194304

-- the file of rules is refused with the place and the cause of its first fault
abbrev pub IsRulesRefusal : List ℕ → List ℕ → Refusal → Type 0
IsRulesRefusal name bytes refusal =
    (at : ℕ) × (why : RuleWhy) × IsFirstFault bytes at why
    × (refusal ≡ refused name at (rule_why_word why))

-- what the file of rules gives, or that there is none
abbrev pub GivesRules : List ℕ → Option (List ℕ) → Result (List RuleTree) Refusal → Type 0
GivesRules name None answer = answer ≡ Err (absent name)
GivesRules name (Some bytes) (Ok rules) = (length bytes ≤ max_rules) × Reads bytes (Ok rules)
GivesRules name (Some bytes) (Err refusal) =
    ((max_rules < length bytes) × (refusal ≡ too_long name))
    ⊎ ((length bytes ≤ max_rules) × IsRulesRefusal name bytes refusal)
