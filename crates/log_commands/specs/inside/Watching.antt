-- What files give `watch`, step by step.
use Rattle.std.specs.Prelude.{◌≡◌, ℕ, List, [], ◌∷◌, ◌++◌, map, Option, Result, Ok, ◌⊎◌, codes}
use Rattle.std.specs.Fmt.{decimal}
use Rattle.std.specs.List.{Contains}
use Rattle.roster.specs.declared.post.Post.{Post}
use Rattle.entry_format.specs.Nodes.{node_of_sealed}
use Rattle.entry_format.specs.SealedEntry.{SealedEntry}
use Rattle.entry_order.specs.Naming.{IsNew}
use Rattle.log_files.specs.Logs.{LogRead}
use Rattle.rule_language.specs.declared.formula.Rule.{Rule}
use Rattle.rule_language.specs.Forms.{rule_tree}
use Rattle.rule_language.specs.Trees.{RuleTree}
use Rattle.evidence.specs.declared.roster_file.RosterRead.{RosterRead}
use Rattle.evidence.specs.Refusal.{Refusal}
use Rattle.evidence.specs.Logs.{GivesLogs}
use Rattle.log_files.specs.Lines.{line}
use Rattle.auditor.specs.Audits.{AndThen, RulesThen}
use Rattle.auditor.specs.Sources.{RuleSource}
use Rattle.live_auditor.specs.Adding.{IsTooWideOver}
use Rattle.live_auditor.specs.Live.{LiveState}
use Rattle.live_auditor.specs.Summary.{Summary}
use Rattle.log_commands.specs.declared.watch.EvidenceRead.{EvidenceRead}
use Rattle.log_commands.specs.declared.watch.Unwatched.{Unwatched}
use Rattle.log_commands.specs.declared.watch.Unwatched.TheVariants.{TooWide, Memory}
use Rattle.log_commands.specs.Watch.{Evidence}
use Rattle.log_commands.specs.Watch.{AreSummaries, IsTooWideAfter, watch_lines}

-- the evidence of machines, rules and logs, with the rules as they were read
abbrev pub evidence_by : List Post → List Rule → List LogRead → Evidence
evidence_by machines rules logs = record {
  machines = machines;
  rules = map rule_tree rules;
  logs = logs;
}

-- what was read
abbrev pub evidence_of : EvidenceRead → Evidence
evidence_of found = evidence_by found.roster.machines found.rules.items found.logs.items

-- what the files of logs give with the roster and the rules
abbrev pub ReadsLogs : RosterRead → List RuleTree → List (List ℕ) → List (Option (List ℕ)) →
    Result Evidence Refusal → Type 0
ReadsLogs read rules names files =
    AndThen (GivesLogs read.roster.machines read.election names files)
    (λ logs answer.
    answer ≡ Ok (record { machines = read.roster.machines; rules = rules; logs = logs }))

-- what the file of the rules, if there is one, and those of the logs give with the roster
abbrev pub ReadsRules : RosterRead → RuleSource → List (List ℕ) → List (Option (List ℕ)) →
    Result Evidence Refusal → Type 0
ReadsRules read source names = RulesThen source (λ rules files. ReadsLogs read rules names files)

-- what was added after e: it is there already, or it is new and comes last
abbrev pub AddsTo : List SealedEntry → SealedEntry → List SealedEntry → Type 0
AddsTo added e next =
    (Contains added e × (next ≡ added)) ⊎ (IsNew node_of_sealed added e × (next ≡ added ++ e ∷ []))

-- why e isn't added
abbrev pub IsUnadded : LiveState → SealedEntry → Unwatched → Type 0
IsUnadded live e (TooWide place) =
    IsNew node_of_sealed live.added e
    × IsTooWideOver live.machines (map rule_tree live.rules) (live.added ++ e ∷ []) place
IsUnadded live e Memory = Unit {0}

-- why the entries aren't watched
abbrev pub IsUnwatched : List Post → List RuleTree → List SealedEntry → Unwatched → Type 0
IsUnwatched machines rules entries (TooWide place) = IsTooWideAfter machines rules entries place
IsUnwatched machines rules entries Memory = Unit {0}

-- the text has the lines of these entries
abbrev pub AreLinesOf : List Post → List RuleTree → List SealedEntry → List ℕ → Type 0
AreLinesOf machines rules entries text =
    (summaries : List Summary) × AreSummaries machines rules entries summaries
    × (text ≡ watch_lines 1 summaries)

-- the first half of a line: the entries, the survivors and the gaps
abbrev pub first_half : ℕ → ℕ → ℕ → List ℕ
first_half n survivors gaps =
    decimal n ++ codes " " ++ decimal survivors ++ codes " gaps " ++ decimal gaps

-- the second half of a line: how many rules are kept, broken and unsettled
abbrev pub second_half : ℕ → ℕ → ℕ → List ℕ
second_half kept broken unsettled =
    line (codes " kept " ++ decimal kept ++ codes " broken " ++ decimal broken
    ++ codes " unsettled " ++ decimal unsettled)
