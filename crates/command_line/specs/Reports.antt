-- What the words and the statuses of a report mean.
use Rattle.std.specs.Prelude.{ℕ, List, codes, if◌then◌else◌, ⊤}
use Rattle.std.specs.Str.{bytes_eq}
use Rattle.auditor.specs.Sources.{RuleSource, standard, in_file}
use Rattle.auditor.specs.declared.outcome.Outcome.{Outcome}
use Rattle.auditor.specs.declared.outcome.Outcome.TheVariants as outcome
use Rattle.command_line.specs.declared.status.Status.{Status}
use Rattle.command_line.specs.declared.status.Status.TheVariants as status

-- the status of what a report comes to
abbrev pub status_by : Outcome → Status
status_by outcome.Kept = status.Done
status_by outcome.Findings = status.Findings
status_by outcome.Unsettled = status.Unsettled
status_by outcome.Broken = status.Broken

-- the rules that a word names: the standard ones, or those in a file
abbrev pub source_named : List ℕ → RuleSource
source_named word = if bytes_eq word (codes "standard") then standard else in_file word

-- the status is that of a report, and of no refusal
abbrev pub IsOfReport : Status → Type 0
IsOfReport status.Done = ⊤
IsOfReport status.Findings = ⊤
IsOfReport status.Unsettled = ⊤
IsOfReport status.Broken = ⊤
IsOfReport other = ⊥

-- the statuses of a command that was carried out: 0, 1, 2, 3 and 7
abbrev pub IsCarriedOut : Status → Type 0
IsCarriedOut status.Undone = ⊤
IsCarriedOut other = IsOfReport other
