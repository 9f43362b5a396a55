-- What a report comes to.
use Rattle.std.specs.Prelude.{ℕ, Bool, true, false, not, ◌||◌, nat_lt, List, length, codes, is_some}
use Rattle.std.specs.List.{list_any}
use Rattle.log_files.specs.declared.plain_log.End.{End}
use Rattle.log_files.specs.declared.plain_log.End.TheVariants.{Clean, Torn, Malformed}
use Rattle.log_files.specs.Logs.{LogRead}
use Rattle.entry_graph.specs.EntryGraph.{EntryGraph}
use Rattle.rule_engine.specs.declared.verdict.Verdict.{Verdict}
use Rattle.rule_engine.specs.declared.verdict.Verdict.TheVariants as verdict
use Rattle.auditor.specs.declared.outcome.Outcome.{Outcome}
use Rattle.auditor.specs.declared.outcome.Outcome.TheVariants as outcome
use Rattle.auditor.specs.Report.{AuditReport}

-- the word of what a report comes to
abbrev pub outcome_word : Outcome → List ℕ
outcome_word outcome.Kept = codes "kept"
outcome_word outcome.Findings = codes "findings"
outcome_word outcome.Unsettled = codes "unsettled"
outcome_word outcome.Broken = codes "broken"

-- whether there is any
abbrev pub has_some : {A : Type 0} → List A → Bool
has_some xs = nat_lt 0 (length xs)

-- whether a log's file ends after a whole record
abbrev pub is_clean : End → Bool
is_clean Clean = true
is_clean (Torn at) = false
is_clean (Malformed at why) = false

-- whether a log has a refused record, an end that isn't clean, or a break
abbrev pub log_has_finding : LogRead → Bool
log_has_finding log = has_some log.refused || (not (is_clean log.end) || is_some log.broke)

-- whether there is a stray, a fork or a gap
abbrev pub graph_has_finding : {T : Type 0} → EntryGraph T → Bool
graph_has_finding graph = has_some graph.strays || (has_some graph.forks || has_some graph.gaps)

-- whether a log or the graph has a finding
abbrev pub has_finding : AuditReport → Bool
has_finding report = list_any log_has_finding report.logs || graph_has_finding report.graph

-- the rule is broken
abbrev pub is_broken : Verdict → Bool
is_broken (verdict.Broken places) = true
is_broken other = false

-- the rule is unsettled
abbrev pub is_unsettled : Verdict → Bool
is_unsettled verdict.Unsettled = true
is_unsettled other = false

-- the first that applies: some rule is broken, some is unsettled, something was found
abbrev pub outcome_by : Bool → Bool → Bool → Outcome
outcome_by true unsettled found = outcome.Broken
outcome_by false true found = outcome.Unsettled
outcome_by false false true = outcome.Findings
outcome_by false false false = outcome.Kept

-- the report's outcome
abbrev pub outcome_of : AuditReport → Outcome
outcome_of report =
    outcome_by (list_any is_broken report.verdicts) (list_any is_unsettled report.verdicts) (has_finding report)
