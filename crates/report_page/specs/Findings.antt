-- What accuses, and what may be loss alone: lines of the report, each with what to do next.
use Rattle.std.specs.Prelude.{ℕ, Bool, if◌then◌else◌, List, [], ◌∷◌, ◌++◌, map, codes, length, Option, Some, None}
use Rattle.std.specs.Prelude.{slice_get}
use Rattle.std.specs.List.{flat_map, range_with_len, zip}
use Rattle.std.specs.Fmt.{decimal}
use Rattle.hex.specs.Hex.{encode_lower}
use Rattle.canonical_sexp.specs.Causes.{why_word}
use Rattle.entry_format.specs.declared.plain.EntryFault.{EntryFault}
use Rattle.entry_format.specs.Reading.{fault_word}
use Rattle.log_files.specs.Lines.{refused_line}
use Rattle.log_files.specs.declared.plain_log.End.{End}
use Rattle.log_files.specs.declared.plain_log.End.TheVariants.{Clean, Torn, Malformed}
use Rattle.log_files.specs.Logs.{LogRead}
use Rattle.rule_language.specs.Trees.{RuleTree}
use Rattle.rule_engine.specs.declared.verdict.Verdict.{Verdict}
use Rattle.rule_engine.specs.declared.verdict.Verdict.TheVariants.{Broken, Unsettled}
use Rattle.auditor.specs.Report.{AuditReport}
use Rattle.auditor.specs.ReportText.{maker_name}
use Rattle.report_page.specs.declared.words.TheConstants.{NEXT_REFUSED, NEXT_MALFORMED, NEXT_BREAK, NEXT_STRAY}
use Rattle.report_page.specs.declared.words.TheConstants.{NEXT_FORK, NEXT_BROKEN, NEXT_OWN, NEXT_TORN, NEXT_GAP}
use Rattle.report_page.specs.declared.words.TheConstants.{NEXT_UNSETTLED}
use Rattle.report_page.specs.Cells.{TableRow, text_cell, places_cell}

-- a line of the report, with links in place of the entries that it names, and what to do next
abbrev pub finding : List ℕ → List ℕ → List ℕ → TableRow
finding said places next = places_cell said places ∷ text_cell next ∷ []

-- a refused record
abbrev pub refused_finding : List ℕ → ℕ × EntryFault → TableRow
refused_finding file refused =
    finding (refused_line file refused.0 (fault_word refused.1)) [] NEXT_REFUSED.now

-- a byte that no log has at its place
abbrev pub malformed_finding : List ℕ → ℕ → List ℕ → TableRow
malformed_finding file at why =
    finding (codes "malformed " ++ file ++ codes " " ++ decimal at ++ codes " " ++ why) [] NEXT_MALFORMED.now

-- an end at such a byte
abbrev pub malformed_findings : List ℕ → End → List TableRow
malformed_findings file Clean = []
malformed_findings file (Torn at) = []
malformed_findings file (Malformed at why) = malformed_finding file at (why_word why) ∷ []

-- a break at a record
abbrev pub break_finding : List ℕ → ℕ → TableRow
break_finding file place = finding (codes "break " ++ file ++ codes " " ++ decimal place) [] NEXT_BREAK.now

-- a break of a log's own order
abbrev pub break_findings : List ℕ → Option ℕ → List TableRow
break_findings file None = []
break_findings file (Some place) = break_finding file place ∷ []

-- of a log: its refused records, then a malformed end, then a break
abbrev pub log_accuses : List ℕ × LogRead → List TableRow
log_accuses named =
    map (refused_finding named.0) named.1.refused ++ malformed_findings named.0 named.1.end
    ++ break_findings named.0 named.1.broke

-- an end inside the record that begins at a byte
abbrev pub torn_finding : List ℕ → ℕ → TableRow
torn_finding file at = finding (codes "torn " ++ file ++ codes " " ++ decimal at) [] NEXT_TORN.now

-- an end inside a record
abbrev pub torn_findings : List ℕ → End → List TableRow
torn_findings file Clean = []
torn_findings file (Torn at) = torn_finding file at ∷ []
torn_findings file (Malformed at why) = []

-- of a log: a torn end
abbrev pub log_torn : List ℕ × LogRead → List TableRow
log_torn named = torn_findings named.0 named.1.end

-- a digest, after a word
abbrev pub digest_finding : List ℕ → List ℕ → List ℕ → TableRow
digest_finding word next digest = finding (word ++ codes " " ++ encode_lower digest) [] next

-- a fork
abbrev pub fork_finding : AuditReport → ℕ × ℕ → TableRow
fork_finding report fork =
    finding (codes "fork " ++ maker_name report.machines fork.0 ++ codes " " ++ decimal fork.1) [] NEXT_FORK.now

-- what to do next about a broken rule, which is one of the standard ones or not
abbrev pub next_broken : Bool → List ℕ
next_broken standard = if standard then NEXT_BROKEN.now else NEXT_OWN.now

-- a rule, if it is broken
abbrev pub broken_findings : Bool → Option RuleTree → Option Verdict → List TableRow
broken_findings standard (Some rule) (Some (Broken places)) =
    finding (codes "broken " ++ rule.name ++ codes " ") places.items (next_broken standard) ∷ []
broken_findings standard rule verdict = []

-- a rule, if it is unsettled
abbrev pub unsettled_findings : Option RuleTree → Option Verdict → List TableRow
unsettled_findings (Some rule) (Some Unsettled) = finding (codes "unsettled " ++ rule.name) [] NEXT_UNSETTLED.now ∷ []
unsettled_findings rule verdict = []

-- the rule at a place, if it is broken
abbrev pub broken_at : Bool → AuditReport → ℕ → List TableRow
broken_at standard report place =
    broken_findings standard (slice_get report.rules place) (slice_get report.verdicts place)

-- the rule at a place, if it is unsettled
abbrev pub unsettled_at : AuditReport → ℕ → List TableRow
unsettled_at report place = unsettled_findings (slice_get report.rules place) (slice_get report.verdicts place)

-- the broken rules, in the order of their text
abbrev pub all_broken : Bool → AuditReport → List TableRow
all_broken standard report = flat_map (broken_at standard report) (range_with_len 0 (length report.verdicts))

-- the unsettled rules
abbrev pub all_unsettled : AuditReport → List TableRow
all_unsettled report = flat_map (unsettled_at report) (range_with_len 0 (length report.verdicts))

-- What loss alone never causes, in the order of the report: of each log, then strays, forks and
-- broken rules.
abbrev pub accusing_rows : Bool → AuditReport → List TableRow
accusing_rows standard report =
    flat_map log_accuses (zip report.files report.logs)
    ++ map (digest_finding (codes "stray") NEXT_STRAY.now) report.graph.strays
    ++ map (fork_finding report) report.graph.forks ++ all_broken standard report

-- what may be loss alone: torn ends, gaps and unsettled rules
abbrev pub loss_rows : AuditReport → List TableRow
loss_rows report =
    flat_map log_torn (zip report.files report.logs)
    ++ map (digest_finding (codes "gap") NEXT_GAP.now) report.graph.gaps ++ all_unsettled report
