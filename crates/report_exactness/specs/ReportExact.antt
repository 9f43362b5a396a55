-- Of a report, unsettled is exact.
use Rattle.std.specs.Prelude.{◌≡◌, ◌≢◌, ℕ, List, length, Option, Ok}
use Rattle.std.specs.List.{Contains, AllZip}
use Rattle.entry_order.specs.Ascending.{IsAscending}
use Rattle.entry_order.specs.Precedes.{IsAcyclic}
use Rattle.entry_format.specs.EntryText.{IsDigest, IsSignedText}
use Rattle.entry_format.specs.Nodes.{node_of}
use Rattle.entry_format.specs.SealedEntry.{SealedEntry}
use Rattle.entry_format.specs.declared.plain.Plain.{Plain}
use Rattle.entry_format.specs.Plains.{plains}
use Rattle.rule_language.specs.declared.row.Row.{Row}
use Rattle.rule_language.specs.Trees.{RuleTree}
use Rattle.rule_language.specs.Standard.{standard_rules, p3_body}
use Rattle.rule_engine.specs.declared.verdict.Verdict.TheVariants as verdict
use Rattle.rule_exactness.specs.TwoSided.{IsTwoSided}
use Rattle.rule_exactness.specs.Exact.{IsOpen, NoEarlyEnd}
use Rattle.auditor.specs.Audits.{GivesReport}
use Rattle.survivor_rows.specs.Rows.{row_said}
use Rattle.auditor.specs.Report.{AuditReport}
use Rattle.auditor.specs.Sources.{RuleSource}

-- The entry may be one that was lost: a text says it, with some signature, its names rise, its digest
-- has 32 octets, and it is of the survivors' election. That the digest is the text's isn't said.
pub record MayBe (report : AuditReport) (plain : Plain) : Type 0 where
  pub said : (text signature : List ℕ) × IsSignedText text plain.entry signature
  pub rising : IsAscending plain.entry.names
  pub digest : IsDigest plain.digest
  pub election : (e : SealedEntry) → Contains report.graph.survivors e → plain.entry.election ≡ e.entry.election

-- the rows by which rules see entries
abbrev pub rows_of : AuditReport → Plain → Row
rows_of report plain = row_said report.machines plain.entry

-- there are two ways to complete the report's survivors by entries that may be, each of them allowed:
-- one keeps the rule, the other breaks it
abbrev pub IsOpenFor : (List Plain → Type 0) → AuditReport → RuleTree → Type 0
IsOpenFor Allowed report rule =
    IsOpen node_of (rows_of report) (MayBe report) Allowed (length report.machines) (plains report.graph.survivors)
    rule.body

-- The rule may have been kept and may have been broken, even in graphs in which no entry precedes
-- itself: `standard`, each standard rule but P3; `own`, a rule of one's own in which no kind is both
-- asked for and forbidden. `ends`: P3 may have been either in some graph, where no end of a session
-- precedes an authorising of it.
pub record MayBeEither (report : AuditReport) (rule : RuleTree) : Type 0 where
  pub standard : Contains standard_rules rule → rule.body ≢ p3_body →
      IsOpenFor (IsAcyclic node_of) report rule
  pub own : IsTwoSided rule.body → IsOpenFor (IsAcyclic node_of) report rule
  pub ends : Contains standard_rules rule → rule.body ≡ p3_body →
      NoEarlyEnd node_of (rows_of report) (plains report.graph.survivors) → IsOpenFor (λ G. Unit {0}) report rule

-- just those rules are unsettled that may have been kept and may have been broken
abbrev pub UnsettledIsExact : AuditReport → Type 0
UnsettledIsExact report =
    AllZip (λ rule is. is ≡ verdict.Unsettled → MayBeEither report rule) report.rules report.verdicts

-- so it is of each report that files give
abbrev pub ReportsAreExact : Type 0
ReportsAreExact =
    (roster : List ℕ) (source : RuleSource) (names : List (List ℕ)) (files : List (Option (List ℕ)))
    (report : AuditReport) → GivesReport roster source names files (Ok report) → UnsettledIsExact report
