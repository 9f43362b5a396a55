-- The laws of audits of what is left of an honest place. The roster's file is `roster`, that of the
-- rules, if they are in one, `rules`, and those of the logs are `files`, of the names `names`.
use Rattle.std.specs.Prelude.{ℕ, List, ◌∷◌, Option, Ok, Err}
use Rattle.election_script.specs.declared.script.Script.{Script}
use Rattle.entry_format.specs.Nodes.{node_of_sealed}
use Rattle.entry_format.specs.SealedEntry.{SealedEntry}
use Rattle.entry_order.specs.Naming.{Distinct}
use Rattle.entry_order.specs.World.{World, sent_in}
use Rattle.evidence.specs.Refusal.{Refusal}
use Rattle.honest_places.specs.LeftFiles.{AreAllFilesOf}
use Rattle.auditor.specs.Audits.{GivesReport}
use Rattle.auditor.specs.Report.{AuditReport}
use Rattle.auditor.specs.Sources.{RuleSource, standard}
use Rattle.honest_places.specs.ReportsKept.{SaysAllKept, SaysNoneBroken}
use Rattle.honest_places.specs.Open.{StandardRulesAreOpen}
use Rattle.honest_places.specs.Places.{HasLeft, IsRosterOf, files_read}
use Rattle.honest_places.specs.Refusals.{IsHonestRefusal}
use Rattle.honest_places.specs.Reports.{IsHonestReport}

-- where different entries have different digests, a report on what is left of an honest place
-- accuses nobody, whichever rules it goes by
abbrev pub ReportsAccuseNobody : Type 0
ReportsAccuseNobody =
    (script : Script) (w : World SealedEntry) (roster : Option (List ℕ)) (files : List (Option (List ℕ))) →
    HasLeft script w roster files → Distinct node_of_sealed (sent_in w) →
    (name : List ℕ) (source : RuleSource) (rules : Option (List ℕ)) (names : List (List ℕ)) (report : AuditReport) →
    GivesReport name source names (files_read roster source rules files) (Ok report) →
    IsHonestReport script w names files report

-- where different entries have different digests, a report by the standard rules on what is left of
-- an honest place says of none that it is broken
abbrev pub ReportsSayNoneBroken : Type 0
ReportsSayNoneBroken =
    (script : Script) (w : World SealedEntry) (roster : Option (List ℕ)) (files : List (Option (List ℕ))) →
    HasLeft script w roster files → Distinct node_of_sealed (sent_in w) →
    (name : List ℕ) (names : List (List ℕ)) (report : AuditReport) →
    GivesReport name standard names (roster ∷ files) (Ok report) → SaysNoneBroken report

-- where different entries have different digests, a report on what is left of an honest place leaves
-- only those standard rules unsettled that may have been kept and may have been broken
abbrev pub ReportsLeaveRulesOpen : Type 0
ReportsLeaveRulesOpen =
    (script : Script) (w : World SealedEntry) (roster : Option (List ℕ)) (files : List (Option (List ℕ))) →
    HasLeft script w roster files → Distinct node_of_sealed (sent_in w) →
    (name : List ℕ) (source : RuleSource) (rules : Option (List ℕ)) (names : List (List ℕ)) (report : AuditReport) →
    GivesReport name source names (files_read roster source rules files) (Ok report) → StandardRulesAreOpen report

-- where the whole logs of an honest place are all among the files, a report by the standard rules
-- says of each that it is kept; that there is a report shows that digests differ
abbrev pub WholeReportsSayAllKept : Type 0
WholeReportsSayAllKept =
    (script : Script) (w : World SealedEntry) (roster : Option (List ℕ)) (files : List (Option (List ℕ))) →
    HasLeft script w roster files → AreAllFilesOf w files →
    (name : List ℕ) (names : List (List ℕ)) (report : AuditReport) →
    GivesReport name standard names (roster ∷ files) (Ok report) → SaysAllKept w files report

-- where different entries have different digests, an audit of what is left of an honest place is
-- refused only for rules in a file
abbrev pub AuditsAreRefusedOnlySo : Type 0
AuditsAreRefusedOnlySo =
    (script : Script) (w : World SealedEntry) (roster : Option (List ℕ)) (files : List (Option (List ℕ))) →
    HasLeft script w roster files → Distinct node_of_sealed (sent_in w) →
    (name : List ℕ) (source : RuleSource) (rules : Option (List ℕ)) (names : List (List ℕ)) (refusal : Refusal) →
    GivesReport name source names (files_read roster source rules files) (Err refusal) →
    IsHonestRefusal source rules refusal

-- where the whole logs are all among the files, whatever else is, a report shows that different
-- entries have different digests
abbrev pub WholeReportsShowDistinct : Type 0
WholeReportsShowDistinct =
    (script : Script) (w : World SealedEntry) (roster : Option (List ℕ)) → IsRosterOf script w roster →
    (files : List (Option (List ℕ))) → AreAllFilesOf w files →
    (name : List ℕ) (source : RuleSource) (rules : Option (List ℕ)) (names : List (List ℕ)) (report : AuditReport) →
    GivesReport name source names (files_read roster source rules files) (Ok report) →
    Distinct node_of_sealed (sent_in w)
