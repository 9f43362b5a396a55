-- What files give an auditor they give once.
use Rattle.std.specs.Prelude.{ℕ, List, Option, Result}
use Rattle.evidence.specs.Refusal.{Refusal}
use Rattle.evidence.specs.Same.{Agree}
use Rattle.auditor.specs.Audits.{GivesReport}
use Rattle.auditor.specs.Report.{AuditReport}
use Rattle.auditor.specs.Same.{SameReport}
use Rattle.auditor.specs.Sources.{RuleSource}

-- the files give reports with one text, or one refusal
abbrev pub FilesGiveOneReport : Type 0
FilesGiveOneReport =
    (roster : List ℕ) (source : RuleSource) (logs : List (List ℕ)) (files : List (Option (List ℕ)))
    (answer other : Result AuditReport Refusal) → GivesReport roster source logs files answer →
    GivesReport roster source logs files other → Agree SameReport answer other
