-- What an audit reports of what is left of an honest place.
use Rattle.std.specs.Prelude.{◌≡◌, ◌≢◌, ℕ, List, [], Option}
use Rattle.std.specs.List.{Contains}
use Rattle.canonical_sexp.specs.declared.read.Why.{Why}
use Rattle.election_script.specs.declared.script.Script.{Script}
use Rattle.entry_format.specs.SealedEntry.{SealedEntry}
use Rattle.entry_order.specs.World.{World}
use Rattle.log_files.specs.declared.plain_log.End.TheVariants.{Malformed}
use Rattle.log_files.specs.Logs.{LogRead}
use Rattle.log_files.specs.Lines.{refused_lines}
use Rattle.polling_world.specs.Keys.{roster_of}
use Rattle.evidence.specs.Graphs.{entries_of}
use Rattle.honest_places.specs.Agreement.{IsAllGiven, IsHonestGraph}
use Rattle.honest_places.specs.LeftFiles.{AreAllFilesOf, AreReadOf}
use Rattle.auditor.specs.Report.{AuditReport}
use Rattle.auditor.specs.ReportText.{break_line, stray_lines, fork_lines}

-- The report has no line of a refused record, of a malformed end, of a break, of a stray or of a
-- fork.
pub record AccusesNobody (report : AuditReport) : Type 0 where
  pub no_refused : (file : List ℕ) (log : LogRead) → Contains report.logs log →
      refused_lines file log.refused ≡ []
  pub no_malformed : (log : LogRead) → Contains report.logs log → (at : ℕ) (why : Why) → log.end ≢ Malformed at why
  pub no_break : (file : List ℕ) (log : LogRead) → Contains report.logs log → break_line file log.broke ≡ []
  pub no_stray : stray_lines report.graph.strays ≡ []
  pub no_fork : fork_lines report.machines report.graph.forks ≡ []

-- The report is on the machines of the script and on the logs in these files, of these names. Each
-- log has the records that are whole in its file, with none refused and no break. The graph has no
-- stray and no fork, its survivors are the entries of those records, and they agree with w. Where
-- the whole logs are among the files, all that was sent is given. No line accuses anybody.
pub record IsHonestReport (script : Script) (w : World SealedEntry) (names : List (List ℕ))
    (files : List (Option (List ℕ))) (report : AuditReport) : Type 0 where
  pub machines : report.machines ≡ roster_of script
  pub named : report.files ≡ names
  pub each : AreReadOf w files report.logs
  pub all : AreAllFilesOf w files → IsAllGiven w (entries_of report.logs)
  pub graph : IsHonestGraph w (entries_of report.logs) report.graph
  pub accuses_nobody : AccusesNobody report
