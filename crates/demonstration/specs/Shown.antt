-- What a demonstration shows: a script is played, the log of its first machine is kept, cut, and
-- audited.
use Rattle.std.specs.Prelude.{◌≡◌, ℕ, Bool, true, false, List, [], ◌∷◌, length, codes, count_by, Some, Result, Ok, Err}
use Rattle.canonical_sexp.specs.Text.{text_of}
use Rattle.roster.specs.declared.post.Post.{Post}
use Rattle.roster.specs.RosterText.{roster_tree}
use Rattle.election_script.specs.declared.script.Script.{Script}
use Rattle.entry_order.specs.World.{history, sent_in}
use Rattle.rule_engine.specs.declared.verdict.Verdict.{Verdict}
use Rattle.rule_engine.specs.declared.verdict.Verdict.TheVariants as verdict
use Rattle.polling_world.specs.Keys.{roster_of}
use Rattle.polling_world.specs.Machines.{MachineState}
use Rattle.polling_world.specs.Playing.{IsPlayed}
use Rattle.polling_world.specs.Worlds.{world_of}
use Rattle.evidence.specs.Refusal.{Refusal}
use Rattle.auditor.specs.Audits.{GivesReport}
use Rattle.auditor.specs.Outcomes.{is_broken, is_unsettled, outcome_of}
use Rattle.auditor.specs.Report.{AuditReport}
use Rattle.auditor.specs.Sources.{standard}
use Rattle.demonstration.specs.declared.shown.Demonstration.{Demonstration}
use Rattle.demonstration.specs.Kept.{IsKeptOf}

-- whether a verdict is Kept, by which the kept rules are counted
abbrev pub is_kept : Verdict → Bool
is_kept verdict.Kept = true
is_kept other = false

-- the name of the kept log in a refusal
abbrev pub log_name : List ℕ
log_name = codes "log"

-- What an audit by the standard rules gives of two files: the text of the roster of these machines,
-- and one log.
abbrev pub GivesAudit : List Post → List ℕ → Result AuditReport Refusal → Type 0
GivesAudit posts bytes answer =
    GivesReport (codes "roster") standard (log_name ∷ []) (Some (text_of (roster_tree posts)) ∷ Some bytes ∷ []) answer

-- the script's machines have played, and the log of the first of them, cut after the end of the
-- session, gives this under the script's roster
pub record IsAudited (script : Script) (session : ℕ) (machines : List MachineState)
    (answer : Result AuditReport Refusal) : Type 0 where
  pub bytes : List ℕ
  pub played : IsPlayed script machines
  pub kept : IsKeptOf session 0 (history (world_of machines) 0) bytes
  pub gives : GivesAudit (roster_of script) bytes answer

-- what is shown is the number of entries sent, and otherwise what the report on the kept log counts
-- and comes to
pub record IsCounted (sent : ℕ) (report : AuditReport) (shown : Demonstration) : Type 0 where
  pub entries : shown.entries ≡ sent
  pub survivors : shown.survivors ≡ length report.graph.survivors
  pub gaps : shown.gaps ≡ length report.graph.gaps
  pub kept : shown.kept ≡ count_by is_kept report.verdicts
  pub broken : shown.broken ≡ count_by is_broken report.verdicts
  pub unsettled : shown.unsettled ≡ count_by is_unsettled report.verdicts
  pub outcome : shown.outcome ≡ outcome_of report

-- what is counted is that of the script's play and of the audit of the kept log
pub record IsDemonstrationOf (script : Script) (session : ℕ) (shown : Demonstration) : Type 0 where
  pub machines : List MachineState
  pub report : AuditReport
  pub audited : IsAudited script session machines (Ok report)
  pub counted : IsCounted (length (sent_in (world_of machines))) report shown

-- the audit of the kept log has this refusal
abbrev pub IsRefusedSo : Script → ℕ → Refusal → Type 0
IsRefusedSo script session refusal =
    (machines : List MachineState) × IsAudited script session machines (Err refusal)
