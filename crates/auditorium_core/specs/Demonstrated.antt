-- The command `demo`.
use Rattle.std.specs.Prelude.{◌≡◌, ◌≢◌, ◌⊎◌, ℕ, ◌+◌, List, [], ◌∷◌, length, Result, Ok, Err}
use Rattle.std.specs.Prelude.{codes}
use Rattle.std.specs.Fmt.{decimal}
use Rattle.entry_format.specs.Nodes.{node_of_sealed}
use Rattle.entry_order.specs.Naming.{Distinct}
use Rattle.entry_order.specs.World.{sent_in}
use Rattle.election_script.specs.declared.script.Script.{Script}
use Rattle.election_script.specs.Generated.{generated}
use Rattle.polling_world.specs.Machines.{MachineState}
use Rattle.polling_world.specs.Playing.{IsPlayed}
use Rattle.polling_world.specs.Worlds.{world_of}
use Rattle.rule_language.specs.Standard.{standard_rules}
use Rattle.evidence.specs.Refusal.{Refusal}
use Rattle.auditor.specs.Report.{AuditReport}
use Rattle.demonstration.specs.declared.shown.Demonstration.{Demonstration}
use Rattle.demonstration.specs.Lines.{demonstration_text}
use Rattle.demonstration.specs.Shown.{IsAudited, IsDemonstrationOf, IsRefusedSo}
use Rattle.command_line.specs.declared.status.Status.TheVariants as status
use Rattle.log_commands.specs.Audit.{IsSound}
use Rattle.log_commands.specs.ReportAnswers.{report_statuses}
use Rattle.command_line.specs.Reports.{status_by}
use Rattle.command_line.specs.Lines.{Answer, OrRefused}
use Rattle.place_commands.specs.Play.{KeepOrder}
use Rattle.command_line.specs.WordForms.{AreSessions}
use Rattle.command_line.specs.CommandParts.{CommandParts, OnNoFile}

-- the number is half that of the sessions, rounded up
abbrev pub IsHalfOf : ℕ → ℕ → Type 0
IsHalfOf sessions half = (half + half ≡ sessions) ⊎ (half + half ≡ sessions + 1)

-- what a demonstration by this script gives: what is counted, or why its audit is refused
abbrev pub GivesDemonstration : Script → ℕ → Result Demonstration Refusal → Type 0
GivesDemonstration script session (Ok shown) = IsDemonstrationOf script session shown
GivesDemonstration script session (Err refusal) = IsRefusedSo script session refusal

-- the seven lines, and the status of the audit
abbrev pub demonstration_answer : ℕ → Demonstration → Answer
demonstration_answer sessions shown = record {
  status = status_by shown.outcome;
  files = [];
  ahead = 0;
  output = demonstration_text sessions shown;
}

-- the answer of what a demonstration of this number of sessions gives, in which the log is kept up
-- to the end of one
abbrev pub IsAnswerOfShown : ℕ → ℕ → Answer → Type 0
IsAnswerOfShown sessions session =
    OrRefused (GivesDemonstration (generated sessions) session)
    (λ shown answer. answer ≡ demonstration_answer sessions shown)

-- The answer is that of a demonstration in which no rule is broken: each standard rule is kept or
-- unsettled, and one is unsettled only where there is a gap. The status doesn't say that one is
-- broken either.
pub record TellsNoneBroken (sessions session : ℕ) (answer : Answer) : Type 0 where
  pub shown : Demonstration
  pub right : IsDemonstrationOf (generated sessions) session shown
  pub told : answer ≡ demonstration_answer sessions shown
  pub none_broken : shown.broken ≡ 0
  pub each : shown.kept + shown.unsettled ≡ length standard_rules
  pub unsettled : shown.gaps ≡ 0 → shown.unsettled ≡ 0
  pub not_broken : answer.status ≢ status.Broken

-- The answer of a demonstration of this number of sessions, in which the log is kept up to the end
-- of the middle one. In its machines the order of entries is that of receipt, and the verdicts that
-- are counted mean what those of an audit do. Where different entries that the machines sent have
-- different digests, nothing is refused, and no rule is broken.
pub record IsDemonstrationAnswer (sessions : ℕ) (answer : Answer) : Type 0 where
  pub half : ℕ
  pub is_half : IsHalfOf sessions half
  pub right : IsAnswerOfShown sessions half answer
  pub order : (machines : List MachineState) → IsPlayed (generated sessions) machines → KeepOrder machines
  pub sound : (machines : List MachineState) (report : AuditReport) →
      IsAudited (generated sessions) half machines (Ok report) → IsSound report
  pub honest : (machines : List MachineState) → IsPlayed (generated sessions) machines →
      Distinct node_of_sealed (sent_in (world_of machines)) → TellsNoneBroken sessions half answer

-- the audit of what is kept isn't refused
abbrev pub ShowsReport : ℕ → Type 0
ShowsReport sessions =
    (half : ℕ) × IsHalfOf sessions half × (machines : List MachineState) × (report : AuditReport)
    × IsAudited (generated sessions) half machines (Ok report)

-- `demo N`
abbrev pub demonstration_parts : ℕ → CommandParts
demonstration_parts sessions = record {
  words = codes "demo" ∷ decimal sessions ∷ [];
  IsAllowed = AreSessions sessions;
  files = [];
  IsAnswer = λ files answer. OnNoFile (IsDemonstrationAnswer sessions answer) files;
  AreAccepted = OnNoFile (ShowsReport sessions);
  statuses = report_statuses;
  absence = status.Absent;
}
