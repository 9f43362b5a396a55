-- The command `run`.
use Rattle.std.specs.Prelude.{◌≡◌, ℕ, List, [], ◌∷◌, ◌++◌, ◌≤◌, All, Option, Some, IfSome, false, codes, length, slice_get, ⊤}
use Rattle.std.specs.List.{flat_map}
use Rattle.std.specs.Fmt.{decimal}
use Rattle.entry_format.specs.Nodes.{node_of_sealed}
use Rattle.entry_format.specs.SealedEntry.{SealedEntry}
use Rattle.entry_order.specs.Receipt.{IsOrderly}
use Rattle.entry_order.specs.declared.step.Step.{Step}
use Rattle.entry_order.specs.World.{World, history}
use Rattle.roster.specs.declared.post.Post.{Post}
use Rattle.election_script.specs.declared.script.Cast0.{Cast0}
use Rattle.election_script.specs.declared.script.Script.{Script}
use Rattle.polling_world.specs.Keys.{roster_of}
use Rattle.polling_world.specs.Configs.{config_of}
use Rattle.polling_world.specs.Machines.{MachineState}
use Rattle.polling_world.specs.Merging.{IsMerged}
use Rattle.polling_world.specs.Playing.{ComesTo}
use Rattle.polling_world.specs.Worlds.{world_of}
use Rattle.finished_floor.specs.CauseWords.{loss_why_word}
use Rattle.finished_floor.specs.declared.loss.Loss.{Loss}
use Rattle.finished_floor.specs.Losses.{AreLosses, LosesNothing}
use Rattle.finished_floor.specs.Places.{IsAtEnd, IsStopOf}
use Rattle.log_files.specs.Lines.{line}
use Rattle.evidence.specs.NamedFiles.{OnOneFile}
use Rattle.auditor.specs.ReportText.{maker_name}
use Rattle.honest_places.specs.EachPlace.{LeaveHonestFiles}
use Rattle.command_line.specs.declared.status.Status.TheVariants as status
use Rattle.command_line.specs.Lines.{Answer, OrRefused}
use Rattle.place_commands.specs.Play.{KeepOrder, SayUndone, machine_lines, play_files, play_statuses}
use Rattle.command_line.specs.Lines.{status_of_undone}
use Rattle.place_commands.specs.ScriptFile.{GivesScript, IsScriptFile}
use Rattle.command_line.specs.CommandParts.{CommandParts}

-- an entry that didn't arrive: its maker's name and its number there, the receiver's name, and why
abbrev pub loss_line : List Post → Loss → List ℕ
loss_line roster loss =
    line (codes "loss " ++ maker_name roster loss.from ++ codes "." ++ decimal loss.number ++ codes " "
    ++ maker_name roster loss.to ++ codes " " ++ loss_why_word loss.why)

-- the line of each entry that didn't arrive
abbrev pub loss_lines : List Post → List Loss → List ℕ
loss_lines roster losses = flat_map (loss_line roster) losses

-- the answer of machines with this roster between which these entries were lost, and of which these
-- lines say what is left
abbrev pub run_answer : List ℕ → List Post → List MachineState → List Loss → List ℕ → Answer
run_answer prefix roster machines losses undone = record {
  status = status_of_undone undone;
  files = play_files prefix roster machines;
  ahead = 0;
  output = machine_lines machines ++ loss_lines roster losses ++ undone;
}

-- These steps make all events of the machines in their merged order. By them, on one thread, the
-- script's machines come to w, in which each has the history that it has here (Lamport 1978).
pub record ArePlayedAgainBy (script : Script) (machines : List MachineState) (steps : List Step) (w : World SealedEntry)
    : Type 0 where
  pub merged : IsMerged machines steps
  pub comes : ComesTo script steps w
  pub same : (m : ℕ) → history w m ≡ history (world_of machines) m

-- The script's machine at this place, as it was made but for its events, with its stop line, and no
-- event after that. That its history is legal and that each entry could be sent follows from the
-- replay.
pub record IsRunMachine (script : Script) (place : ℕ) (m : MachineState) : Type 0 where
  pub stop : IsStopOf script.stops place m.stop
  pub made : (cast : Cast0) × (slice_get script.machines place ≡ Some cast)
      × (m ≡ record { config = config_of script place cast; stop = m.stop; marked = false; events = m.events })
  pub within : IfSome m.stop (λ stop. length m.events ≤ stop)

-- the machines of the script, in its order
pub record AreRunMachines (script : Script) (machines : List MachineState) : Type 0 where
  pub count : length machines ≡ length script.machines
  pub each : (place : ℕ) (m : MachineState) → slice_get machines place ≡ Some m → IsRunMachine script place m

-- The answer of a run of the script's machines, whose histories are orderly: they did what a play on
-- one thread does, each entry arrived or is reported as lost, once and with its cause, and nothing
-- that could be done was left.
pub record IsRunOf (prefix : List ℕ) (script : Script) (answer : Answer) : Type 0 where
  pub machines : List MachineState
  pub losses : List Loss
  pub steps : List Step
  pub w : World SealedEntry
  pub undone : List ℕ
  pub made : AreRunMachines script machines
  pub orderly : IsOrderly node_of_sealed (world_of machines)
  pub lost : AreLosses script machines losses
  pub roomy : LosesNothing script machines losses
  pub at_end : All IsAtEnd machines
  pub again : ArePlayedAgainBy script machines steps w
  pub order : KeepOrder machines
  pub honest : LeaveHonestFiles script machines w
  pub left : SayUndone machines undone
  pub told : answer ≡ run_answer prefix (roster_of script) machines losses undone

-- the answer for the script's file, or where there is none
abbrev pub IsRunAnswer : List ℕ → List ℕ → Option (List ℕ) → Answer → Type 0
IsRunAnswer name prefix file answer = OrRefused (GivesScript name file) (IsRunOf prefix) answer

-- `run SCRIPT PREFIX`
abbrev pub run_parts : List ℕ → List ℕ → CommandParts
run_parts script prefix = record {
  words = codes "run" ∷ script ∷ prefix ∷ [];
  IsAllowed = ⊤;
  files = script ∷ [];
  IsAnswer = λ files answer. OnOneFile (λ file. IsRunAnswer script prefix file answer) files;
  AreAccepted = OnOneFile IsScriptFile;
  statuses = play_statuses;
  absence = status.Absent;
}
