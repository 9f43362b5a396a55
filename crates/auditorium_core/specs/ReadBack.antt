-- What `audit` and `order` answer over the files that `play`, `repair` or `run` wrote, read back by
-- their names.
use Rattle.std.specs.Prelude.{◌≡◌, ℕ, List, map, codes, Option, Some}
use Rattle.hall_outside.specs.Files.{Files}
use Rattle.entry_format.specs.Nodes.{node_of_sealed}
use Rattle.entry_format.specs.SealedEntry.{SealedEntry}
use Rattle.entry_order.specs.Naming.{Distinct}
use Rattle.entry_order.specs.World.{World, sent_in}
use Rattle.election_script.specs.declared.script.Script.{Script}
use Rattle.polling_world.specs.Machines.{MachineState}
use Rattle.polling_world.specs.Worlds.{world_of}
use Rattle.honest_places.specs.LeftFiles.{AreAllFilesOf, written_logs}
use Rattle.auditor.specs.Sources.{standard}
use Rattle.command_line.specs.declared.status.Status.TheVariants as status
use Rattle.auditorium_core.specs.Answer.{IsAnswerTo}
use Rattle.log_commands.specs.Honest.{IsHonestOrder}
use Rattle.log_commands.specs.HonestAudit.{TellsHonestReport}
use Rattle.command_line.specs.Lines.{Answer}
use Rattle.command_line.specs.Written.{with_files}
use Rattle.place_commands.specs.Play.{IsPlayOf, machine_log_name, roster_name}
use Rattle.place_commands.specs.Repair.{IsRepairOf}
use Rattle.place_commands.specs.Run.{IsRunOf}
use Rattle.auditorium_core.specs.Words.{audit, order}

-- the names of the files of all machines' logs
abbrev pub log_names : List ℕ → List MachineState → List (List ℕ)
log_names prefix machines = map (machine_log_name prefix) machines

-- Where the files that the machines wrote are read by their names, `audit` by the standard rules
-- says of each that it is kept, and its status is Done. `order` says what the machines held: it has
-- all logs, so each of its words is exact.
pub record AreReadBack (prefix : List ℕ) (script : Script) (machines : List MachineState) (w : World SealedEntry)
    (now : Option Files) : Type 0 where
  pub audit : (answer : Answer) →
      IsAnswerTo (audit (roster_name prefix) (codes "standard") (log_names prefix machines)) now answer →
      TellsHonestReport script w standard (log_names prefix machines) (written_logs machines) answer
      × (answer.status ≡ status.Done)
  pub order : (x y : List ℕ) (answer : Answer) →
      IsAnswerTo (order (roster_name prefix) x y (log_names prefix machines)) now answer →
      IsHonestOrder script w x y (log_names prefix machines) (written_logs machines) answer
  pub all : AreAllFilesOf w (written_logs machines)

-- where different entries have different digests, the files that a play wrote, whatever was there
-- before, are read back
abbrev pub PlaysAreReadBack : Type 0
PlaysAreReadBack =
    (prefix : List ℕ) (script : Script) (answer : Answer) (is : IsPlayOf prefix script answer) →
    Distinct node_of_sealed (sent_in (world_of is.machines)) → (before : Files) →
    AreReadBack prefix script is.machines (world_of is.machines) (with_files (Some before) answer.files)

-- where different entries have different digests, the files that a repair wrote, whatever was there
-- before, are read back
abbrev pub RepairsAreReadBack : Type 0
RepairsAreReadBack =
    (prefix : List ℕ) (script : Script) (answer : Answer) (is : IsRepairOf prefix script answer) →
    Distinct node_of_sealed (sent_in (world_of is.machines)) → (before : Files) →
    AreReadBack prefix script is.machines (world_of is.machines) (with_files (Some before) answer.files)

-- where different entries have different digests, the files that a run wrote, whatever was there
-- before, are read back
abbrev pub RunsAreReadBack : Type 0
RunsAreReadBack =
    (prefix : List ℕ) (script : Script) (answer : Answer) (is : IsRunOf prefix script answer) →
    Distinct node_of_sealed (sent_in is.w) → (before : Files) →
    AreReadBack prefix script is.machines is.w (with_files (Some before) answer.files)
