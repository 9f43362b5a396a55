-- The command `repair`.
use Rattle.std.specs.Prelude.{◌≡◌, ℕ, List, [], ◌∷◌, ◌++◌, length, Option, codes, ⊤}
use Rattle.std.specs.List.{flat_map}
use Rattle.std.specs.Fmt.{decimal}
use Rattle.entry_format.specs.Nodes.{node_of_sealed}
use Rattle.entry_format.specs.SealedEntry.{SealedEntry}
use Rattle.entry_order.specs.declared.event.Event.{Event}
use Rattle.entry_order.specs.declared.step.Step.{Step}
use Rattle.entry_order.specs.declared.step.Step.TheVariants.{Act, Hear, Stop}
use Rattle.entry_order.specs.World.{World, happens, play, start}
use Rattle.roster.specs.declared.post.Post.{Post}
use Rattle.election_script.specs.declared.script.Script.{Script}
use Rattle.polling_world.specs.Configs.{script_configs}
use Rattle.polling_world.specs.Keys.{roster_of}
use Rattle.polling_world.specs.Machines.{MachineState}
use Rattle.polling_world.specs.Playing.{IsPlayed}
use Rattle.polling_world.specs.Worlds.{TellsNext, world_of}
use Rattle.log_repair.specs.Mending.{Finishes, Repairs}
use Rattle.log_files.specs.Lines.{line}
use Rattle.evidence.specs.NamedFiles.{OnOneFile}
use Rattle.auditor.specs.ReportText.{maker_name}
use Rattle.honest_places.specs.EachPlace.{LeaveHonestFiles}
use Rattle.command_line.specs.declared.status.Status.TheVariants as status
use Rattle.command_line.specs.Lines.{Answer, OrRefused}
use Rattle.place_commands.specs.Play.{KeepOrder, SayUndone, machine_lines, play_files, play_statuses}
use Rattle.command_line.specs.Lines.{status_of_undone}
use Rattle.place_commands.specs.ScriptFile.{GivesScript, IsScriptFile}
use Rattle.command_line.specs.CommandParts.{CommandParts}

-- an entry that a machine was answered: the machine's name, the maker's name and the entry's number
-- there
abbrev pub mended_line : List Post → Step → List ℕ
mended_line roster (Hear at from number) =
    line (codes "mended " ++ maker_name roster at ++ codes " " ++ maker_name roster from ++ codes "."
    ++ decimal number)
mended_line roster (Act at) = []
mended_line roster (Stop at) = []

-- the lines of the entries that machines were answered by these steps
abbrev pub mended_lines : List Post → List Step → List ℕ
mended_lines roster steps = flat_map (mended_line roster) steps

-- Once the script's machines have taken its steps, their logs are mended by the first of these
-- lists of steps, and then they finish by the second.
pub record AreMendedBy (script : Script) (mended finished : List Step) : Type 0 where
  pub next : ℕ → List (Event SealedEntry) → Option SealedEntry
  pub tells : TellsNext (script_configs script) next
  pub whole : World SealedEntry
  pub end : World SealedEntry
  pub repairs : Repairs node_of_sealed (happens node_of_sealed next script.log)
      (play node_of_sealed next script.log (start (length script.machines)) script.steps) mended whole
  pub finishes : Finishes node_of_sealed (happens node_of_sealed next script.log) whole finished end

-- the script with these steps after its own
abbrev pub with_steps : List Step → Script → Script
with_steps steps script = record script { steps = script.steps ++ steps }

-- the answer of machines with this roster that were answered in these steps, and of which these
-- lines say what is left
abbrev pub repair_answer : List ℕ → List Post → List MachineState → List Step → List ℕ → Answer
repair_answer prefix roster machines mended undone = record {
  status = status_of_undone undone;
  files = play_files prefix roster machines;
  ahead = 0;
  output = machine_lines machines ++ mended_lines roster mended ++ undone;
}

-- The answer of the script's machines once they have played, their logs are mended, and they have
-- finished. Mending and finishing are steps as those of the script, so the files are those of a
-- play of all.
pub record IsRepairOf (prefix : List ℕ) (script : Script) (answer : Answer) : Type 0 where
  pub machines : List MachineState
  pub mended : List Step
  pub finished : List Step
  pub undone : List ℕ
  pub steps : AreMendedBy script mended finished
  pub played : IsPlayed (with_steps (mended ++ finished) script) machines
  pub order : KeepOrder machines
  pub honest : LeaveHonestFiles script machines (world_of machines)
  pub left : SayUndone machines undone
  pub told : answer ≡ repair_answer prefix (roster_of script) machines mended undone

-- the answer for the script's file, or where there is none
abbrev pub IsRepairAnswer : List ℕ → List ℕ → Option (List ℕ) → Answer → Type 0
IsRepairAnswer name prefix file answer = OrRefused (GivesScript name file) (IsRepairOf prefix) answer

-- `repair SCRIPT PREFIX`
abbrev pub repair_parts : List ℕ → List ℕ → CommandParts
repair_parts script prefix = record {
  words = codes "repair" ∷ script ∷ prefix ∷ [];
  IsAllowed = ⊤;
  files = script ∷ [];
  IsAnswer = λ files answer. OnOneFile (λ file. IsRepairAnswer script prefix file answer) files;
  AreAccepted = OnOneFile IsScriptFile;
  statuses = play_statuses;
  absence = status.Absent;
}
