-- The command `play`.
use Rattle.std.specs.Prelude.{◌≡◌, ℕ, List, [], ◌∷◌, ◌++◌, length, map, Option, Some, None, codes, ⊤}
use Rattle.std.specs.List.{flat_map}
use Rattle.std.specs.Fmt.{decimal}
use Rattle.canonical_sexp.specs.Text.{text_of}
use Rattle.entry_format.specs.Nodes.{node_of_sealed}
use Rattle.entry_order.specs.History.{sent}
use Rattle.entry_order.specs.Naming.{Distinct}
use Rattle.entry_order.specs.Receipt.{OrderIsReceiptIn}
use Rattle.entry_order.specs.World.{sent_in}
use Rattle.roster.specs.declared.post.Post.{Post}
use Rattle.roster.specs.RosterText.{roster_tree}
use Rattle.log_files.specs.Written.{log_text}
use Rattle.election_script.specs.declared.script.Script.{Script}
use Rattle.polling_world.specs.declared.left.Left.{Left}
use Rattle.polling_world.specs.Keys.{roster_of}
use Rattle.polling_world.specs.Machines.{MachineState}
use Rattle.polling_world.specs.Playing.{IsPlayed}
use Rattle.polling_world.specs.Worlds.{world_of}
use Rattle.polling_world.specs.Waiting.{IsLeft}
use Rattle.evidence.specs.NamedFiles.{OnOneFile}
use Rattle.command_line.specs.declared.status.Status.{Status}
use Rattle.command_line.specs.declared.status.Status.TheVariants as status
use Rattle.log_files.specs.Lines.{line}
use Rattle.honest_places.specs.EachPlace.{LeaveHonestFiles}
use Rattle.command_line.specs.Lines.{Answer, OrRefused, status_of_undone}
use Rattle.place_commands.specs.ScriptFile.{GivesScript, IsScriptFile}
use Rattle.command_line.specs.CommandParts.{CommandParts}
use Rattle.polling_world.specs.CauseWords.{left_why_word}

-- the names of the files of the roster and of a machine's log
abbrev pub roster_name : List ℕ → List ℕ
roster_name prefix = prefix ++ codes ".roster"

-- the name of a machine's log
abbrev pub machine_log_name : List ℕ → MachineState → List ℕ
machine_log_name prefix m = prefix ++ codes "." ++ m.config.name ++ codes ".log"

-- the file of the roster: its name and its text
abbrev pub roster_file : List ℕ → List Post → List ℕ × List ℕ
roster_file prefix machines = (roster_name prefix, text_of (roster_tree machines))

-- the file of a machine's log: its name and its text
abbrev pub log_file : List ℕ → MachineState → List ℕ × List ℕ
log_file prefix m = (machine_log_name prefix m, log_text m.config.number m.events)

-- the files of machines with this roster
abbrev pub play_files : List ℕ → List Post → List MachineState → List (List ℕ × List ℕ)
play_files prefix roster machines = roster_file prefix roster ∷ map (log_file prefix) machines

-- how many entries a machine sent, and how many events its log has
abbrev pub played_line : MachineState → List ℕ
played_line m =
    line (codes "machine " ++ m.config.name ++ codes " sent " ++ decimal (length (sent m.events))
    ++ codes " held " ++ decimal (length m.events))

-- the line of each machine, in order
abbrev pub machine_lines : List MachineState → List ℕ
machine_lines machines = flat_map played_line machines

-- the next action of a machine with this name that isn't done, and why
abbrev pub undone_line : List ℕ → Option Left → List ℕ
undone_line name None = []
undone_line name (Some left) =
    line (codes "undone " ++ name ++ codes " " ++ decimal left.place ++ codes " " ++ left_why_word left.why)

-- the lines say for each machine what is left
abbrev pub SayUndone : List MachineState → List ℕ → Type 0
SayUndone [] lines = lines ≡ []
SayUndone (m ∷ machines) lines =
    (left : Option Left) × (rest : List ℕ) × IsLeft m left × SayUndone machines rest
    × (lines ≡ undone_line m.config.name left ++ rest)

-- the statuses of machines that play, and of a refusal
abbrev pub play_statuses : List Status
play_statuses = status.Done ∷ status.Undone ∷ status.Refused ∷ status.Absent ∷ []

-- the answer of machines with this roster, of which these lines say what is left
abbrev pub play_answer : List ℕ → List Post → List MachineState → List ℕ → Answer
play_answer prefix roster machines undone = record {
  status = status_of_undone undone;
  files = play_files prefix roster machines;
  ahead = 0;
  output = machine_lines machines ++ undone;
}

-- where different entries that these machines sent have different digests, one precedes another
-- exactly where the other's machine held it, or a descendant of it, when it sent (Auditorium, EVT
-- 2007)
abbrev pub KeepOrder : List MachineState → Type 0
KeepOrder machines =
    Distinct node_of_sealed (sent_in (world_of machines)) → OrderIsReceiptIn node_of_sealed (world_of machines)

-- the answer of the script's machines once they have played
pub record IsPlayOf (prefix : List ℕ) (script : Script) (answer : Answer) : Type 0 where
  pub machines : List MachineState
  pub undone : List ℕ
  pub played : IsPlayed script machines
  pub order : KeepOrder machines
  pub honest : LeaveHonestFiles script machines (world_of machines)
  pub left : SayUndone machines undone
  pub told : answer ≡ play_answer prefix (roster_of script) machines undone

-- the answer for the script's file, or where there is none
abbrev pub IsPlayAnswer : List ℕ → List ℕ → Option (List ℕ) → Answer → Type 0
IsPlayAnswer name prefix file answer = OrRefused (GivesScript name file) (IsPlayOf prefix) answer

-- `play SCRIPT PREFIX`
abbrev pub play_parts : List ℕ → List ℕ → CommandParts
play_parts script prefix = record {
  words = codes "play" ∷ script ∷ prefix ∷ [];
  IsAllowed = ⊤;
  files = script ∷ [];
  IsAnswer = λ files answer. OnOneFile (λ file. IsPlayAnswer script prefix file answer) files;
  AreAccepted = OnOneFile IsScriptFile;
  statuses = play_statuses;
  absence = status.Absent;
}
