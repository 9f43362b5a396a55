-- The command `make`.
use Rattle.std.specs.Prelude.{◌≡◌, ℕ, [], ◌∷◌, codes, ⊤}
use Rattle.std.specs.Fmt.{decimal}
use Rattle.election_script.specs.Generated.{generated}
use Rattle.election_script.specs.Written.{script_text}
use Rattle.command_line.specs.declared.status.Status.TheVariants as status
use Rattle.command_line.specs.Lines.{Answer}
use Rattle.command_line.specs.WordForms.{AreSessions}
use Rattle.command_line.specs.CommandParts.{CommandParts, OnNoFile}

-- the text of the script of a day of this number of sessions
abbrev pub made_answer : ℕ → Answer
made_answer sessions = record { status = status.Done; files = []; ahead = 0; output = script_text (generated sessions) }

-- `make N`
abbrev pub make_parts : ℕ → CommandParts
make_parts sessions = record {
  words = codes "make" ∷ decimal sessions ∷ [];
  IsAllowed = AreSessions sessions;
  files = [];
  IsAnswer = λ files answer. OnNoFile (answer ≡ made_answer sessions) files;
  AreAccepted = OnNoFile ⊤;
  statuses = status.Done ∷ [];
  absence = status.Absent;
}
