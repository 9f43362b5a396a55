-- What words and files give: a status, the files to be written in order, and the output.
use Rattle.std.specs.Prelude.{◌≡◌, ◌≢◌, ◌↔◌, ℕ, List, [], Option, ◌⊎◌, ⊤}
use Rattle.std.specs.List.{Contains}
use Rattle.hall_outside.specs.Counts.{ComesExactly}
use Rattle.hall_outside.specs.Files.{Files}
use Rattle.evidence.specs.NamedFiles.{OnExposed}
use Rattle.command_line.specs.declared.status.Status.{Status}
use Rattle.command_line.specs.declared.status.Status.TheVariants as status
use Rattle.command_line.specs.Outside.{Outside}
use Rattle.auditorium_core.specs.Words.{Command, command_parts, Means, AreGood}
use Rattle.command_line.specs.Lines.{Answer, usage_answer}

-- what a command gives over the exposed files
abbrev pub IsAnswerTo : Command → Option Files → Answer → Type 0
IsAnswerTo command told answer =
    OnExposed told (command_parts command).files (λ files. (command_parts command).IsAnswer files answer)

-- What words give where these are the commands: the answer of the command that they mean, which is
-- right for the files that it names, or that of a usage error, which asks for no file. `OnFiles` is
-- how something is said of the files of these names.
abbrev pub AnswersWords : (Command → Type 0) → List (List ℕ)
    → (List (List ℕ) → (List (Option (List ℕ)) → Type 0) → Type 0) → Answer → Type 0
AnswersWords IsDone words OnFiles answer =
    ((command : Command) × IsDone command × Means words command
    × OnFiles (command_parts command).files (λ files. (command_parts command).IsAnswer files answer))
    ⊎ ((¬ AreGood IsDone words) × (answer ≡ usage_answer) × OnFiles [] (λ files. ⊤))

-- the answer says that a file is absent, for a command that the words mean
abbrev pub TellsAbsence : List (List ℕ) → Answer → Type 0
TellsAbsence words answer =
    (command : Command) × Means words command × (answer.status ≡ (command_parts command).absence)

-- The answer is right for the files. It says that a file is absent exactly where the store said so
-- in the call.
pub record IsAnswerOf (IsDone : Command → Type 0) (words : List (List ℕ))
    (OnFiles : List (List ℕ) → (List (Option (List ℕ)) → Type 0) → Type 0) (old new : Outside) (answer : Answer)
    : Type 0 where
  pub answers : AnswersWords IsDone words OnFiles answer
  pub absent : ComesExactly old.answered.absences new.answered.absences (TellsAbsence words answer)

-- the statuses that an answer can have
abbrev pub IsOfAnswers : Status → Type 0
IsOfAnswers status.ReadFault = ⊥
IsOfAnswers status.WriteFault = ⊥
IsOfAnswers status.Memory = ⊥
IsOfAnswers other = ⊤

-- the words are those of a command that may answer with this status
abbrev pub MeansOneWith : List (List ℕ) → Status → Type 0
MeansOneWith words how = (command : Command) × Means words command × Contains (command_parts command).statuses how

-- What the status of an answer says of the words, where these are the commands: Usage, that the
-- command line is invalid, and any other, which command they may be.
pub record HasItsWords (IsDone : Command → Type 0) (words : List (List ℕ)) (answer : Answer) : Type 0 where
  pub some : IsOfAnswers answer.status
  pub usage : (answer.status ≡ status.Usage) ↔ ¬ AreGood IsDone words
  pub own : answer.status ≢ status.Usage → MeansOneWith words answer.status
