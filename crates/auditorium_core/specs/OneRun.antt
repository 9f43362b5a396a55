-- What determines the answers of `run`.
use Rattle.std.specs.Prelude.{◌≡◌, ◌≢◌, ◌↔◌, ℕ, List, ◌++◌, map, Option, Some}
use Rattle.std.specs.List.{AllZip}
use Rattle.entry_format.specs.SealedEntry.{SealedEntry}
use Rattle.entry_order.specs.declared.event.Event.{Event}
use Rattle.roster.specs.declared.post.Post.{Post}
use Rattle.finished_floor.specs.declared.loss.Loss.{Loss}
use Rattle.finished_floor.specs.declared.loss.LossWhy.TheVariants.{Scripted, ToStopped, LogFull}
use Rattle.hall_outside.specs.Files.{Files}
use Rattle.evidence.specs.NamedFiles.{OnExposed}
use Rattle.command_line.specs.Lines.{Answer, OrRefused}
use Rattle.place_commands.specs.ScriptFile.{GivesScript}
use Rattle.place_commands.specs.Run.{IsRunOf, loss_lines}
use Rattle.auditorium_core.specs.Words.{IsAny}
use Rattle.auditorium_core.specs.Answer.{AnswersWords}

-- Both losses are of one entry on its way to one machine. A line of the script names both or
-- neither, and it isn't that one is of a stopped receiver and the other of a full log. Else their
-- causes may differ.
pub record DiffersInCause (loss other : Loss) : Type 0 where
  pub entry : other ≡ record loss { why = other.why }
  pub scripted : (loss.why ≡ Scripted) ↔ (other.why ≡ Scripted)
  pub stopped : loss.why ≡ ToStopped → other.why ≢ LogFull
  pub full : loss.why ≡ LogFull → other.why ≢ ToStopped

-- each of the losses and the other at its place differ in this alone
abbrev pub DifferInCauses : List Loss → List Loss → Type 0
DifferInCauses losses others = AllZip DiffersInCause losses others

-- two answers have the same status and files, and the same output but for the causes in the lines
-- of losses
pub record AreSameButCauses (answer other : Answer) : Type 0 where
  pub status : answer.status ≡ other.status
  pub files : answer.files ≡ other.files
  pub ahead : answer.ahead ≡ other.ahead
  pub roster : List Post
  pub losses : List Loss
  pub others : List Loss
  pub front : List ℕ
  pub rest : List ℕ
  pub causes : DifferInCauses losses others
  pub output : answer.output ≡ front ++ loss_lines roster losses ++ rest
  pub other_output : other.output ≡ front ++ loss_lines roster others ++ rest

-- the answer is right for the script's file, and the machines have these histories, in their order,
-- unless the script is refused
abbrev pub IsRunAnswerWith : List (List (Event SealedEntry)) → List ℕ → List ℕ → Option (List ℕ) → Answer → Type 0
IsRunAnswerWith histories name prefix file answer =
    OrRefused (GivesScript name file)
    (λ script answer. (is : IsRunOf prefix script answer) × (map (λ m. m.events) is.machines ≡ histories)) answer

-- two right answers of `run` for one script's file, with the same histories, are the same but for
-- the causes of losses
abbrev pub HistoriesDetermineRuns : Type 0
HistoriesDetermineRuns =
    (histories : List (List (Event SealedEntry))) (name prefix : List ℕ) (file : Option (List ℕ))
    (answer other : Answer) → IsRunAnswerWith histories name prefix file answer →
    IsRunAnswerWith histories name prefix file other → AreSameButCauses answer other

-- of any command, two right answers for the same words and files that write the same files are the
-- same but for the causes of losses
abbrev pub WrittenFilesDetermineAnswers : Type 0
WrittenFilesDetermineAnswers =
    (words : List (List ℕ)) (files : Files) (answer other : Answer) →
    AnswersWords IsAny words (OnExposed (Some files)) answer →
    AnswersWords IsAny words (OnExposed (Some files)) other → answer.files ≡ other.files →
    AreSameButCauses answer other
