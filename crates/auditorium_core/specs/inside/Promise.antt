-- What the program promises of its answer and of the store.
use Rattle.std.specs.Prelude.{List, ℕ, Result}
use Rattle.hall_outside.specs.declared.stores.Store.{Ghosts as StoreGhosts}
use Rattle.evidence.specs.NamedFiles.{OnRead}
use Rattle.command_line.specs.declared.answer.Fault.{Fault}
use Rattle.command_line.specs.Lines.{Answer}
use Rattle.command_line.specs.Promise.{IsAnswered}
use Rattle.auditorium_core.specs.Words.{Command}
use Rattle.auditorium_core.specs.Answer.{AnswersWords, TellsAbsence}

module _ {S : Type 0} (of : StoreGhosts S) where
  -- the result of a call is right for words, where these are the commands
  abbrev pub AreAnswered : (Command → Type 0) → List (List ℕ) → S → Result Answer Fault → S → Type 0
  AreAnswered IsDone words =
      IsAnswered of (λ old answer new. AnswersWords IsDone words (λ names P. OnRead of names P old new) answer)
      (TellsAbsence words)
