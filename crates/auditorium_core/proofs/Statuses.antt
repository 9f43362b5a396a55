-- What the status of an answer says of the words.
use Rattle.command_line.specs.declared.status.Status.TheVariants as status
use Rattle.auditorium_core.proofs.{Commands.have_statuses, Imports.All-contains}
use Rattle.auditorium_core.proofs.Imports.{Answer, AnswersWords, AreGood, Command, command_parts, Contains, Files}
use Rattle.auditorium_core.proofs.Imports.{HasItsWords, inl, inr, IsOfAnswers, IsOfCommands, List, map, Means, None}
use Rattle.auditorium_core.proofs.Imports.{OnExposed, Option, refl, Some, Status, subst, usage_answer, ℕ, ◌≡◌}

-- a status that a command can have is one that an answer can have
of_command : (how : Status) → IsOfCommands how → IsOfAnswers how
of_command status.Usage is = absurd is
of_command status.ReadFault is = absurd is
of_command status.WriteFault is = absurd is
of_command status.Memory is = absurd is
of_command how is = tt

-- what a command's status says of its words
command_words : (IsDone : Command → Type 0) (words : List (List ℕ)) (command : Command) (answer : Answer) →
    IsDone command → Means words command → Contains (command_parts command).statuses answer.status →
    HasItsWords IsDone words answer
command_words IsDone words command answer done means has =
    let some : IsOfCommands answer.status =
    All-contains IsOfCommands (command_parts command).statuses answer.status (have_statuses command).some has in
    record {
      some = of_command answer.status some;
      usage = (λ e. absurd (subst IsOfCommands e some), λ bad. absurd (bad (command, done, means)));
      own = λ not_usage. (command, means, has);
    }

-- what the status of an invalid command line says
usage_words : (IsDone : Command → Type 0) (words : List (List ℕ)) (answer : Answer) → ¬ AreGood IsDone words →
    answer ≡ usage_answer → HasItsWords IsDone words answer
usage_words IsDone words answer bad e =
    rw e (record { some = tt; usage = (λ same. bad, λ none. refl); own = λ not_usage. absurd (not_usage refl) })

-- what the status says of the words of any command, and of an invalid command line
pub status_words : (IsDone : Command → Type 0) (words : List (List ℕ)) (told : Option Files) (answer : Answer) →
    AnswersWords IsDone words (OnExposed told) answer → HasItsWords IsDone words answer
status_words IsDone words None answer (inl (command, done, means, (files, many, is))) =
    command_words IsDone words command answer done means ((have_statuses command).own files answer is)
status_words IsDone words (Some at) answer (inl (command, done, means, is)) =
    let files : List (Option (List ℕ)) = map at (command_parts command).files in
    command_words IsDone words command answer done means ((have_statuses command).own files answer is)
status_words IsDone words told answer (inr (bad, e, on)) = usage_words IsDone words answer bad e
