-- What is shown of each command.
use Rattle.command_line.specs.declared.status.Status.TheVariants as status
use Rattle.command_line.proofs.Imports.{absent, Answer, ap, CommandParts, inl, inr, IsCarriedOut, List, OrRefused}
use Rattle.command_line.proofs.Imports.{Refusal, refusal_answer, refused, Result, Status, subst, sym, ℕ, ⊤, ◌≡◌}
use Rattle.std.proofs.Common.{Option}
use Rattle.std.specs.List.{All, Contains}

-- the statuses that the answer of a command can have
abbrev pub IsOfCommands : Status → Type 0
IsOfCommands status.Usage = ⊥
IsOfCommands status.ReadFault = ⊥
IsOfCommands status.WriteFault = ⊥
IsOfCommands status.Memory = ⊥
IsOfCommands other = ⊤

-- the command's answers have its statuses
pub record HasStatuses (parts : CommandParts) : Type 0 where
  -- the status of an answer is one of them
  pub own : (files : List (Option (List ℕ))) (answer : Answer) → parts.IsAnswer files answer →
      Contains parts.statuses answer.status
  -- and each of them is one that a command can have
  pub some : All IsOfCommands parts.statuses

-- where its files are accepted, the command is carried out
abbrev pub IsCompleted : CommandParts → Type 0
IsCompleted parts =
    (files : List (Option (List ℕ))) (answer : Answer) → parts.IsAnswer files answer → parts.AreAccepted files →
    IsCarriedOut answer.status

-- over files it has at most one answer
abbrev pub HasOneAnswer : CommandParts → Type 0
HasOneAnswer parts =
    (files : List (Option (List ℕ))) (a b : Answer) → parts.IsAnswer files a → parts.IsAnswer files b → a ≡ b

-- an answer that is an equal one has its status
pub status_is : (answer other : Answer) → answer ≡ other → answer.status ≡ other.status
status_is answer other e = ap (λ (a : Answer). a.status) e

-- an answer says that a command was carried out where an equal answer does
pub carried_out_as : (answer other : Answer) → answer ≡ other → IsCarriedOut other.status → IsCarriedOut answer.status
carried_out_as answer other e is = subst IsCarriedOut (sym (status_is answer other e)) is

-- an answer has one of the statuses where an equal answer has
pub contains_as : (statuses : List Status) (answer other : Answer) → answer ≡ other →
    Contains statuses other.status → Contains statuses answer.status
contains_as statuses answer other e is = subst (λ (how : Status). Contains statuses how) (sym (status_is answer other e)) is

module _ (statuses : List Status) (is_refused : Contains statuses status.Refused)
    (is_absent : Contains statuses status.Absent) where
  -- the status of a refusal
  pub of_refusal : (refusal : Refusal) → Contains statuses (refusal_answer refusal).status
  of_refusal (absent file) = is_absent
  of_refusal (refused file place cause) = is_refused

  -- what is read or refused is answered with one of the statuses where what is read is
  pub of_read : {T : Type 0} (Gives : Result T Refusal → Type 0) (IsFor : T → Answer → Type 0) (answer : Answer) →
      ((found : T) → IsFor found answer → Contains statuses answer.status) → OrRefused Gives IsFor answer →
      Contains statuses answer.status
  of_read Gives IsFor answer next (inl (refusal, gives, e)) =
      contains_as statuses answer (refusal_answer refusal) e (of_refusal refusal)
  of_read Gives IsFor answer next (inr (found, gives, is)) = next found is
