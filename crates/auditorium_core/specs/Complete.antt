-- Completeness: a command whose inputs are all accepted is carried out.
use Rattle.std.specs.Prelude.{◌≡◌, ◌⊎◌, ℕ, List, true, Option, ⊤}
use Rattle.hall_outside.specs.Counts.{HasRisen}
use Rattle.hall_outside.specs.declared.sinks.Sink.{Ghosts as SinkGhosts}
use Rattle.hall_outside.specs.declared.stores.Store.{Ghosts as StoreGhosts}
use Rattle.evidence.specs.NamedFiles.{OnExposed, OnRead}
use Rattle.command_line.specs.declared.status.Status.{Status}
use Rattle.command_line.specs.declared.status.Status.TheVariants as status
use Rattle.command_line.specs.Reports.{IsCarriedOut}
use Rattle.auditorium_core.specs.Words.{Command, command_parts, Means}
use Rattle.command_line.specs.Lines.{Answer}
use Rattle.command_line.specs.Outside.{Outside, outside}
use Rattle.command_line.specs.Written.{IsUnwritten, IsWritten, IsWrittenBy}

-- no count of faults rose
pub record HasNoFailure (old new : Outside) : Type 0 where
  pub reads : ¬ HasRisen old.read_faults new.read_faults
  pub writes : ¬ HasRisen old.write_faults new.write_faults
  pub output : ¬ HasRisen old.output_faults new.output_faults

-- The answer is the command's over these files, and all of it was written. Where the files are
-- accepted, the command was carried out.
pub record IsAnsweredOver (command : Command) (files : List (Option (List ℕ))) (old : Outside) (how : Status)
    (new : Outside) : Type 0 where
  pub answer : Answer
  pub right : (command_parts command).IsAnswer files answer
  pub told : how ≡ answer.status
  pub carried_out : (command_parts command).AreAccepted files → IsCarriedOut how
  pub written : IsWritten answer old new

-- Where the words are one of these commands' and no count of faults rose in the call, the command
-- was answered over the exposed files, or it ran out of memory, with nothing written.
abbrev pub IsComplete : (Command → Type 0) → List (List ℕ) → Outside → Status → Outside → Type 0
IsComplete IsDone words old how new =
    (command : Command) → IsDone command → Means words command → HasNoFailure old new →
    OnExposed old.files (command_parts command).files (λ files. IsAnsweredOver command files old how new)
    ⊎ ((how ≡ status.Memory) × IsUnwritten old new)

module _ {S K : Type 0} (of_store : StoreGhosts S) (of_sink : SinkGhosts K) where
  -- The command's files were read, and the answer is its over all files that are such as was found;
  -- where these are accepted, it was carried out. Then all of the answer was written, by calls that
  -- each did as it was asked.
  pub record IsAnsweredAsRead (command : Command) (store : S) (out : K) (how : Status) (store_after : S) (out_after : K)
      : Type 0 where
    pub answer : Answer
    pub told : how ≡ answer.status
    pub read : S
    pub right : OnRead of_store (command_parts command).files
        (λ files. (command_parts command).IsAnswer files answer
        × ((command_parts command).AreAccepted files → IsCarriedOut how)) store read
    pub written : IsWrittenBy of_store of_sink answer read out true store_after out_after

  -- The same of any store and sink, whether or not they expose anything: where no count of faults
  -- rose in the call, the command was answered over the files as they were read, or it ran out of
  -- memory, with nothing written.
  abbrev pub IsCompleteAsRead : (Command → Type 0) → List (List ℕ) → S → K → Status → S → K → Type 0
  IsCompleteAsRead IsDone words store out how store_after out_after =
      let old = outside of_store of_sink store out in
      let new = outside of_store of_sink store_after out_after in
      (command : Command) → IsDone command → Means words command → HasNoFailure old new →
      IsAnsweredAsRead command store out how store_after out_after
      ⊎ ((how ≡ status.Memory) × IsUnwritten old new)
