-- What the program has done, by the status with which it ends.
use Rattle.std.specs.Prelude.{◌≡◌, ℕ, List, Option, Bool, true, false}
use Rattle.hall_outside.specs.Counts.{HasRisen}
use Rattle.hall_outside.specs.declared.sinks.Sink.{Ghosts as SinkGhosts}
use Rattle.hall_outside.specs.declared.stores.Store.{Ghosts as StoreGhosts}
use Rattle.evidence.specs.NamedFiles.{OnExposed, OnRead}
use Rattle.command_line.specs.declared.status.Status.{Status}
use Rattle.command_line.specs.declared.status.Status.TheVariants.{ReadFault, WriteFault, Memory}
use Rattle.command_line.specs.Lines.{Answer}
use Rattle.command_line.specs.Outside.{Outside}
use Rattle.command_line.specs.Written.{IsCutShort, IsUnwritten, IsWritten, IsWrittenBy}
use Rattle.auditorium_core.specs.Words.{Command}
use Rattle.auditorium_core.specs.Answer.{IsAnswerOf}

-- The calls by which an answer is given: files of these names are read, the first ones in their
-- order, and this holds of all files that are such as was found; then the answer is written, from
-- the state in which the reads left the store. They change no file, and no write fails in them.
abbrev pub IsGivenBy : {S K : Type 0} → StoreGhosts S → SinkGhosts K → S → K → S → K → Answer → Bool
    → List (List ℕ) → (List (Option (List ℕ)) → Type 0) → Type 0
IsGivenBy {S} of_store of_sink store out store_after out_after answer ok names P =
    (read : S) × OnRead of_store names P store read × (of_store.files read ≡ of_store.files store)
    × (of_store.write_faults read ≡ of_store.write_faults store)
    × IsWrittenBy of_store of_sink answer read out ok store_after out_after

-- an answer is given by whatever calls; this holds of the exposed files of these names
abbrev pub IsGivenSomehow : Outside → Answer → Bool → List (List ℕ) → (List (Option (List ℕ)) → Type 0) → Type 0
IsGivenSomehow old answer ok = OnExposed old.files

-- What was done for words where these are the commands. Where it ran out of memory, no read and no
-- write failed. A status other than that and the faults of the outside is that of the answer. An
-- answer is given by these calls, all of which but the last, in the second case, do as they are
-- asked.
abbrev pub HasDone : (Command → Type 0) → List (List ℕ)
    → (Answer → Bool → List (List ℕ) → (List (Option (List ℕ)) → Type 0) → Type 0) → Outside → Status → Outside → Type 0
HasDone IsDone words IsGiven old ReadFault new =
    HasRisen old.read_faults new.read_faults × IsUnwritten old new
HasDone IsDone words IsGiven old WriteFault new =
    (answer : Answer) × IsAnswerOf IsDone words (IsGiven answer false) old new answer × IsCutShort answer old new
HasDone IsDone words IsGiven old Memory new =
    IsUnwritten old new × (new.read_faults ≡ old.read_faults)
HasDone IsDone words IsGiven old status new =
    (answer : Answer) × IsAnswerOf IsDone words (IsGiven answer true) old new answer × (status ≡ answer.status)
    × IsWritten answer old new
