-- How an answer is written, and what that leaves.
use Rattle.std.specs.Prelude.{◌≡◌, ℕ, List, [], ◌∷◌, take, drop, Option, ◌⊎◌, Bool, true, false}
use Rattle.hall_outside.specs.Counts.{HasRisen}
use Rattle.hall_outside.specs.Files.{Files, with_file, SetsPrefix}
use Rattle.hall_outside.specs.Writing.{appended, AppendsPrefix, OffersAll, PutsFile}
use Rattle.hall_outside.specs.declared.sinks.Sink.{Ghosts as SinkGhosts}
use Rattle.hall_outside.specs.declared.stores.Store.{Ghosts as StoreGhosts}
use Rattle.command_line.specs.Lines.{Answer}
use Rattle.command_line.specs.Outside.{Outside}

-- the files with these set, one after another
abbrev pub with_files : Option Files → List (List ℕ × List ℕ) → Option Files
with_files old [] = old
with_files old (file ∷ files) = with_files (with_file old file.0 file.1) files

-- these files were set up to some place, the next one is as before or a prefix, and later ones are
-- untouched
abbrev pub SetsSome : Option Files → List (List ℕ × List ℕ) → Option Files → Type 0
SetsSome old [] new = new ≡ old
SetsSome old (file ∷ files) new =
    SetsPrefix old file.0 file.1 new ⊎ SetsSome (with_file old file.0 file.1) files new

-- files put one after another, up to the first that fails
abbrev pub PutsAll : {S : Type 0} → StoreGhosts S → S → List (List ℕ × List ℕ) → Bool → S → Type 0
PutsAll of old [] ok new = (new ≡ old) × (ok ≡ true)
PutsAll {S} of old (file ∷ files) ok new =
    (PutsFile (of.creates file.0) (of.appends file.0) old file.1 false new × (ok ≡ false))
    ⊎ ((mid : S) × PutsFile (of.creates file.0) (of.appends file.0) old file.1 true mid × PutsAll of mid files ok new)

-- files put one after another, and one call that says that they are all; without files there is no
-- call
abbrev pub PlacesAll : {S : Type 0} → StoreGhosts S → S → List (List ℕ × List ℕ) → Bool → S → Type 0
PlacesAll of old [] ok new = (new ≡ old) × (ok ≡ true)
PlacesAll {S} of old (file ∷ files) ok new =
    (PutsAll of old (file ∷ files) false new × (ok ≡ false))
    ⊎ ((mid : S) × PutsAll of old (file ∷ files) true mid × of.finishes mid ok new)

-- The calls by which an answer's files are put in place: those that are ahead, and once the store
-- has them, and nothing else has changed, the others. The first call that fails is the last.
abbrev pub PlacesInTurn : {S : Type 0} → StoreGhosts S → Answer → S → Bool → S → Type 0
PlacesInTurn {S} of answer old ok new =
    (PlacesAll of old (take answer.ahead answer.files) false new × (ok ≡ false))
    ⊎ ((mid : S) × PlacesAll of old (take answer.ahead answer.files) true mid
    × (of.files mid ≡ with_files (of.files old) (take answer.ahead answer.files))
    × PlacesAll of mid (drop answer.ahead answer.files) ok new)

-- The calls by which an answer is written: each file by one create and by appends, one finish after
-- the files that are ahead and one after the others, if there are any, and then the output by
-- writes, each append and write being offered all that is left. The first call that fails is the
-- last.
abbrev pub IsWrittenBy : {S K : Type 0} → StoreGhosts S → SinkGhosts K → Answer → S → K → Bool → S → K → Type 0
IsWrittenBy of_store of_sink answer store out ok store_after out_after =
    (PlacesInTurn of_store answer store false store_after × (out_after ≡ out) × (ok ≡ false))
    ⊎ (PlacesInTurn of_store answer store true store_after
    × OffersAll of_sink.writes out answer.output ok out_after)

-- nothing was written, and no write failed
pub record IsUnwritten (old new : Outside) : Type 0 where
  pub files : new.files ≡ old.files
  pub output : new.output ≡ old.output
  pub write_faults : new.write_faults ≡ old.write_faults
  pub output_faults : new.output_faults ≡ old.output_faults

-- all of the answer was written
pub record IsWritten (answer : Answer) (old new : Outside) : Type 0 where
  pub files : new.files ≡ with_files old.files answer.files
  pub output : new.output ≡ appended old.output answer.output

-- a write failed: the files were written up to some place, and a prefix of the output
pub record IsCutShort (answer : Answer) (old new : Outside) : Type 0 where
  pub cause : HasRisen old.write_faults new.write_faults ⊎ HasRisen old.output_faults new.output_faults
  pub files : SetsSome old.files answer.files new.files
  pub output : AppendsPrefix old.output answer.output new.output
  -- each file is whole unless the store failed, and the output is empty unless the sink did
  pub all_files : ¬ HasRisen old.write_faults new.write_faults
      → new.files ≡ with_files old.files answer.files
  pub no_output : ¬ HasRisen old.output_faults new.output_faults → new.output ≡ old.output
