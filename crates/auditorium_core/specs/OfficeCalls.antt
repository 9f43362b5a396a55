-- What calls of the program leave of an office's file and of its signatures, on a store that
-- exposes its files.
use Rattle.std.specs.Prelude.{◌≡◌, ◌≢◌, ◌⊎◌, ℕ, ◌<◌, Bool, true, List, [], ◌∷◌, length, take, Some, Ok, IsSomeAnd, ⊤}
use Rattle.std.specs.List.{AllPairs}
use Rattle.hall_outside.specs.Files.{Files, file_set}
use Rattle.hall_outside.specs.declared.stores.Store.{Ghosts as StoreGhosts}
use Rattle.evidence.specs.NamedFiles.{OnExposed}
use Rattle.office_key.specs.declared.office.Office.{Office}
use Rattle.office_key.specs.Endorsements.{endorsement}
use Rattle.office_key.specs.Offices.{IsOffice, office_text, next_office}
use Rattle.command_line.specs.declared.status.Status.{Status}
use Rattle.command_line.specs.declared.status.Status.TheVariants.{Done}
use Rattle.office_commands.specs.Endorse.{GivesUnsigned, Unsigned, endorse_answer, signature_file}
use Rattle.office_commands.specs.OfficeFile.{office_file}
use Rattle.auditorium_core.specs.Outcome.{HasDone, IsGivenSomehow}
use Rattle.command_line.specs.Written.{PlacesInTurn}
use Rattle.command_line.specs.Outside.{Outside}
use Rattle.auditorium_core.specs.Words.{Command, Means, endorse, endorsed, office}

-- the office's file among these is the text of this office
abbrev pub IsOfficeIn : Files → List ℕ → Office → Type 0
IsOfficeIn files name of = IsSomeAnd (files (office_file name)) (λ bytes. IsOffice bytes of)

-- `endorse` reads this in these files
abbrev pub ReadsUnsigned : Files → List ℕ → List ℕ → Unsigned → Type 0
ReadsUnsigned files name file read =
    GivesUnsigned name file (files (office_file name) ∷ files file ∷ []) (Ok read)

-- the office's file is a proper prefix of its next text, which is no office's, and nothing else
-- changed
pub record IsCutOff (name : List ℕ) (of : Office) (before after : Files) : Type 0 where
  pub n : ℕ
  pub proper : n < length (office_text (next_office of))
  pub left : after ≡ file_set before (office_file name) (take n (office_text (next_office of)))
  pub refused : (other : Office) → ¬ IsOfficeIn after name other

-- the files with the office's next number in its file
abbrev pub with_next : Files → List ℕ → Office → Files
with_next before name of = file_set before (office_file name) (office_text (next_office of))

-- the office's file has the next number, the signature's file is as before or a prefix of the
-- signature, and nothing else changed
pub record IsUsedUp (name file : List ℕ) (read : Unsigned) (before after : Files) : Type 0 where
  pub next : IsOfficeIn after name (next_office read.office)
  pub left : (after ≡ with_next before name read.office)
      ⊎ ((n : ℕ) × (after ≡ file_set (with_next before name read.office) (signature_file file)
      (take n (endorsement name read.office read.bytes))))

-- the three states in which a call of `endorse` may leave the files: as they were, or one of those
-- above
abbrev pub IsLeftSo : List ℕ → List ℕ → Files → Files → Type 0
IsLeftSo name file before after =
    (after ≡ before)
    ⊎ ((read : Unsigned) × ReadsUnsigned before name file read
    × (IsCutOff name read.office before after ⊎ IsUsedUp name file read before after))

-- the signature's file differs from before only where the office's file has the next number
abbrev pub IsSignedByNumber : List ℕ → List ℕ → Files → Files → Type 0
IsSignedByNumber name file before after =
    after (signature_file file) ≢ before (signature_file file) →
    (read : Unsigned) × ReadsUnsigned before name file read × IsOfficeIn after name (next_office read.office)

-- `endorse` read this, from files that are exposed or from some, and then put the office's file with
-- the next number in place, and only after that begun the signature's
abbrev pub SignsInTurn : {S : Type 0} → StoreGhosts S → List ℕ → List ℕ → S → Bool → S → Type 0
SignsInTurn {S} of name file old ok new =
    (read : Unsigned)
    × OnExposed (of.files old) (office_file name ∷ file ∷ []) (λ files. GivesUnsigned name file files (Ok read))
    × (mid : S) × (of.files mid ≡ of.files old) × PlacesInTurn of (endorse_answer name file read) mid ok new

-- On any store, a call of `endorse` that is done has made these calls, and so has one in which a write
-- of the store failed, up to that.
pub record IsSignedInTurn {S : Type 0} (of : StoreGhosts S) (name file : List ℕ) (old : S) (how : Status) (new : S)
    : Type 0 where
  pub done : how ≡ Done → SignsInTurn of name file old true new
  pub failed : of.write_faults old < of.write_faults new → (ok : Bool) × SignsInTurn of name file old ok new

-- a call of the program on a store that exposes its files
pub record Call : Type 0 where
  pub words : List (List ℕ)
  pub before : Files
  pub how : Status
  pub after : Files

-- the call does what the program does, where these are its commands
pub record IsCall (IsDone : Command → Type 0) (call : Call) : Type 0 where
  pub old : Outside
  pub new : Outside
  pub told : old.files ≡ Some call.before
  pub left : new.files ≡ Some call.after
  pub done : HasDone IsDone call.words (IsGivenSomehow old) old call.how new

-- the words are those of `office`, `endorse` or `endorsed`
abbrev pub AreOfOffices : List (List ℕ) → Type 0
AreOfOffices words =
    ((name seed : List ℕ) × Means words (office name seed))
    ⊎ ((name file : List ℕ) × Means words (endorse name file))
    ⊎ ((key file signature : List ℕ) × Means words (endorsed key file signature))

-- a call of `office`, `endorse` or `endorsed`, or what leaves the office's file as it was
abbrev pub IsCallOrOther : (Command → Type 0) → List ℕ → Call → Type 0
IsCallOrOther IsDone name call =
    (IsCall IsDone call × AreOfOffices call.words)
    ⊎ (call.after (office_file name) ≡ call.before (office_file name))

-- calls of these commands, or ones that leave the office's file, one after another, from these
-- files on
abbrev pub AreCallsOn : (Command → Type 0) → List ℕ → Files → List Call → Type 0
AreCallsOn IsDone name files [] = ⊤
AreCallsOn IsDone name files (call ∷ calls) =
    (call.before ≡ files) × IsCallOrOther IsDone name call × AreCallsOn IsDone name call.after calls

-- the call used the number that the office has in what it read, for these bytes
pub record UsesNumber (name : List ℕ) (call : Call) (read : Unsigned) : Type 0 where
  pub file : List ℕ
  pub means : Means call.words (endorse name file)
  pub read_so : GivesUnsigned name file (call.before (office_file name) ∷ call.before file ∷ []) (Ok read)
  pub next : IsSomeAnd (call.after (office_file name)) (λ bytes. IsOffice bytes (next_office read.office))

-- the numbers that calls use rise, so that each is used once
abbrev pub NumbersRise : List ℕ → List Call → Type 0
NumbersRise name calls =
    AllPairs (λ first second. (read again : Unsigned) → UsesNumber name first read → UsesNumber name second again →
    read.office.next < again.office.next) calls
