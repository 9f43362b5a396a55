-- The command `endorse`.
use Rattle.std.specs.Prelude.{◌≡◌, ℕ, List, [], ◌∷◌, ◌++◌, codes, Option, Result, Ok, ⊤}
use Rattle.std.specs.Fmt.{decimal}
use Rattle.hss_sign.specs.Signs.{HssSigns}
use Rattle.office_key.specs.declared.office.Office.{Office}
use Rattle.office_key.specs.Endorsements.{endorsement, office_public}
use Rattle.office_key.specs.Offices.{office_text, next_office}
use Rattle.evidence.specs.Refusal.{Refusal}
use Rattle.log_files.specs.Lines.{line}
use Rattle.auditor.specs.Audits.{FileThen}
use Rattle.command_line.specs.declared.status.Status.TheVariants as status
use Rattle.command_line.specs.Lines.{Answer, OrRefused}
use Rattle.office_commands.specs.NamedBytes.{AtLast, GivesBytes, max_signed}
use Rattle.office_commands.specs.OfficeFile.{GivesOffice, office_file}
use Rattle.command_line.specs.CommandParts.{CommandParts}

-- the file of the signature of a file
abbrev pub signature_file : List ℕ → List ℕ
signature_file file = file ++ codes ".sig"

-- what is read for a signature: the office, and the bytes that it is to sign
pub record Unsigned : Type 0 where
  pub office : Office
  pub bytes : List ℕ

-- what the office's file and the file give
abbrev pub GivesUnsigned : List ℕ → List ℕ → List (Option (List ℕ)) → Result Unsigned Refusal → Type 0
GivesUnsigned name file =
    FileThen (GivesOffice (office_file name))
    (λ office. FileThen (GivesBytes max_signed file)
    (λ bytes. AtLast (record { office = office; bytes = bytes })))

-- the line of a signature of the file under this number
abbrev pub endorsed_line : List ℕ → ℕ → List ℕ
endorsed_line file number = line (codes "endorsed " ++ file ++ codes " " ++ decimal number)

-- the signature has the office's next number, which is used up: the office's file, with the number
-- after it, is put in place before the signature's is begun
abbrev pub endorse_answer : List ℕ → List ℕ → Unsigned → Answer
endorse_answer name file read = record {
  status = status.Done;
  files = (office_file name, office_text (next_office read.office))
      ∷ (signature_file file, endorsement name read.office read.bytes) ∷ [];
  ahead = 1;
  output = endorsed_line file read.office.next;
}

-- the answer is that, and the signature is one of the bytes under the office's public key
pub record IsEndorsement (name file : List ℕ) (read : Unsigned) (answer : Answer) : Type 0 where
  pub good : HssSigns (office_public name read.office.seed) read.bytes (endorsement name read.office read.bytes)
  pub told : answer ≡ endorse_answer name file read

-- the answer for these files, or the first refusal (RFC 8554, 6.2)
abbrev pub IsEndorseAnswer : List ℕ → List ℕ → List (Option (List ℕ)) → Answer → Type 0
IsEndorseAnswer name file files answer = OrRefused (GivesUnsigned name file files) (IsEndorsement name file) answer

-- `endorse NAME FILE`
abbrev pub endorse_parts : List ℕ → List ℕ → CommandParts
endorse_parts name file = record {
  words = codes "endorse" ∷ name ∷ file ∷ [];
  IsAllowed = ⊤;
  files = office_file name ∷ file ∷ [];
  IsAnswer = IsEndorseAnswer name file;
  AreAccepted = λ files. (read : Unsigned) × GivesUnsigned name file files (Ok read);
  statuses = status.Done ∷ status.Refused ∷ status.Absent ∷ [];
  absence = status.Absent;
}
