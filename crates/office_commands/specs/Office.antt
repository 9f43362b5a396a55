-- The command `office`.
use Rattle.std.specs.Prelude.{◌≡◌, ℕ, List, [], ◌∷◌, ◌++◌, length, codes, Option, Some, None}
use Rattle.hex.specs.Hex.{encode_lower, IsBytes}
use Rattle.office_key.specs.Endorsements.{office_public}
use Rattle.office_key.specs.Offices.{office_of, office_text}
use Rattle.log_files.specs.Lines.{line}
use Rattle.evidence.specs.NamedFiles.{OnOneFile}
use Rattle.command_line.specs.declared.status.Status.TheVariants as status
use Rattle.command_line.specs.Lines.{Answer, refused_answer}
use Rattle.office_commands.specs.OfficeFile.{office_file}
use Rattle.command_line.specs.CommandParts.{CommandParts}

-- a seed: 32 bytes
pub record IsOfficeSeed (seed : List ℕ) : Type 0 where
  pub size : length seed ≡ 32
  pub bytes : IsBytes seed

-- the file of an office's public key
abbrev pub key_file : List ℕ → List ℕ
key_file name = name ++ codes ".key"

-- the files of an office that has signed nothing
abbrev pub made_office : List ℕ → List ℕ → Answer
made_office name seed = record {
  status = status.Done;
  files = (office_file name, office_text (office_of seed 0)) ∷ (key_file name, office_public name seed) ∷ [];
  ahead = 0;
  output = line (codes "office " ++ name);
}

-- a file that is there is never overwritten, whatever it has
abbrev pub IsOfficeAnswer : List ℕ → List ℕ → Option (List ℕ) → Answer → Type 0
IsOfficeAnswer name seed None answer = answer ≡ made_office name seed
IsOfficeAnswer name seed (Some bytes) answer = answer ≡ refused_answer (office_file name) 0 (codes "Exists")

-- `office NAME SEED`; it asks for the absence of the file, and so is done where the store says so
abbrev pub office_parts : List ℕ → List ℕ → CommandParts
office_parts name seed = record {
  words = codes "office" ∷ name ∷ encode_lower seed ∷ [];
  IsAllowed = IsOfficeSeed seed;
  files = office_file name ∷ [];
  IsAnswer = λ files answer. OnOneFile (λ file. IsOfficeAnswer name seed file answer) files;
  AreAccepted = OnOneFile (λ file. file ≡ None);
  statuses = status.Done ∷ status.Refused ∷ [];
  absence = status.Done;
}
