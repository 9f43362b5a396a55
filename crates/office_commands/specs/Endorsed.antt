-- The command `endorsed`.
use Rattle.std.specs.Prelude.{◌≡◌, ◌⊎◌, ℕ, List, [], ◌∷◌, codes, Option, Result, Ok, ⊤}
use Rattle.hss_sign.specs.Signs.{HssSigns}
use Rattle.evidence.specs.Refusal.{Refusal}
use Rattle.auditor.specs.Audits.{FileThen}
use Rattle.command_line.specs.declared.status.Status.TheVariants as status
use Rattle.command_line.specs.Lines.{Answer, OrRefused, line_answer}
use Rattle.office_commands.specs.NamedBytes.{AtLast, GivesBytes, max_signed, max_small}
use Rattle.command_line.specs.CommandParts.{CommandParts}

-- a public key, the bytes that were signed, and the signature
pub record Signed : Type 0 where
  pub key : List ℕ
  pub bytes : List ℕ
  pub signature : List ℕ

-- what their files give
abbrev pub GivesSigned : List ℕ → List ℕ → List ℕ → List (Option (List ℕ)) → Result Signed Refusal → Type 0
GivesSigned key file signature =
    FileThen (GivesBytes max_small key)
    (λ k. FileThen (GivesBytes max_signed file)
    (λ m. FileThen (GivesBytes max_small signature)
    (λ s. AtLast (record { key = k; bytes = m; signature = s }))))

-- whether the signature is one of the bytes under the key; a key of unknown types has none
abbrev pub IsEndorsedVerdict : Signed → Answer → Type 0
IsEndorsedVerdict read answer =
    (HssSigns read.key read.bytes read.signature × (answer ≡ line_answer status.Done (codes "good")))
    ⊎ ((¬ HssSigns read.key read.bytes read.signature) × (answer ≡ line_answer status.Findings (codes "bad")))

-- the answer for these files, or the first refusal (RFC 8554, 6.3)
abbrev pub IsEndorsedAnswer : List ℕ → List ℕ → List ℕ → List (Option (List ℕ)) → Answer → Type 0
IsEndorsedAnswer key file signature files answer =
    OrRefused (GivesSigned key file signature files) IsEndorsedVerdict answer

-- `endorsed KEY FILE SIG`
abbrev pub endorsed_parts : List ℕ → List ℕ → List ℕ → CommandParts
endorsed_parts key file signature = record {
  words = codes "endorsed" ∷ key ∷ file ∷ signature ∷ [];
  IsAllowed = ⊤;
  files = key ∷ file ∷ signature ∷ [];
  IsAnswer = IsEndorsedAnswer key file signature;
  AreAccepted = λ files. (read : Signed) × GivesSigned key file signature files (Ok read);
  statuses = status.Done ∷ status.Findings ∷ status.Refused ∷ status.Absent ∷ [];
  absence = status.Absent;
}
