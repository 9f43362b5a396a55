-- An office's file.
use Rattle.std.specs.Prelude.{◌≡◌, ◌⊎◌, ℕ, ◌<◌, ◌≤◌, List, ◌++◌, length, codes, Option, Some, None, Result, Ok, Err}
use Rattle.office_key.specs.declared.office.Office.{Office}
use Rattle.office_key.specs.Offices.{IsOffice, max_signatures}
use Rattle.evidence.specs.Refusal.{Refusal, absent, refused, too_long}
use Rattle.office_commands.specs.NamedBytes.{max_small}

-- the name of the file of the office with this name
abbrev pub office_file : List ℕ → List ℕ
office_file name = name ++ codes ".office"

-- an office that is to sign: it is refused where its key is spent
abbrev pub GivesUnspent : List ℕ → Office → Result Office Refusal → Type 0
GivesUnspent file office answer =
    ((office.next < max_signatures) × (answer ≡ Ok office))
    ⊎ ((office.next ≡ max_signatures) × (answer ≡ Err (refused file 0 (codes "Spent"))))

-- the bytes are those of an office, or of none
abbrev pub GivesOfficeOf : List ℕ → List ℕ → Result Office Refusal → Type 0
GivesOfficeOf file bytes answer =
    ((office : Office) × IsOffice bytes office × GivesUnspent file office answer)
    ⊎ (((office : Office) → ¬ IsOffice bytes office) × (answer ≡ Err (refused file 0 (codes "Office"))))

-- what the office's file gives, or that there is none
abbrev pub GivesOffice : List ℕ → Option (List ℕ) → Result Office Refusal → Type 0
GivesOffice file None answer = answer ≡ Err (absent file)
GivesOffice file (Some bytes) answer =
    ((max_small < length bytes) × (answer ≡ Err (too_long file)))
    ⊎ ((length bytes ≤ max_small) × GivesOfficeOf file bytes answer)
