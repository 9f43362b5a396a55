-- Files that are read whole, one after another.
use Rattle.std.specs.Prelude.{◌≡◌, ◌⊎◌, ℕ, ◌<◌, ◌≤◌, List, [], ◌∷◌, length, Option, Some, None, Result, Ok, Err}
use Rattle.evidence.specs.Refusal.{Refusal, absent, too_long}

-- the most bytes of a file that is signed
abbrev pub max_signed : ℕ
max_signed = 67108864

-- the most bytes of an office's file, of a public key and of a signature
abbrev pub max_small : ℕ
max_small = 65536

-- what a file gives: its bytes, or the refusal of one that is absent or over the limit
abbrev pub GivesBytes : ℕ → List ℕ → Option (List ℕ) → Result (List ℕ) Refusal → Type 0
GivesBytes limit name None answer = answer ≡ Err (absent name)
GivesBytes limit name (Some bytes) answer =
    ((limit < length bytes) × (answer ≡ Err (too_long name))) ⊎ ((length bytes ≤ limit) × (answer ≡ Ok bytes))

-- the answer is what was found, and no file is left to read
abbrev pub AtLast : {B : Type 0} → B → List (Option (List ℕ)) → Result B Refusal → Type 0
AtLast found [] answer = answer ≡ Ok found
AtLast found (file ∷ files) answer = ⊥
