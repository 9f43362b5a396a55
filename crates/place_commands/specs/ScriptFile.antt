-- What a script's file gives.
use Rattle.std.specs.Prelude.{◌≡◌, ◌⊎◌, ℕ, ◌<◌, ◌≤◌, List, length, Option, Some, None, Result, Ok, Err, IsSomeAnd}
use Rattle.election_script.specs.declared.script.Script.{Script}
use Rattle.input_causes.specs.declared.script.ScriptWhy.{ScriptWhy}
use Rattle.election_script.specs.declared.faults.ScriptFault.TheVariants.{At}
use Rattle.input_causes.specs.Causes.{script_why_word}
use Rattle.election_script.specs.Reading.{Reads}
use Rattle.evidence.specs.Refusal.{Refusal, absent, refused, too_long}

-- the most bytes of a script's file
abbrev pub max_script : ℕ
max_script = 4194304

-- what the script's file gives, or that there is none: the script, or the line and the cause of the
-- first fault
abbrev pub GivesScript : List ℕ → Option (List ℕ) → Result Script Refusal → Type 0
GivesScript name None answer = answer ≡ Err (absent name)
GivesScript name (Some bytes) answer =
    ((max_script < length bytes) × (answer ≡ Err (too_long name)))
    ⊎ ((length bytes ≤ max_script) × ((number : ℕ) × (why : ScriptWhy) × Reads bytes (Err (At number why))
    × (answer ≡ Err (refused name number (script_why_word why)))))
    ⊎ ((length bytes ≤ max_script) × ((script : Script) × Reads bytes (Ok script) × (answer ≡ Ok script)))

-- the file is there, within the limit, and a script's
abbrev pub IsScriptFile : Option (List ℕ) → Type 0
IsScriptFile file =
    IsSomeAnd file (λ bytes. (length bytes ≤ max_script) × ((script : Script) × Reads bytes (Ok script)))
