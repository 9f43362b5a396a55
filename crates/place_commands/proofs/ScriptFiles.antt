-- What is said of a script's file.
use Rattle.place_commands.proofs.Imports.{Option, Some, ℕ, List, None, inl, refl, Err, IsFileRefused, Script, too_long}
use Rattle.place_commands.proofs.Imports.{max_script, GivesScript}
use Rattle.hall_outside.specs.declared.reading.FileFault.TheVariants as file

-- the script itself is what is read
abbrev pub itself : Script → Script
itself script = script

-- a script's file that is too long is refused as too long
pub long_script : (name : List ℕ) (this : Option (List ℕ)) → IsFileRefused max_script file.TooLong this →
    GivesScript name this (Err (too_long name))
long_script name None is = absurd is
long_script name (Some bytes) is = inl (is, refl)
