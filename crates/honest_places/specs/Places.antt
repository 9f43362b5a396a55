-- The files of an audit of what is left of an honest place.
use Rattle.std.specs.Prelude.{◌≡◌, ℕ, ◌<◌, List, ◌∷◌, length, All, Option, Some, IsSomeAnd}
use Rattle.canonical_sexp.specs.Text.{text_of}
use Rattle.roster.specs.RosterText.{roster_tree}
use Rattle.election_script.specs.declared.script.Script.{Script}
use Rattle.election_script.specs.Lawful.{IsLawful}
use Rattle.entry_format.specs.SealedEntry.{SealedEntry}
use Rattle.entry_order.specs.declared.step.Step.{Step}
use Rattle.entry_order.specs.World.{World, history}
use Rattle.polling_world.specs.Keys.{roster_of}
use Rattle.polling_world.specs.Playing.{ComesTo}
use Rattle.log_files.specs.Written.{log_text}
use Rattle.honest_places.specs.WhatIsLeft.{IsLeftIn}
use Rattle.auditor.specs.Sources.{RuleSource, standard, in_file}

-- The script is lawful, its machines come to w by some steps, and the file has the text of its
-- roster.
pub record IsRosterOf (script : Script) (w : World SealedEntry) (file : Option (List ℕ)) : Type 0 where
  pub steps : List Step
  pub lawful : IsLawful script
  pub comes : ComesTo script steps w
  pub text : file ≡ Some (text_of (roster_tree (roster_of script)))

-- What is left of an honest place: the file of the script's roster, and files of which each is what
-- is left of the log of one of the script's machines, once they came to w.
pub record HasLeft (script : Script) (w : World SealedEntry) (roster_file : Option (List ℕ))
    (log_files : List (Option (List ℕ))) : Type 0 where
  pub roster : IsRosterOf script w roster_file
  pub logs : All (λ file. IsSomeAnd file (IsLeftIn w)) log_files

-- what an audit reads: the roster's file, that of the rules if they are in one, and those of the
-- logs
abbrev pub files_read : Option (List ℕ) → RuleSource → Option (List ℕ) → List (Option (List ℕ))
    → List (Option (List ℕ))
files_read roster standard rules logs = roster ∷ logs
files_read roster (in_file name) rules logs = roster ∷ rules ∷ logs

-- the bytes are the whole log of a machine of w
abbrev pub IsWholeIn : World SealedEntry → List ℕ → Type 0
IsWholeIn w bytes = (machine : ℕ) × (machine < length w) × (bytes ≡ log_text machine (history w machine))

-- each of the files is there and is the whole log of a machine of w
abbrev pub AreWholeFilesOf : World SealedEntry → List (Option (List ℕ)) → Type 0
AreWholeFilesOf w files = All (λ file. IsSomeAnd file (IsWholeIn w)) files
