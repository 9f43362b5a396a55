-- The file with the text of a script's roster gives the script's roster.
use Rattle.honest_places.proofs.Imports.{Err, GivesRoster, IsRosterOf, List, Ok, Option, Refusal, Result, RosterRead}
use Rattle.honest_places.proofs.Imports.{Script, SealedEntry, World, ℕ, ◌≡◌}
use Rattle.honest_places.proofs.RosterTexts.{read_of_script, script_roster_given}

module _ (script : Script) (w : World SealedEntry) (roster : Option (List ℕ)) (is : IsRosterOf script w roster)
    (name : List ℕ) where
  -- whatever the file gives is the script's roster
  given : (answer : Result RosterRead Refusal) → GivesRoster name roster answer →
      answer ≡ Ok (read_of_script script is.lawful)
  given answer gives =
      script_roster_given script is.lawful name answer (rw is.text at gives)

  -- the file of a script's roster isn't refused
  pub roster_not_refused : (refusal : Refusal) → ¬ GivesRoster name roster (Err refusal)
  roster_not_refused refusal gives = let same = given (Err refusal) gives in cc

  -- the roster that was read is the script's, in its election
  pub read_same : (read : RosterRead) → GivesRoster name roster (Ok read) → read ≡ read_of_script script is.lawful
  read_same read gives = let told = given (Ok read) gives in cc
