-- The files of a script's machines are those of an honest place.
use Rattle.std.specs.Prelude.{ℕ, List, Option, Some}
use Rattle.canonical_sexp.specs.Text.{text_of}
use Rattle.roster.specs.RosterText.{roster_tree}
use Rattle.entry_format.specs.SealedEntry.{SealedEntry}
use Rattle.entry_order.specs.World.{World}
use Rattle.election_script.specs.declared.script.Script.{Script}
use Rattle.polling_world.specs.Keys.{roster_of}
use Rattle.polling_world.specs.Machines.{MachineState}
use Rattle.honest_places.specs.LeftFiles.{AreAllFilesOf, written_logs}
use Rattle.honest_places.specs.Places.{AreWholeFilesOf, HasLeft, IsRosterOf}

-- this holds of each honest place that left these files: of each lawful script, and of each world
-- to which its machines come by some steps
abbrev pub OnEachPlace : (Script → World SealedEntry → Type 0) → Option (List ℕ) → List (Option (List ℕ)) → Type 0
OnEachPlace Holds roster logs = (script : Script) (w : World SealedEntry) → HasLeft script w roster logs → Holds script w

-- The script's machines come to w by some steps, the roster's text is that of w, and the machines'
-- logs, as they are written, are the logs of w: each is whole, and none is missing. So what `order`
-- and `audit` say of an honest place holds of these files, and of what is left of them.
pub record LeaveHonestFiles (script : Script) (machines : List MachineState) (w : World SealedEntry) : Type 0 where
  pub roster : IsRosterOf script w (Some (text_of (roster_tree (roster_of script))))
  pub whole : AreWholeFilesOf w (written_logs machines)
  pub all : AreAllFilesOf w (written_logs machines)
