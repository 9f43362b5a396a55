-- What the files of a roster and of logs give.
use Rattle.std.specs.Prelude.{◌≡◌, ℕ, List, Option, Result, Ok}
use Rattle.log_files.specs.Logs.{LogRead}
use Rattle.evidence.specs.declared.roster_file.RosterRead.{RosterRead}
use Rattle.evidence.specs.Refusal.{Refusal}
use Rattle.evidence.specs.RosterFile.{GivesRoster}
use Rattle.evidence.specs.Logs.{GivesLogs}
use Rattle.auditor.specs.Audits.{AndThen, FileThen}
use Rattle.log_commands.specs.declared.order.PlaceRead.{PlaceRead}

-- the roster, and the logs that were read by it
abbrev pub place_of : PlaceRead → RosterRead × List LogRead
place_of place = (place.read, place.logs.items)

-- both, or the first refusal
abbrev pub GivesPlace : List ℕ → List (List ℕ) → List (Option (List ℕ)) →
    Result (RosterRead × List LogRead) Refusal → Type 0
GivesPlace roster logs =
    FileThen (GivesRoster roster) (λ read files.
    AndThen (GivesLogs read.roster.machines read.election logs files)
    (λ found answer. answer ≡ Ok (read, found)))
