-- The stations of a script, before anything happened.
use Rattle.std.specs.Prelude.{◌≡◌, ℕ, ◌==◌, List, length, Option, Some, slice_get}
use Rattle.std.specs.List.{filter}
use Rattle.election_script.specs.declared.script.Lose.{Lose}
use Rattle.election_script.specs.declared.script.Script.{Script}
use Rattle.broadcast_queues.specs.Ends.{LinkView}
use Rattle.polling_world.specs.Machines.{IsFresh}
use Rattle.finished_floor.specs.Places.{IsStopOf}
use Rattle.machine_floor.specs.Stations.{StationState, IsOfLinks, made_of}

-- the lines on entries of this machine
abbrev pub lose_lines_of : ℕ → List Lose → List Lose
lose_lines_of own loses = filter (λ lose. lose.from == own) loses

-- The script's station at this place: its machine is the script's, with its stop line, before
-- anything happened; it has the machine's lines and the ends of these links; and nothing was put,
-- taken, lost or done.
pub record IsNewStation (script : Script) (links : List (List LinkView)) (at : ℕ) (s : StationState) : Type 0 where
  pub stop : Option ℕ
  pub stops : IsStopOf script.stops at stop
  pub machine : IsFresh script at stop s.machine
  pub link : s.link ≡ script.link
  pub loses : s.loses ≡ lose_lines_of at script.loses
  pub ends : IsOfLinks links s
  pub fresh : made_of s ≡ s

-- one station for each machine of the script, in its order, and a row of links for each
pub record AreNewStations (script : Script) (links : List (List LinkView)) (stations : List StationState) : Type 0 where
  pub count : length stations ≡ length script.machines
  pub rows : length links ≡ length stations
  pub each : (at : ℕ) (s : StationState) → slice_get stations at ≡ Some s → IsNewStation script links at s
