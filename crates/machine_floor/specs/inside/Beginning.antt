-- A station before anything happened.
use Rattle.std.specs.Prelude.{◌≡◌, ℕ, ◌<◌, ◌≤◌, false, List, [], length, All, Option}
use Rattle.roster.specs.Machines.{max_machines}
use Rattle.entry_format.specs.SealedEntry.{SealedEntry}
use Rattle.election_script.specs.declared.script.Script.{Script}
use Rattle.election_script.specs.Lawful.{max_events}
use Rattle.broadcast_queues.specs.Ends.{OutView, InView}
use Rattle.polling_world.specs.Machines.{MachineState, IsFresh}
use Rattle.finished_floor.specs.Places.{IsStopOf}
use Rattle.machine_floor.specs.Stations.{StationState}
use Rattle.machine_floor.specs.Fresh.{lose_lines_of}

-- the station of a machine, with these ends of its links
abbrev pub begun : Script → MachineState → List (OutView SealedEntry) → List (InView SealedEntry) → StationState
begun script machine outs inns = record {
  machine = machine;
  link = script.link;
  loses = lose_lines_of machine.config.number script.loses;
  outs = outs;
  inns = inns;
  losses = [];
  ticks = [];
}

-- what makes it one: nothing happened, and there is an end to and from each machine
pub record IsBeginning (script : Script) (machine : MachineState) (outs : List (OutView SealedEntry))
    (inns : List (InView SealedEntry)) : Type 0 where
  pub log : machine.config.log ≡ script.log
  pub small : script.log ≤ max_events
  pub events : machine.events ≡ []
  pub going : machine.marked ≡ false
  pub place : machine.config.number < length outs
  pub few : length outs ≤ max_machines
  pub as_many : length inns ≡ length outs
  pub put : All (λ out. out.put ≡ []) outs
  pub taken : All (λ inn. inn.taken ≡ []) inns

-- with these ends the script's machine at this place can begin
abbrev pub MayBegin : Script → ℕ → List (OutView SealedEntry) → List (InView SealedEntry) → Type 0
MayBegin script at outs inns = (stop : Option ℕ) (m : MachineState) → IsStopOf script.stops at stop →
    IsFresh script at stop m → IsBeginning script m outs inns

-- the station is that machine's, and nothing happened yet
pub record HasBegun (script : Script) (at : ℕ) (outs : List (OutView SealedEntry)) (inns : List (InView SealedEntry))
    (s : StationState) : Type 0 where
  pub stop : Option ℕ
  pub machine : MachineState
  pub stops : IsStopOf script.stops at stop
  pub fresh : IsFresh script at stop machine
  pub is : s ≡ begun script machine outs inns
