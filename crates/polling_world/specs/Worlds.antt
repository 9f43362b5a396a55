-- The machines of a polling place together, as the world that they are.
use Rattle.std.specs.Prelude.{◌≡◌, ℕ, ◌≤◌, List, length, map, All, Option, Some, None, slice_get}
use Rattle.std.specs.List.{Contains}
use Rattle.entry_format.specs.Nodes.{node_of_sealed}
use Rattle.entry_format.specs.SealedEntry.{SealedEntry}
use Rattle.entry_order.specs.declared.event.Event.{Event}
use Rattle.entry_order.specs.Receipt.{IsOrderly}
use Rattle.entry_order.specs.World.{Machine, World, sent_in}
use Rattle.roster.specs.declared.post.Post.{Post}
use Rattle.roster.specs.Machines.{max_machines}
use Rattle.election_script.specs.declared.script.Script.{Script}
use Rattle.election_script.specs.Lawful.{max_events}
use Rattle.polling_world.specs.Configs.{Config}
use Rattle.polling_world.specs.Machines.{MachineState, has_stopped, IsFresh}
use Rattle.polling_world.specs.Sending.{MaySend}

-- the roster, and the machines in its order
pub record WorldState : Type 0 where
  pub roster : List Post
  pub machines : List MachineState

-- a machine's history, and whether it has stopped
abbrev pub machine_of : MachineState → Machine SealedEntry
machine_of m = record { history = m.events; stopped = has_stopped m }

-- the world of machines: each one's history, and whether it has stopped
abbrev pub world_of : List MachineState → World SealedEntry
world_of machines = map machine_of machines

-- what the machines are made of
abbrev pub configs_of : List MachineState → List Config
configs_of machines = map (λ m. m.config) machines

-- where each stops
abbrev pub stops_of : List MachineState → List (Option ℕ)
stops_of machines = map (λ m. m.stop) machines

-- each log may have this many events
abbrev pub HaveLog : ℕ → List MachineState → Type 0
HaveLog log machines = All (λ m. m.config.log ≡ log) machines

-- the machine's number is its place, it has this roster and a log for this many events, and no stop
-- of its own
pub record IsPlaced (posts : List Post) (log place : ℕ) (m : MachineState) : Type 0 where
  pub number : m.config.number ≡ place
  pub of_world : m.config.roster ≡ posts
  pub of_size : m.config.log ≡ log
  pub no_stop : m.stop ≡ None
  pub within : length m.events ≤ log

-- What is true of every world: there are at most 16 machines, in their places, with one roster and
-- one size of log; each history is legal and what a machine heard was sent; and a stamp is at most
-- how many entries were sent in the world (Lamport 1978), so that none is ever the greatest that 32
-- bits hold.
pub record IsWorld (posts : List Post) (machines : List MachineState) : Type 0 where
  pub log : ℕ
  pub small : log ≤ max_events
  pub few : length machines ≤ max_machines
  pub placed : (place : ℕ) (m : MachineState) → slice_get machines place ≡ Some m → IsPlaced posts log place m
  pub orderly : IsOrderly node_of_sealed (world_of machines)
  pub stamps : (e : SealedEntry) → Contains (sent_in (world_of machines)) e →
      (node_of_sealed e).stamp ≤ length (sent_in (world_of machines))

-- the machines of the script in its order, before anything happened, none with a stop of its own
pub record AreFresh (script : Script) (machines : List MachineState) : Type 0 where
  pub count : length machines ≡ length script.machines
  pub each : (place : ℕ) (m : MachineState) → slice_get machines place ≡ Some m → IsFresh script place None m

-- this is what a machine sends after the history, if it may send anything
abbrev pub IsNextOf : Config → List (Event SealedEntry) → Option SealedEntry → Type 0
IsNextOf config h None = (e : SealedEntry) → ¬ MaySend config h e
IsNextOf config h (Some e) = MaySend config h e

-- this is what a machine, if it is there, sends after the history; a machine that is not there
-- sends nothing
abbrev pub IsNextAt : Option Config → List (Event SealedEntry) → Option SealedEntry → Type 0
IsNextAt None h entry = entry ≡ None
IsNextAt (Some config) h entry = IsNextOf config h entry

-- the function says what each of the machines sends after each history
abbrev pub TellsNext : List Config → (ℕ → List (Event SealedEntry) → Option SealedEntry) → Type 0
TellsNext configs next =
    (place : ℕ) (h : List (Event SealedEntry)) → IsNextAt (slice_get configs place) h (next place h)
