-- What threads leave, and what a run comes to.
use Rattle.std.specs.Prelude.{◌≡◌, ℕ, List, ◌++◌, length, map, replicate, slice_get, All, Option, Some, None}
use Rattle.std.specs.List.{AllZip}
use Rattle.entry_format.specs.Nodes.{node_of_sealed}
use Rattle.entry_format.specs.SealedEntry.{SealedEntry}
use Rattle.entry_order.specs.declared.event.Event.{Event}
use Rattle.entry_order.specs.declared.event.Event.TheVariants.{Sent, Got}
use Rattle.entry_order.specs.Merged.{PlacedEvent, IsMergedOf, step_of}
use Rattle.entry_order.specs.Receipt.{IsOrderly}
use Rattle.entry_order.specs.World.{World, history}
use Rattle.roster.specs.declared.post.Post.{Post}
use Rattle.election_script.specs.declared.script.Script.{Script}
use Rattle.finished_floor.specs.declared.loss.Loss.{Loss}
use Rattle.finished_floor.specs.declared.loss.LossWhy.{LossWhy}
use Rattle.finished_floor.specs.declared.loss.LossWhy.TheVariants.{SameDigest}
use Rattle.finished_floor.specs.Balance.{IsBalanced}
use Rattle.finished_floor.specs.Arrivals.{AreOnce}
use Rattle.finished_floor.specs.declared.sweeping.Waiting.{Waiting}
use Rattle.finished_floor.specs.Placed.{AreMadeByThese}
use Rattle.finished_floor.specs.Swept.{HoldsSame}
use Rattle.finished_floor.specs.Waits.{AreOnWay, waits_of}
use Rattle.polling_world.specs.Keys.{roster_of}
use Rattle.polling_world.specs.Machines.{MachineState}
use Rattle.polling_world.specs.Playing.{ComesTo}
use Rattle.polling_world.specs.Worlds.{world_of}
use Rattle.finished_floor.specs.Places.{AreMachinesOf, IsAtEnd}
use Rattle.finished_floor.specs.Losses.{IsCauseOf, IsOnWay, AreLostAsScripted, AreLosses, LosesNothing}

-- which of a machine's workers does such an event: 0 the hand, which sends, and 1 the ear, which
-- hears
abbrev pub pass_of : Event SealedEntry → ℕ
pass_of (Sent e) = 0
pass_of (Got e) = 1

-- the workers that did these events
abbrev pub passes_of : List (Event SealedEntry) → List (Option ℕ)
passes_of events = map (λ x. Some (pass_of x)) events

-- first the events that workers did, and then those that none did
abbrev pub IsBy : List (Event SealedEntry) → List (Option ℕ) → Type 0
IsBy events by =
    (done : List (Event SealedEntry)) × (later : List (Event SealedEntry)) × (events ≡ done ++ later)
    × (by ≡ passes_of done ++ replicate (length later) None)

-- why an entry is lost, as it is known while others are still on their way: of what the receiver
-- holds it isn't known yet that it is another entry
abbrev pub IsCauseSoFar : Script → List MachineState → List Loss → Loss → LossWhy → Type 0
IsCauseSoFar script machines losses loss SameDigest =
    (m : MachineState) × (slice_get machines loss.to ≡ Some m) × HoldsSame machines loss.from loss.number m
IsCauseSoFar script machines losses loss why = IsCauseOf script machines losses loss why

-- What threads leave: the script's machines; what waits for them; what is lost, with causes; and
-- who did each event. Each entry that was sent is got, lost or waiting.
pub record AreGathered (script : Script) (posts : List Post) (states : List MachineState) (waits : List Waiting)
    (lost : List Loss) (rows : List (List (Option ℕ))) : Type 0 where
  pub roster : posts ≡ roster_of script
  pub machines : AreMachinesOf script states
  pub makers : AreMadeByThese states
  pub on_way : AreOnWay (length states) waits
  pub balanced : IsBalanced node_of_sealed (length states) (history (world_of states)) lost (waits_of waits)
  pub once : AreOnce lost
  pub only : All (IsOnWay states) lost
  pub causes : All (λ loss. IsCauseSoFar script states lost loss loss.why) lost
  pub scripted : AreLostAsScripted script states lost
  pub by : AllZip (λ m row. row ≡ passes_of m.events) states rows

-- playing the events of the machines in their merged order, on one thread, gives their histories
-- again (Lamport 1978)
abbrev pub ArePlayedAgain : Script → List MachineState → Type 0
ArePlayedAgain script machines =
    (xs : List (PlacedEvent SealedEntry)) → IsMergedOf node_of_sealed (world_of machines) xs →
    (w : World SealedEntry) → ComesTo script (map (λ x. step_of node_of_sealed x.machine x.event) xs) w →
    (m : ℕ) → history w m ≡ history (world_of machines) m

-- who did each machine's events
abbrev pub AreBy : List MachineState → List (List (Option ℕ)) → Type 0
AreBy states rows = AllZip (λ m row. IsBy m.events row) states rows

-- What a run comes to: the script's roster and machines, whose histories are orderly; what is lost,
-- with causes; and nothing that could be done was left.
pub record IsFloorOf (script : Script) (posts : List Post) (states : List MachineState) (lost : List Loss)
    : Type 0 where
  pub roster : posts ≡ roster_of script
  pub machines : AreMachinesOf script states
  pub orderly : IsOrderly node_of_sealed (world_of states)
  pub losses : AreLosses script states lost
  pub roomy : LosesNothing script states lost
  pub at_end : All IsAtEnd states
