-- A station: a machine with the ends of its links.
use Rattle.std.specs.Prelude.{◌≡◌, ◌≢◌, ℕ, ◌+◌, ◌*◌, ◌<◌, ◌≤◌, nat_lt, true, false, List, [], ◌∷◌, length, map}
use Rattle.std.specs.Prelude.{All, ◌⊎◌, Some, slice_index_or}
use Rattle.std.specs.List.{Contains, filter, sum_by}
use Rattle.roster.specs.Machines.{max_machines}
use Rattle.entry_format.specs.Nodes.{node_of_sealed}
use Rattle.entry_format.specs.SealedEntry.{SealedEntry}
use Rattle.entry_order.specs.declared.event.Event.{Event}
use Rattle.entry_order.specs.declared.event.Event.TheVariants.{Got}
use Rattle.entry_order.specs.History.{held, sent}
use Rattle.entry_order.specs.Naming.{IsBorneIn}
use Rattle.election_script.specs.declared.script.Lose.{Lose}
use Rattle.election_script.specs.Lawful.{max_actions, max_events}
use Rattle.log_lock.specs.declared.story.Tick.{Tick}
use Rattle.broadcast_queues.specs.Ends.{OutView, InView, LinkView, IsOutOf, IsInOf}
use Rattle.finished_floor.specs.declared.loss.Loss.{Loss}
use Rattle.finished_floor.specs.declared.loss.LossWhy.{LossWhy}
use Rattle.finished_floor.specs.declared.loss.LossWhy.TheVariants.{Scripted, LinkFull, ToStopped, LogFull, SameDigest}
use Rattle.finished_floor.specs.Arrivals.{arriving, got_from, AreOnce}
use Rattle.floor_links.specs.Rows.{link_at}
use Rattle.finished_floor.specs.Scripted.{is_scripted}
use Rattle.finished_floor.specs.Floors.{pass_of}
use Rattle.polling_world.specs.Machines.{MachineState, IsMachine}

-- the machine, how many entries a link may hold, the script's lines on losses, the ends of the
-- links to and from each machine, what is lost, and which of the two passes did each event
pub record StationState : Type 0 where
  pub machine : MachineState
  pub link : ℕ
  pub loses : List Lose
  pub outs : List (OutView SealedEntry)
  pub inns : List (InView SealedEntry)
  pub losses : List Loss
  pub ticks : List Tick

-- an end before anything was put or taken
abbrev pub new_out : OutView SealedEntry → OutView SealedEntry
new_out end = record end { put = []; seen_taken = 0; fulls = 0 }

-- an end that takes before anything was put or taken
abbrev pub new_in : InView SealedEntry → InView SealedEntry
new_in end = record end { taken = []; seen_put = 0; bares = 0 }

-- the station as it was made, which no turn changes: its machine's configuration and stop, the
-- script's lines, and whose links the ends are
abbrev pub made_of : StationState → StationState
made_of s = record {
  machine = record s.machine { events = [] };
  link = s.link;
  loses = s.loses;
  outs = map new_out s.outs;
  inns = map new_in s.inns;
  losses = [];
  ticks = [];
}

-- one tick for each event, in order, of the pass that did it, with the event's place, the first of
-- which is given
abbrev pub ticks_from : ℕ → List (Event SealedEntry) → List Tick
ticks_from place [] = []
ticks_from place (x ∷ h) = record { pass = pass_of x; what = place } ∷ ticks_from (place + 1) h

-- the ends of the station are those of these links
pub record IsOfLinks (links : List (List LinkView)) (s : StationState) : Type 0 where
  pub square : (from : ℕ) → from < length s.outs → length (slice_index_or links from []) ≡ length s.outs
  pub rows : length links ≡ length s.outs
  pub from : (from to : ℕ) (l : LinkView) → from < length s.outs → to < length s.outs →
      (link_at links from to l).from ≡ from
  pub outs : (to : ℕ) (l : LinkView) (d : OutView SealedEntry) → to < length s.outs →
      IsOutOf (link_at links s.machine.config.number to l) (slice_index_or s.outs to d)
  pub capacity : (to : ℕ) (l : LinkView) → to < length s.outs → (link_at links s.machine.config.number to l).capacity
      ≡ s.link
  pub inns : (from : ℕ) (l : LinkView) (d : InView SealedEntry) → from < length s.inns →
      IsInOf (link_at links from s.machine.config.number l) (slice_index_or s.inns from d)

-- the entries of the list whose number is below this one
abbrev pub numbered_below : ℕ → List SealedEntry → List SealedEntry
numbered_below number es = filter (λ e. nat_lt e.entry.number number) es

-- Why an entry of a machine is lost on a link out: a line of the script names it; or none does, and
-- as many entries with lower numbers were put on the link as it holds at most.
abbrev pub IsOutCause : List Lose → ℕ → List (OutView SealedEntry) → Loss → LossWhy → Type 0
IsOutCause loses link outs loss Scripted = is_scripted loses loss.from loss.number loss.to ≡ true
IsOutCause loses link outs loss LinkFull =
    (is_scripted loses loss.from loss.number loss.to ≡ false)
    × ((d : OutView SealedEntry) → link ≤ length (numbered_below loss.number (slice_index_or outs loss.to d).put))
IsOutCause loses link outs loss ToStopped = ⊥
IsOutCause loses link outs loss LogFull = ⊥
IsOutCause loses link outs loss SameDigest = ⊥

-- why the machine doesn't hear an entry that it took: it has stopped where it is to stop; or it
-- hasn't, and has as many events as it can; or it holds another entry with the same digest
abbrev pub IsInCause : MachineState → SealedEntry → LossWhy → Type 0
IsInCause m x Scripted = ⊥
IsInCause m x LinkFull = ⊥
IsInCause m x ToStopped = m.stop ≡ Some (length m.events)
IsInCause m x LogFull = (m.stop ≢ Some (length m.events)) × (length m.events ≡ m.config.log)
IsInCause m x SameDigest = IsBorneIn node_of_sealed (held m.events) (node_of_sealed x).digest

-- the loss is of an entry that the machine sent, and has a cause
abbrev pub IsOfHand : StationState → Loss → Type 0
IsOfHand s loss =
    (loss.from ≡ s.machine.config.number) × (loss.number < length (sent s.machine.events))
    × (loss.to < length s.outs) × (loss.to ≢ s.machine.config.number) × IsOutCause s.loses s.link s.outs loss loss.why

-- the loss is of an entry that the machine took, and has a cause
abbrev pub IsOfEar : StationState → Loss → Type 0
IsOfEar s loss =
    (loss.to ≡ s.machine.config.number) × (loss.from < length s.outs) × (loss.from ≢ s.machine.config.number)
    × ((d : InView SealedEntry) → (x : SealedEntry) × Contains (slice_index_or s.inns loss.from d).taken x
    × (x.entry.number ≡ loss.number) × IsInCause s.machine x loss.why)

-- the entries are small in number, and the j-th has a number of at least j
pub record IsTakenWell (from : ℕ) (taken : List SealedEntry) : Type 0 where
  pub makers : All (λ x. x.entry.maker ≡ from) taken
  pub small : All (λ x. x.entry.number < max_actions) taken
  pub dense : (j : ℕ) (d : SealedEntry) → j < length taken → j ≤ (slice_index_or taken j d).entry.number

-- What is true of every station. Its machine is one; each link out has what was sent and isn't lost
-- on it, in order; what was got of each machine is what was taken of it and isn't lost, in order;
-- each loss is of an entry that was sent or taken, has its cause, and is reported once; and there
-- is one tick for each event, in order.
pub record IsStation (s : StationState) : Type 0 where
  pub machine : IsMachine s.machine
  pub going : s.machine.marked ≡ false
  pub small : s.machine.config.log ≤ max_events
  pub place : s.machine.config.number < length s.outs
  pub few : length s.outs ≤ max_machines
  pub as_many : length s.inns ≡ length s.outs
  -- each link out has what was sent and isn't lost on it, in order
  pub puts : (to : ℕ) (d : OutView SealedEntry) → to < length s.outs → to ≢ s.machine.config.number →
      (slice_index_or s.outs to d).put
      ≡ arriving node_of_sealed s.losses s.machine.config.number to (sent s.machine.events)
  -- what the machine got of each other is what it took and didn't lose, in order
  pub heard : (from : ℕ) (d : InView SealedEntry) → from < length s.inns → from ≢ s.machine.config.number →
      got_from node_of_sealed from s.machine.events
      ≡ arriving node_of_sealed s.losses from s.machine.config.number (slice_index_or s.inns from d).taken
  pub taken : (from : ℕ) (d : InView SealedEntry) → from < length s.inns →
      IsTakenWell from (slice_index_or s.inns from d).taken
  pub makers : (e : SealedEntry) → Contains s.machine.events (Got e) → e.entry.maker < length s.outs
  pub fits : All (λ loss. IsOfHand s loss ⊎ IsOfEar s loss) s.losses
  pub once : AreOnce s.losses
  -- each entry that a line of the script names is lost so
  pub scripted : (number to : ℕ) → number < length (sent s.machine.events) → to < length s.outs →
      to ≢ s.machine.config.number → is_scripted s.loses s.machine.config.number number to ≡ true →
      Contains s.losses (record { from = s.machine.config.number; number = number; to = to; why = Scripted })
  pub ticks : s.ticks ≡ ticks_from 0 s.machine.events
  pub few_losses : length s.losses ≤ 16 * length (sent s.machine.events) + sum_by (λ inn. length inn.taken) s.inns
