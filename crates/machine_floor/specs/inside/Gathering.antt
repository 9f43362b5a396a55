-- What threads leave, as it is taken apart.
use Rattle.std.specs.Prelude.{◌≡◌, ◌≢◌, ℕ, ◌+◌, ◌<◌, ◌≤◌, List, [], ◌∷◌, ◌++◌, length, map, All, Option, Some}
use Rattle.std.specs.Prelude.{slice_index_or}
use Rattle.std.specs.List.{flat_map}
use Rattle.roster.specs.Machines.{max_machines}
use Rattle.entry_format.specs.SealedEntry.{SealedEntry}
use Rattle.broadcast_queues.specs.Ends.{OutView, InView, LinkView, IsOutOf, IsInOf}
use Rattle.log_lock.specs.declared.story.Tick.{Tick}
use Rattle.finished_floor.specs.declared.loss.Loss.{Loss}
use Rattle.floor_links.specs.Rows.{link_at}
use Rattle.finished_floor.specs.declared.sweeping.Waiting.{Waiting}
use Rattle.finished_floor.specs.Waits.{AreOnWay, waits_of}
use Rattle.polling_world.specs.Machines.{MachineState}
use Rattle.machine_floor.specs.Stations.{StationState, IsStation}

-- the passes that did the events of these ticks
abbrev pub by_of : List Tick → List (Option ℕ)
by_of ticks = map (λ tick. Some tick.pass) ticks

-- the stations' machines, their ends, all their losses, and who did their events
pub record AreParts (stations : List StationState) (machines : List MachineState)
    (outs : List (List (OutView SealedEntry))) (inns : List (List (InView SealedEntry))) (losses : List Loss)
    (by : List (List (Option ℕ))) : Type 0 where
  pub all : All IsStation stations
  pub machines_are : machines ≡ map (λ s. s.machine) stations
  pub outs_are : outs ≡ map (λ s. s.outs) stations
  pub inns_are : inns ≡ map (λ s. s.inns) stations
  pub losses_are : losses ≡ flat_map (λ s. s.losses) stations
  pub by_are : by ≡ map (λ s. by_of s.ticks) stations

-- an entry that waits for a machine
abbrev pub waiting : ℕ → SealedEntry → Waiting
waiting to e = record { to = to; entry = e }

-- the end that puts of the link from one machine to another, in rows by sender; or d where there is
-- none
abbrev pub out_at : List (List (OutView SealedEntry)) → ℕ → ℕ → OutView SealedEntry → OutView SealedEntry
out_at outs from to d = slice_index_or (slice_index_or outs from []) to d

-- the end that takes of the link from one machine to another, in rows by receiver; or d where there
-- is none
abbrev pub in_at : List (List (InView SealedEntry)) → ℕ → ℕ → InView SealedEntry → InView SealedEntry
in_at inns from to d = slice_index_or (slice_index_or inns to []) from d

-- the entries are the machine's
abbrev pub AreMadeBy : ℕ → List SealedEntry → Type 0
AreMadeBy from es = All (λ x. x.entry.maker ≡ from) es

-- all ends of these links, and what was put is the sender's
pub record AreEndsOf (links : List (List LinkView)) (outs : List (List (OutView SealedEntry)))
    (inns : List (List (InView SealedEntry))) : Type 0 where
  pub few : length links ≤ max_machines
  pub senders : length outs ≡ length links
  pub receivers : length inns ≡ length links
  pub row : (a : ℕ) → a < length links → length (slice_index_or links a []) ≡ length links
  pub outs_row : (a : ℕ) → a < length links → length (slice_index_or outs a []) ≡ length links
  pub inns_row : (b : ℕ) → b < length links → length (slice_index_or inns b []) ≡ length links
  pub puts : (a b : ℕ) (l : LinkView) (d : OutView SealedEntry) → a < length links → b < length links →
      IsOutOf (link_at links a b l) (out_at outs a b d)
  pub takes : (a b : ℕ) (l : LinkView) (e : InView SealedEntry) → a < length links → b < length links →
      IsInOf (link_at links a b l) (in_at inns a b e)
  pub makers : (a b : ℕ) (d : OutView SealedEntry) → a < length links → b < length links → a ≢ b →
      AreMadeBy a (out_at outs a b d).put

-- what was put and not taken between two different machines waits
pub record AreRests (count : ℕ) (outs : List (List (OutView SealedEntry))) (inns : List (List (InView SealedEntry)))
    (waits : List Waiting) : Type 0 where
  pub on_way : AreOnWay count waits
  pub rest : (a b : ℕ) (d : OutView SealedEntry) (e : InView SealedEntry) → a < count → b < count → a ≢ b →
      (out_at outs a b d).put ≡ (in_at inns a b e).taken ++ waits_of waits a b

-- what was put and not taken is added to what waits on a way
pub record IsAdded (from to : ℕ) (put taken : List SealedEntry) (before after : List Waiting) : Type 0 where
  pub rest : List SealedEntry
  pub in_order : put ≡ taken ++ rest
  pub waits : waits_of after from to ≡ waits_of before from to ++ rest

-- what nobody took waits where the machines are two, and no other way is changed
pub record IsRest (from to : ℕ) (put taken : List SealedEntry) (before after : List Waiting) : Type 0 where
  pub rest : from ≢ to → IsAdded from to put taken before after
  pub others : (a b : ℕ) → (a ≡ from → b ≡ to → ⊥) → waits_of after a b ≡ waits_of before a b
  pub on_way : (count : ℕ) → from < count → to < count → AreOnWay count before → AreOnWay count after

-- the last of one of the lists was taken
pub record ArePopped (at : ℕ) (inn : InView SealedEntry) (old new : List (List (InView SealedEntry))) : Type 0 where
  pub count : length new ≡ length old
  pub here : slice_index_or old at [] ≡ slice_index_or new at [] ++ inn ∷ []
  pub others : (b : ℕ) → b ≢ at → slice_index_or new b [] ≡ slice_index_or old b []

-- the links of one sender, whose ends that take are the last that are left of each receiver
pub record IsRowOfEnds (from : ℕ) (row : List LinkView) (outs : List (OutView SealedEntry))
    (inns : List (List (InView SealedEntry))) : Type 0 where
  pub place : from < length inns
  pub links_row : length row ≡ length inns
  pub outs_row : length outs ≡ length inns
  pub left : (b : ℕ) → b < length inns → length (slice_index_or inns b []) ≡ from + 1
  pub puts : (b : ℕ) (l : LinkView) (d : OutView SealedEntry) → b < length inns →
      IsOutOf (slice_index_or row b l) (slice_index_or outs b d)
  pub takes : (b : ℕ) (l : LinkView) (e : InView SealedEntry) → b < length inns →
      IsInOf (slice_index_or row b l) (in_at inns from b e)
  pub makers : (b : ℕ) (d : OutView SealedEntry) → b < length inns → from ≢ b →
      AreMadeBy from (slice_index_or outs b d).put

-- one sender's links are finished, and what nobody took of them waits
pub record IsRowFinished (from : ℕ) (outs : List (OutView SealedEntry)) (old new : List (List (InView SealedEntry)))
    (before after : List Waiting) : Type 0 where
  pub count : length new ≡ length old
  pub left : (b : ℕ) → b < length old → length (slice_index_or new b []) ≡ from
  pub same : (a b : ℕ) (e : InView SealedEntry) → a < from → b < length old → in_at new a b e ≡ in_at old a b e
  pub rest : (b : ℕ) (d : OutView SealedEntry) (e : InView SealedEntry) → b < length old → from ≢ b →
      IsAdded from b (slice_index_or outs b d).put (in_at old from b e).taken before after
  pub others : (a b : ℕ) → a ≢ from → waits_of after a b ≡ waits_of before a b
  pub on_way : AreOnWay (length old) before → AreOnWay (length old) after
