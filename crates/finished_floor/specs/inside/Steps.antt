-- What each step of a sweep keeps.
use Rattle.std.specs.Prelude.{◌≡◌, ◌≢◌, ◌⊎◌, ℕ, ◌+◌, ◌-◌, ◌<◌, ◌≤◌, ◌==◌, ◌&&◌, nat_le, cond, Bool, true, false}
use Rattle.std.specs.Prelude.{List, [], ◌∷◌, ◌++◌, length, All, Some, slice_get}
use Rattle.std.specs.List.{Contains}
use Rattle.entry_format.specs.Nodes.{node_of_sealed}
use Rattle.entry_format.specs.SealedEntry.{SealedEntry}
use Rattle.entry_order.specs.History.{sent}
use Rattle.entry_order.specs.World.{history}
use Rattle.election_script.specs.declared.script.Lose.{Lose}
use Rattle.finished_floor.specs.declared.handing.SweptFloor.{SweptFloor}
use Rattle.finished_floor.specs.declared.loss.Loss.{Loss}
use Rattle.finished_floor.specs.declared.loss.LossWhy.TheVariants.{Scripted}
use Rattle.finished_floor.specs.Balance.{IsBalanced}
use Rattle.finished_floor.specs.Arrivals.{AreOnce}
use Rattle.polling_world.specs.declared.acted.Acted.{Acted}
use Rattle.polling_world.specs.Acting.{IsActed}
use Rattle.polling_world.specs.Machines.{MachineState}
use Rattle.polling_world.specs.Worlds.{world_of}
use Rattle.finished_floor.specs.Placed.{ArePlaced, AreMadeByThese, AreOfSent, HaveGrown, count_sent}
use Rattle.finished_floor.specs.Scripted.{is_scripted}
use Rattle.finished_floor.specs.Done.{did}
use Rattle.finished_floor.specs.Swept.{IsLicensed}
use Rattle.finished_floor.specs.inside.Fates.{AreNumbered}
use Rattle.roster.specs.Machines.{max_machines}

-- what waits on each way
abbrev pub Waits : Type 0
Waits = ℕ → ℕ → List SealedEntry

-- nothing waits
abbrev pub no_waits : Waits
no_waits from to = []

-- the entry of machine `from` waits for each machine from `below` on
abbrev pub waits_from : ℕ → SealedEntry → ℕ → Waits
waits_from maker e below from to = cond ((from == maker) && nat_le below to) (e ∷ []) []

-- an entry of `from` with this number waits for `to`
abbrev pub IsWaiting : Waits → ℕ → ℕ → ℕ → Type 0
IsWaiting waits from number to = (e : SealedEntry) × Contains (waits from to) e × (e.entry.number ≡ number)

-- The machines have grown and are in their places, what they got is of their making, each entry is
-- heard, lost or waiting, what is lost since `before` has its cause, no entry is lost twice on one
-- way, and each entry sent since
-- `old` that a line of the script names is lost so, or still waits.
pub record IsSwept (loses : List Lose) (old : List MachineState) (before : List Loss) (waits : Waits)
    (new : List MachineState) (after : List Loss) : Type 0 where
  pub grown : HaveGrown old new
  pub placed : ArePlaced new
  pub makers : AreMadeByThese old → AreMadeByThese new
  pub balanced : IsBalanced node_of_sealed (length new) (history (world_of new)) after waits
  pub lost : List Loss
  pub losses : after ≡ before ++ lost
  pub licensed : All (IsLicensed loses new) lost
  pub once : AreOnce after
  pub of_sent : AreOfSent new after
  pub scripted : (from number to : ℕ) → from < length new → to < length new → from ≢ to →
      count_sent old from ≤ number → number < count_sent new from → is_scripted loses from number to ≡ true →
      Contains after (record { from = from; number = number; to = to; why = Scripted })
      ⊎ IsWaiting waits from number to

-- the machine was to do its next action, and didn't
abbrev pub IsStill : MachineState → Type 0
IsStill m = (receivers : ℕ) × (answer : Acted) × IsActed m receivers answer m × (did answer ≡ false)

-- the machine at this place was to act and did nothing
abbrev pub IsStillAt : List MachineState → ℕ → Type 0
IsStillAt machines place = (m : MachineState) → slice_get machines place ≡ Some m → IsStill m

-- all machines below this place were to act and did nothing
abbrev pub AreStillBelow : ℕ → List MachineState → Type 0
AreStillBelow most machines = (place : ℕ) → place < most → IsStillAt machines place

-- how many actions are left, of all machines
abbrev pub actions_left : List MachineState → ℕ
actions_left [] = 0
actions_left (m ∷ machines) = (length m.config.actions - length (sent m.events)) + actions_left machines

-- there are at most 16 machines, and each has its place as its number
pub record IsNumbered (floor : SweptFloor) : Type 0 where
  pub few : length floor.machines.items ≤ max_machines
  pub numbers : AreNumbered floor.machines.items

-- Whenever the sweep began, it goes on from the old floor, where `waits` is what waits, to the new
-- one, where `later` is. The machines are as many as before, and the script's lines the same.
pub record SweepsOn (waits : Waits) (old : SweptFloor) (later : Waits) (new : SweptFloor) : Type 0 where
  pub numbered : IsNumbered new
  pub count : length new.machines.items ≡ length old.machines.items
  pub loses : new.loses.now ≡ old.loses.now
  pub swept : (first : List MachineState) (before : List Loss) →
      IsSwept old.loses.now first before waits old.machines.items old.losses.items →
      IsSwept new.loses.now first before later new.machines.items new.losses.items

-- Machines were to act, and the sweep goes on. If some did, fewer actions are left; if none did, all
-- are as they were, and `still` is so.
pub record IsTurn (still : Type 0) (old : SweptFloor) (some : Bool) (new : SweptFloor) : Type 0 where
  pub goes_on : SweepsOn no_waits old no_waits new
  pub acted : some ≡ true → actions_left new.machines.items < actions_left old.machines.items
  pub none : some ≡ false → still × (new.machines.items ≡ old.machines.items)
