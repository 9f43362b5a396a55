-- Laws of mending and finishing, whatever the entries are and whatever each machine may send.
use Rattle.std.specs.Prelude.{◌≡◌, ℕ, ◌*◌, ◌<◌, ◌≤◌, false, List, ◌++◌, length, Option, Some, slice_get}
use Rattle.entry_order.specs.declared.event.Event.{Event}
use Rattle.entry_order.specs.declared.step.Step.{Step}
use Rattle.entry_order.specs.Node.{Node}
use Rattle.entry_order.specs.Receipt.{IsOrderly}
use Rattle.entry_order.specs.World.{Machine, World, happens, history, play, sent_in}
use Rattle.log_repair.specs.Mending.{Repairs, Finishes}
use Rattle.log_repair.specs.Outcomes.{IsMended}

-- from this world the way leads by one list of steps, to one world
abbrev pub LeadsOneWay : {W : Type 0} → (W → List Step → W → Type 0) → W → Type 0
LeadsOneWay {W} Way old =
    (steps : List Step) × (new : W) × Way old steps new
    × ((others : List Step) (end : W) → Way old others end → (others ≡ steps) × (end ≡ new))

-- a machine may send only where its log has room
abbrev pub SendsWithRoom : {T : Type 0} → (ℕ → List (Event T) → Option T) → ℕ → Type 0
SendsWithRoom {T} next log = (m : ℕ) (h : List (Event T)) (e : T) → next m h ≡ Some e → length h < log

module _ {T : Type 0} (node : T → Node) where
  -- every world is mended by one list of steps, and finished by one
  abbrev pub WorldsAreMendedInOneWay : Type 0
  WorldsAreMendedInOneWay =
      (next : ℕ → List (Event T) → Option T) (log : ℕ) (w : World T) →
      LeadsOneWay (Repairs node (happens node next log)) w
      × (SendsWithRoom next log → LeadsOneWay (Finishes node (happens node next log)) w)

  -- both are plays of the steps
  abbrev pub MendingIsAPlay : Type 0
  MendingIsAPlay =
      (next : ℕ → List (Event T) → Option T) (log : ℕ) (old new : World T) (steps : List Step) →
      (Repairs node (happens node next log) old steps new → new ≡ play node next log old steps)
      × (Finishes node (happens node next log) old steps new → new ≡ play node next log old steps)

  -- in an orderly world mending has at most as many steps as there are machines times sent entries
  abbrev pub MendingIsShort : Type 0
  MendingIsShort =
      (next : ℕ → List (Event T) → Option T) (log : ℕ) (old new : World T) (steps : List Step) → IsOrderly node old →
      Repairs node (happens node next log) old steps new → length steps ≤ length old * length (sent_in old)

  -- each machine of an orderly world that hasn't stopped is then mended
  abbrev pub RunningMachinesAreMended : Type 0
  RunningMachinesAreMended =
      (next : ℕ → List (Event T) → Option T) (log : ℕ) (old new : World T) (steps : List Step) → IsOrderly node new →
      ((m : ℕ) → length (history new m) ≤ log) → Repairs node (happens node next log) old steps new →
      (m : ℕ) (a : Machine T) → slice_get new m ≡ Some a → a.stopped ≡ false → IsMended node log new a

  -- steps only add to histories
  abbrev pub HistoriesOnlyGrow : Type 0
  HistoriesOnlyGrow =
      (next : ℕ → List (Event T) → Option T) (log : ℕ) (w : World T) (steps : List Step) (m : ℕ) →
      (more : List (Event T)) × (history (play node next log w steps) m ≡ history w m ++ more)
