-- Order is receipt: the path order of what was sent is what the machines held.
use Rattle.std.specs.Prelude.{◌↔◌, ℕ, ◌<◌, ◌≤◌, List, length, Option}
use Rattle.std.specs.List.{Contains}
use Rattle.entry_order.specs.declared.event.Event.{Event}
use Rattle.entry_order.specs.declared.event.Event.TheVariants.{Got}
use Rattle.entry_order.specs.declared.step.Step.{Step}
use Rattle.entry_order.specs.Node.{Node}
use Rattle.entry_order.specs.Naming.{Names, Distinct}
use Rattle.entry_order.specs.History.{held, IsLegal}
use Rattle.entry_order.specs.World.{World, start, history, sent_in, IsLegalNext, play}
use Rattle.entry_order.specs.HeldBefore.{WasSentAfter, HeldBefore}
use Rattle.entry_order.specs.Precedes.{Precedes}

-- each history is legal, and what was got was sent
pub record IsOrderly {T : Type 0} (node : T → Node) (w : World T) : Type 0 where
  pub legal : (m : ℕ) → IsLegal node m (history w m)
  pub heard : (m : ℕ) (e : T) → Contains (history w m) (Got e) → Contains (sent_in w) e

-- of the entries that were sent in w, one precedes another exactly when it was held before it
abbrev pub OrderIsReceiptIn : {T : Type 0} → (T → Node) → World T → Type 0
OrderIsReceiptIn {T} node w =
    (f e : T) → Contains (sent_in w) f → Contains (sent_in w) e →
    Precedes node (sent_in w) f e ↔ HeldBefore w f e

-- the order is that of receipt in every orderly world, where different entries have different
-- digests
abbrev pub OrderIsReceiptInOrderlyWorlds : {T : Type 0} → (T → Node) → Type 0
OrderIsReceiptInOrderlyWorlds {T} node =
    (w : World T) → IsOrderly node w → Distinct node (sent_in w) → OrderIsReceiptIn node w

-- the order is that of receipt after every list of steps of any number of machines, each log of any
-- size
abbrev pub OrderIsReceipt : {T : Type 0} → (T → Node) → Type 0
OrderIsReceipt {T} node =
    (next : ℕ → List (Event T) → Option T) (log machines : ℕ) (steps : List Step) →
    IsLegalNext node next →
    let w = play node next log (start machines) steps in
    Distinct node (sent_in w) → OrderIsReceiptIn node w

-- what an entry names, its maker held when it sent the entry (Auditorium, EVT 2007; Lamport 1978)
abbrev pub NamesWereHeld : {T : Type 0} → (T → Node) → Type 0
NamesWereHeld {T} node =
    (w : World T) → IsOrderly node w → Distinct node (sent_in w) →
    (past : List (Event T)) (e : T) → WasSentAfter w past e →
    (f : T) → Contains (sent_in w) f → Names node e f → Contains (held past) f

-- an entry that was held before another has a lower stamp
abbrev pub StampsRise : {T : Type 0} → (T → Node) → Type 0
StampsRise {T} node =
    (w : World T) → IsOrderly node w →
    (f e : T) → HeldBefore w f e → (node f).stamp < (node e).stamp

-- in an orderly world a stamp is at most how many entries were sent
abbrev pub StampsAreFew : {T : Type 0} → (T → Node) → Type 0
StampsAreFew {T} node = (w : World T) → IsOrderly node w → (e : T) → Contains (sent_in w) e →
    (node e).stamp ≤ length (sent_in w)
