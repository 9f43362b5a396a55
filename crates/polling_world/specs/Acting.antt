-- What becomes of a machine that is to do its next action.
use Rattle.std.specs.Prelude.{◌≡◌, ℕ, IsTrue, List, length, replicate, Some, None}
use Rattle.entry_format.specs.declared.deed.Deed.{Deed}
use Rattle.entry_format.specs.Nodes.{node_of_sealed}
use Rattle.entry_format.specs.SealedEntry.{SealedEntry}
use Rattle.entry_order.specs.declared.event.Event.TheVariants.{Sent}
use Rattle.entry_order.specs.History.{held, sent}
use Rattle.entry_order.specs.Naming.{IsBorneIn}
use Rattle.polling_world.specs.declared.left.LeftWhy.{LeftWhy}
use Rattle.polling_world.specs.declared.left.LeftWhy.TheVariants as why
use Rattle.polling_world.specs.declared.acted.Acted.{Acted}
use Rattle.polling_world.specs.declared.acted.Acted.TheVariants.{Did, Stopped, NoMore, SupervisorNot, BoothNot, Full}
use Rattle.polling_world.specs.declared.acted.Acted.TheVariants.{StampSpent, Spent, SameDigest}
use Rattle.polling_world.specs.Machines.{MachineState, with_event, has_stopped}
use Rattle.polling_world.specs.Making.{next_entry}
use Rattle.polling_world.specs.Sending.{next_action, MaySend}
use Rattle.polling_world.specs.Waiting.{IsGoing, IsStampSpent, IsReady, IsWhy}

-- there is a next action, and this is the first cause against it
abbrev pub IsHindered : MachineState → LeftWhy → Type 0
IsHindered m why = (deed : Deed) × (next_action m.config m.events ≡ Some deed) × IsWhy m deed why

-- no earlier cause applies, and the entry of the next action has the digest of an entry that the
-- machine holds
pub record IsHeldAlready (m : MachineState) : Type 0 where
  pub deed : Deed
  pub action : next_action m.config m.events ≡ Some deed
  pub ready : IsReady m deed
  pub held : IsBorneIn node_of_sealed (held m.events) (node_of_sealed (next_entry m.config m.events deed)).digest

-- the next action is done: its entry, which the machine may send, is one event more, and there are
-- as many copies of it as receivers
pub record IsDone (old : MachineState) (receivers number : ℕ) (copies : List SealedEntry) (new : MachineState)
    : Type 0 where
  pub entry : SealedEntry
  pub may : MaySend old.config old.events entry
  pub going : IsGoing old
  pub stamp : ¬ IsStampSpent old
  pub counted : number ≡ length (sent old.events)
  pub copied : copies ≡ replicate receivers entry
  pub changed : new ≡ with_event (Sent entry) old

-- The first of the causes that applies is reported, and then the machine is as it was; where none
-- does the next action is done.
abbrev pub IsActed : MachineState → ℕ → Acted → MachineState → Type 0
IsActed old receivers (Did number copies) new = IsDone old receivers number copies.items new
IsActed old receivers Stopped new = IsTrue (has_stopped old) × (new ≡ old)
IsActed old receivers NoMore new = IsGoing old × (next_action old.config old.events ≡ None) × (new ≡ old)
IsActed old receivers (SupervisorNot cause) new = IsHindered old (why.SupervisorNot cause) × (new ≡ old)
IsActed old receivers (BoothNot cause) new = IsHindered old (why.BoothNot cause) × (new ≡ old)
IsActed old receivers Full new = IsHindered old why.Full × (new ≡ old)
IsActed old receivers StampSpent new = IsHindered old why.StampSpent × (new ≡ old)
IsActed old receivers Spent new = IsHindered old why.Spent × (new ≡ old)
IsActed old receivers SameDigest new = IsHeldAlready old × (new ≡ old)
