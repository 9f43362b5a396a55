-- When a machine may send an entry (VoteBox, USENIX Security 2008; Auditorium, EVT 2007).
use Rattle.std.specs.Prelude.{◌≡◌, ◌<◌, ◌^◌, List, ◌∷◌, ◌++◌, length, slice_get, Option, Some}
use Rattle.entry_format.specs.declared.deed.Deed.{Deed}
use Rattle.entry_format.specs.Nodes.{node_of_sealed}
use Rattle.entry_format.specs.SealedEntry.{SealedEntry}
use Rattle.entry_order.specs.declared.event.Event.{Event}
use Rattle.entry_order.specs.declared.event.Event.TheVariants.{Sent}
use Rattle.entry_order.specs.Naming.{IsNew}
use Rattle.entry_order.specs.History.{held, sent}
use Rattle.polling_world.specs.Configs.{Config}
use Rattle.polling_world.specs.Making.{next_entry}
use Rattle.polling_world.specs.Rules.{MayDo}

-- the action whose number is how many entries were sent, if there is one
abbrev pub next_action : Config → List (Event SealedEntry) → Option Deed
next_action config h = slice_get config.actions (length (sent h))

-- after this history the machine may send e: e is the entry of its next action, against which its
-- rules give no cause, the log has room, the key has an index left, and e's digest is new to the
-- log
pub record MaySend (config : Config) (h : List (Event SealedEntry)) (e : SealedEntry) : Type 0 where
  pub deed : Deed
  pub action : next_action config h ≡ Some deed
  pub allowed : MayDo config h deed
  pub room : length h < config.log
  pub unspent : length (sent h) < 2 ^ config.key.height
  pub made : e ≡ next_entry config h deed
  pub new : IsNew node_of_sealed (held h) e

-- the machine could send each entry of the history that it sent, when it did
abbrev pub AreMade : Config → List (Event SealedEntry) → Type 0
AreMade config h =
    (before : List (Event SealedEntry)) (e : SealedEntry) (later : List (Event SealedEntry)) →
    h ≡ before ++ Sent e ∷ later → MaySend config before e
