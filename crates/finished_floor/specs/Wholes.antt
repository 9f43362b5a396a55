-- What may keep a machine from its next action once the run is whole.
use Rattle.std.specs.Prelude.{◌≡◌, ◌⊎◌, ◌^◌, length, Some, None, Err}
use Rattle.entry_format.specs.declared.deed.Deed.{Deed}
use Rattle.entry_format.specs.Nodes.{node_of_sealed}
use Rattle.entry_order.specs.History.{held, sent}
use Rattle.entry_order.specs.Naming.{IsBorneIn}
use Rattle.polling_world.specs.declared.left.LeftWhy.{LeftWhy}
use Rattle.polling_world.specs.Machines.{MachineState}
use Rattle.polling_world.specs.Making.{next_entry}
use Rattle.polling_world.specs.Rules.{Refuses}
use Rattle.polling_world.specs.Sending.{next_action}
use Rattle.polling_world.specs.Waiting.{IsStampSpent}

-- the rules of its role give a cause against its next action
abbrev pub IsNextRefused : MachineState → Type 0
IsNextRefused m =
    (deed : Deed) × (next_action m.config m.events ≡ Some deed)
    × ((why : LeftWhy) × Refuses m.config m.events deed (Err why))

-- the entry of its next action has a digest that it holds
abbrev pub IsHeldBefore : MachineState → Type 0
IsHeldBefore m =
    (deed : Deed) × (next_action m.config m.events ≡ Some deed)
    × IsBorneIn node_of_sealed (held m.events) (node_of_sealed (next_entry m.config m.events deed)).digest

-- Nothing more could be done of the machine's actions: none is left; it has as many events as it
-- stops at; its rules refuse the next; its log is full; it holds an entry with the greatest stamp;
-- each index of its key has signed; or it holds the digest of the entry that it would send.
abbrev pub IsWholeRun : MachineState → Type 0
IsWholeRun m =
    (next_action m.config m.events ≡ None)
    ⊎ (m.stop ≡ Some (length m.events))
    ⊎ IsNextRefused m
    ⊎ (length m.events ≡ m.config.log)
    ⊎ IsStampSpent m
    ⊎ (length (sent m.events) ≡ 2 ^ m.config.key.height)
    ⊎ IsHeldBefore m
