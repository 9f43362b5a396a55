-- The steps of all machines' events in their merged order.
use Rattle.std.specs.Prelude.{◌≡◌, List, map}
use Rattle.entry_format.specs.Nodes.{node_of_sealed}
use Rattle.entry_format.specs.SealedEntry.{SealedEntry}
use Rattle.entry_order.specs.declared.step.Step.{Step}
use Rattle.entry_order.specs.Merged.{PlacedEvent, IsMergedOf, step_of}
use Rattle.polling_world.specs.Machines.{MachineState}
use Rattle.polling_world.specs.Worlds.{world_of}

-- the steps that make all events of the machines, in the order of the greatest stamp held after
-- each, then sent entries first before receipts, then machine, then place (Lamport 1978)
abbrev pub IsMerged : List MachineState → List Step → Type 0
IsMerged machines steps =
    (xs : List (PlacedEvent SealedEntry)) × IsMergedOf node_of_sealed (world_of machines) xs
    × (steps ≡ map (λ x. step_of node_of_sealed x.machine x.event) xs)
