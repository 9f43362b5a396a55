-- How many events a world has, and how many more its machines can have.
use Rattle.std.specs.Prelude.{ℕ, ◌+◌, ◌-◌, List, [], ◌∷◌, length}
use Rattle.entry_order.specs.World.{World}
use Rattle.polling_world.specs.Machines.{MachineState}

-- how many events the world has
abbrev pub total : {T : Type 0} → World T → ℕ
total [] = 0
total (a ∷ w) = length a.history + total w

-- how many more it can have, if each machine has at most log
abbrev pub room : {T : Type 0} → ℕ → World T → ℕ
room log [] = 0
room log (a ∷ w) = (log - length a.history) + room log w

-- how many more the machines' logs have room for
abbrev pub spare : List MachineState → ℕ
spare [] = 0
spare (m ∷ machines) = (m.config.log - length m.events) + spare machines
