use Rattle.machine_floor.proofs.Imports.{◌≡◌, length, take, flat_map}
use Rattle.machine_floor.proofs.running.turns_of.Given as goal

-- the actions of the machines so far
abbrev pub invariant-loop-cast : goal.invariant-loop-cast
invariant-loop-cast l =
    l.actions ≡ length (flat_map (λ cast. cast.actions) (take l.cast-index l.script.machines))
