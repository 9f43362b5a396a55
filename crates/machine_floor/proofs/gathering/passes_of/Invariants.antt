use Rattle.machine_floor.proofs.Imports.{◌≡◌, ◌++◌, by_of, into_iter_items}
use Rattle.machine_floor.proofs.gathering.passes_of.Given as goal

-- the passes so far, and those of the other ticks
abbrev pub invariant-loop-tick : goal.invariant-loop-tick
invariant-loop-tick l = l.by.items ++ by_of (into_iter_items l.tick-iterator) ≡ by_of l.fn.ticks.items
