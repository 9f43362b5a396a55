use Rattle.finished_floor.proofs.Imports.{◌≡◌, IsNumbered, IsSwept, actions_left, no_waits}
use Rattle.finished_floor.proofs.sweeping.sweep.Given as goal

-- nothing waits, and a sweep keeps what it keeps
abbrev pub invariant-loop-floor : goal.invariant-loop-floor
invariant-loop-floor l = record {
  numbered : IsNumbered l.floor;
  loses : l.floor.loses.now ≡ l.loses;
  swept : IsSwept l.floor.loses.now l.fn.machines.items l.fn.losses.items no_waits l.floor.machines.items
      l.floor.losses.items;
}

-- a round in which a machine acts leaves fewer actions
abbrev pub decreases-loop-floor : goal.decreases-loop-floor
decreases-loop-floor l = actions_left l.floor.machines.items
