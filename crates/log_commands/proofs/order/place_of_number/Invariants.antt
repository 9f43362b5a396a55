use Rattle.log_commands.proofs.order.place_of_number.Given as goal
use Rattle.log_commands.proofs.{EntryPlaces.LeastBefore, Imports.IsNumbered}

-- the least digest so far
abbrev pub invariant-loop-at : goal.invariant-loop-at
invariant-loop-at l =
    LeastBefore (IsNumbered l.roster.machines l.machine l.number) l.graph.survivors l.at l.least
