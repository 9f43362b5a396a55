use Rattle.log_commands.proofs.order.place_of_digest.Given as goal
use Rattle.log_commands.proofs.{EntryPlaces.NoneBefore, Imports.◌≡◌}

-- no entry so far has the digest
abbrev pub invariant-loop-at : goal.invariant-loop-at
invariant-loop-at l = NoneBefore (λ e. e.digest ≡ l.digest) l.graph.survivors l.at
