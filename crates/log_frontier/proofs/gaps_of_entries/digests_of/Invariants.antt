use Rattle.log_frontier.proofs.Imports.{map, take, ◌≡◌}
use Rattle.log_frontier.proofs.gaps_of_entries.digests_of.Given as goal

-- the digests of the entries so far
abbrev pub invariant-loop-entry : goal.invariant-loop-entry
invariant-loop-entry g l =
    l.digests.items ≡ map (λ entry. (g.T.Knot.node entry).digest) (take l.entry-index l.entries)
