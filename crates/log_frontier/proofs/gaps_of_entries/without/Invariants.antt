use Rattle.log_frontier.proofs.Imports.{IsWithout, take}
use Rattle.log_frontier.proofs.gaps_of_entries.without.Given as goal

-- what is found is the digests so far without those that an entry has
abbrev pub invariant-loop-i : goal.invariant-loop-i
invariant-loop-i l = IsWithout (take l.i l.named) l.borne l.found.items
