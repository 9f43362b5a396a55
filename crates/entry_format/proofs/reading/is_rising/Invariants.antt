use Rattle.entry_format.proofs.Ascending.{RisesTo}
use Rattle.entry_format.proofs.reading.is_rising.Given as goal

-- each digest so far is above the one before it
abbrev pub invariant-loop-i : goal.invariant-loop-i
invariant-loop-i l = RisesTo l.i l.digests
