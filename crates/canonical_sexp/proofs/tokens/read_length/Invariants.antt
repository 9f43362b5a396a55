use Rattle.canonical_sexp.proofs.tokens.read_length.Given as goal
use Rattle.canonical_sexp.proofs.{Atoms.AreDigitsTo, Imports.length, Imports.max_octets, Imports.◌-◌}

-- the digits so far are those of the value
abbrev pub invariant-loop-at : goal.invariant-loop-at
invariant-loop-at l = AreDigitsTo l.bytes l.at l.value max_octets

abbrev pub decreases-loop-at : goal.decreases-loop-at
decreases-loop-at l = length l.bytes - l.at
