use Rattle.roster.proofs.Imports.{◌≢◌, ℕ, ◌<◌, slice_index_or, Raw}
use Rattle.roster.proofs.reading.are_distinct.Given as goal

-- no two of the machines so far have one name
abbrev pub invariant-loop-i : goal.invariant-loop-i
invariant-loop-i l = (a b : ℕ) (d : Raw) → a < b → b < l.i →
    (slice_index_or l.raws a d).name.now ≢ (slice_index_or l.raws b d).name.now
