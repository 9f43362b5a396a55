use Rattle.canonical_sexp.proofs.Imports.{◌≡◌, ◌+◌, count_of}
use Rattle.canonical_sexp.proofs.in_place.Rest.len.Given as goal

-- those counted and those that are left
abbrev pub invariant-loop-rest : goal.invariant-loop-rest
invariant-loop-rest l = l.count + count_of l.rest ≡ count_of l.fn.self

abbrev pub decreases-loop-rest : goal.decreases-loop-rest
decreases-loop-rest l = count_of l.rest
