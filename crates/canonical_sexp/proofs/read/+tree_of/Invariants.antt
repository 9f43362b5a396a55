use Rattle.canonical_sexp.proofs.read.+tree_of.Given as goal
use Rattle.canonical_sexp.proofs.{Growing.weight, Imports.Branch, Imports.count_of, Imports.joined, Imports.◌≡◌}

abbrev pub decreases-tree_of : goal.decreases-tree_of
decreases-tree_of l = weight l.text.now

-- the members so far and those that are left
abbrev pub invariant-loop-member : goal.invariant-loop-member
invariant-loop-member l = l.fn.text ≡ Branch (joined l.members l.rest)

abbrev pub decreases-loop-member : goal.decreases-loop-member
decreases-loop-member l = count_of l.rest
