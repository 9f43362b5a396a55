use Rattle.entry_format.proofs.Imports.{All, Atom, Branch, count_of, forest_of, IsDigest, joined, List, map, ℕ, ◌≡◌}
use Rattle.entry_format.proofs.reading.are_names.Given as goal

-- the members so far are digests
abbrev pub invariant-loop-member : goal.invariant-loop-member
invariant-loop-member l =
    (digests : List (List ℕ)) × (All IsDigest digests
    × (l.tree ≡ Branch (joined (forest_of (map Atom digests)) l.members)))

abbrev pub decreases-loop-member : goal.decreases-loop-member
decreases-loop-member l = count_of l.members
