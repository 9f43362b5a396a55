use Rattle.entry_format.proofs.Imports.{All, Atom, Branch, count_of, forest_of, IsDigest, joined, map, ◌≡◌}
use Rattle.entry_format.proofs.reading.names_of.Given as goal

-- the digests of the members so far, and the members that are left
abbrev pub invariant-loop-member : goal.invariant-loop-member
invariant-loop-member l = record {
  digests : All IsDigest l.digests.items;
  members : l.tree ≡ Branch (joined (forest_of (map Atom l.digests.items)) l.members);
}

abbrev pub decreases-loop-member : goal.decreases-loop-member
decreases-loop-member l = count_of l.members
