use Rattle.entry_format.proofs.Imports.{All, Atom, IsDigest, map, take, ◌≡◌}
use Rattle.canonical_sexp.specs.Sexp.{members_of}
use Rattle.entry_format.proofs.writing.tree_of_names.Given as goal

-- the trees of the digests so far
abbrev pub invariant-loop-name : goal.invariant-loop-name
invariant-loop-name l = record {
  trees : members_of l.members ≡ map Atom (take l.name-index l.names);
  digests : All IsDigest (take l.name-index l.names);
}
