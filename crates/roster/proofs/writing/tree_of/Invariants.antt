use Rattle.roster.proofs.Imports.{◌≡◌, ◌∷◌, map, take, codes, Atom, members_of, post_tree}
use Rattle.roster.proofs.writing.tree_of.Given as goal

-- the trees of the machines so far follow the head
abbrev pub invariant-loop-post : goal.invariant-loop-post
invariant-loop-post l =
    members_of l.members ≡ Atom (codes "roster") ∷ Atom (codes "1") ∷ map post_tree (take l.post-index l.machines)
