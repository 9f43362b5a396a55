use Rattle.roster.proofs.reading.raws_of.Given as goal
use Rattle.roster.proofs.{Imports.map, Imports.members_of, Imports.post_of, Walk.IsWalked}

-- the machines of the members so far
abbrev pub invariant-loop-member : goal.invariant-loop-member
invariant-loop-member l = IsWalked l.text (map post_of l.raws.items) (members_of l.member-iterator)
