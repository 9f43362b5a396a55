use Rattle.roster.proofs.reading.count_machines.Given as goal
use Rattle.roster.proofs.{Imports.List, Imports.members_of, Imports.Post, Walk.IsWalked}

-- the members so far are machines
abbrev pub invariant-loop-member : goal.invariant-loop-member
invariant-loop-member l = (machines : List Post) × IsWalked l.text machines (members_of l.member-iterator)
