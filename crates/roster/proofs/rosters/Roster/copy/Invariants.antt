use Rattle.roster.proofs.Imports.{◌≡◌, take}
use Rattle.roster.proofs.rosters.Roster.copy.Given as goal

-- copies of the machines so far
abbrev pub invariant-loop-post : goal.invariant-loop-post
invariant-loop-post l = l.machines.items ≡ take l.post-index l.self.machines
