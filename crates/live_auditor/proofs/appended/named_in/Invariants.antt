use Rattle.live_auditor.proofs.Imports.{FindsNames, HasOnePlaceEach, take}
use Rattle.live_auditor.proofs.appended.named_in.Given as goal

-- what is found of the names so far
abbrev pub invariant-loop-name : goal.invariant-loop-name
invariant-loop-name l =
    HasOnePlaceEach l.digests → FindsNames l.digests (take l.name-index l.names) l.parents.items l.missing.items
