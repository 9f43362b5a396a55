use Rattle.live_auditor.proofs.Imports.{Contains-get_or, get_or}
use Rattle.live_auditor.proofs.survivors.GrownArrows.parents.Goals as goal

pub returns-clause-below : goal.returns-clause-below
returns-clause-below c k d within =
    let found = c.parents.result.now in
    c.link.ensures.falls c.args.node (get_or found k d)
    (rw (c.link.ensures.value, ← c.parents.ensures) (Contains-get_or found k d within))
