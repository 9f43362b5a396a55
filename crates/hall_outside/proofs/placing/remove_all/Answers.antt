use Rattle.hall_outside.proofs.Imports.{kept_gone}
use Rattle.hall_outside.proofs.placing.remove_all.Goals as goal

pub returns-clause-gone : goal.returns-clause-gone
returns-clause-gone g c =
    rw c.close.ensures.same (kept_gone _ _ c.close.ensures.kept c.args.begun.now _ c.discard_all.ensures.gone)
