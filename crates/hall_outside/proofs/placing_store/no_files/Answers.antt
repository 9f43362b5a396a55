use Rattle.hall_outside.proofs.placing_store.no_files.Goals as goal
use Rattle.hall_outside.proofs.{Begins.none_ready, Imports.IfOk-weaker}

pub returns : goal.returns
returns g c = IfOk-weaker c.make.result _ _ (λ files is. none_ready files.begun.items _ is) c.make.ensures
