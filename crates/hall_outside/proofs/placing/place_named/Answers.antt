use Rattle.hall_outside.proofs.Begins.{none_ready}
use Rattle.hall_outside.proofs.placing.place_named.Goals as goal

pub returns-clause-ready : goal.returns-clause-ready
returns-clause-ready g c = none_ready c.clear.new.self.begun.items _ c.clear.ensures
