use Rattle.auditorium_core.proofs.Imports.{run}
use Rattle.auditorium_core.proofs.program.run_of.Goals as goal

pub returns-in-None-clause-none : goal.returns-in-None-clause-none
returns-in-None-clause-none c = λ script prefix. c.in-None.ensures.none (run script prefix)
