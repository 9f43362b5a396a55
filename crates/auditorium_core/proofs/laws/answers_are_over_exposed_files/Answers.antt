use Rattle.auditorium_core.proofs.laws.answers_are_over_exposed_files.Goals as goal
use Rattle.auditorium_core.proofs.{Exposed.done_over_exposed, Imports.IsAny, Imports.IsStill}

pub returns : goal.returns
returns g c = record {
  any = done_over_exposed g.S.Store g.K.Sink IsAny;
  still = done_over_exposed g.S.Store g.K.Sink IsStill;
}
