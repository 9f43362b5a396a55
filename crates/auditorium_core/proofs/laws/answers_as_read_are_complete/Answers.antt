use Rattle.auditorium_core.proofs.laws.answers_as_read_are_complete.Goals as goal
use Rattle.auditorium_core.proofs.{CitedLaws.CitedLaws, Completeness.complete_as_read, Imports.IsAny, Imports.IsStill}

pub returns : goal.returns
returns g c =
    let laws : CitedLaws = assumption in
    record {
      any = complete_as_read laws g.S.Store g.K.Sink IsAny;
      still = complete_as_read laws g.S.Store g.K.Sink IsStill;
    }
