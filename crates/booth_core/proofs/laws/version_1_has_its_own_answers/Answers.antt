use Rattle.booth_core.proofs.laws.version_1_has_its_own_answers.Goals as goal
use Rattle.booth_core.proofs.OfVersion1.{no_cast_forced, rows_alike}
use Rattle.booth_core.specs.{Table.causes_of, VersionOne.causes_in_version_1}
use Rattle.booth_core.specs.declared.state.BoothNot.TheVariants.{CastForced}
use Rattle.deed_history.proofs.VersionOne.{first_alike, never_told}
use Rattle.std.specs.Prelude.{IsTrue}

pub returns-clause-same : goal.returns-clause-same
returns-clause-same c = λ owner entries whole deed answer all one.
    first_alike (causes_of owner entries (IsTrue whole) deed) (causes_in_version_1 owner entries (IsTrue whole) deed)
    answer (rows_alike owner entries (IsTrue whole) deed all one)

pub returns-clause-no_cast_forced : goal.returns-clause-no_cast_forced
returns-clause-no_cast_forced c = λ owner entries whole deed all one told.
    never_told (causes_in_version_1 owner entries (IsTrue whole) deed) CastForced
    (no_cast_forced owner entries (IsTrue whole) deed)
    ((first_alike (causes_of owner entries (IsTrue whole) deed)
    (causes_in_version_1 owner entries (IsTrue whole) deed) _ (rows_alike owner entries (IsTrue whole) deed all one)).0
    told)
