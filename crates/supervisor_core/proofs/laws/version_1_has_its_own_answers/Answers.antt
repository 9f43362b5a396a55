use Rattle.supervisor_core.proofs.laws.version_1_has_its_own_answers.Goals as goal
use Rattle.deed_history.proofs.VersionOne.{first_alike, never_told}
use Rattle.supervisor_core.proofs.OfVersion1.{no_nothing_committed, no_other_override, rows_alike}
use Rattle.supervisor_core.specs.{Table.causes_of, VersionOne.causes_in_version_1}
use Rattle.supervisor_core.specs.declared.state.SupervisorNot.TheVariants.{NothingCommitted, OtherOverride}

pub returns-clause-same : goal.returns-clause-same
returns-clause-same c = λ owner entries deed answer all one.
    first_alike (causes_of owner entries deed) (causes_in_version_1 owner entries deed) answer
    (rows_alike owner entries deed all one)

pub returns-clause-no_other_override : goal.returns-clause-no_other_override
returns-clause-no_other_override c = λ owner entries deed all one told.
    never_told (causes_in_version_1 owner entries deed) OtherOverride (no_other_override owner entries deed)
    ((first_alike (causes_of owner entries deed) (causes_in_version_1 owner entries deed) _
    (rows_alike owner entries deed all one)).0 told)

pub returns-clause-no_nothing_committed : goal.returns-clause-no_nothing_committed
returns-clause-no_nothing_committed c = λ owner entries deed all one told.
    never_told (causes_in_version_1 owner entries deed) NothingCommitted (no_nothing_committed owner entries deed)
    ((first_alike (causes_of owner entries deed) (causes_in_version_1 owner entries deed) _
    (rows_alike owner entries deed all one)).0 told)
