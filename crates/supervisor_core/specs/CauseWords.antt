-- The words of causes in lines of output.
use Rattle.std.specs.Prelude.{ℕ, List, codes}
use Rattle.supervisor_core.specs.declared.state.SupervisorNot.{SupervisorNot}
use Rattle.supervisor_core.specs.declared.state.SupervisorNot.TheVariants.{NotOpened, AlreadyOpened, Closed}
use Rattle.supervisor_core.specs.declared.state.SupervisorNot.TheVariants.{SessionUsed}
use Rattle.supervisor_core.specs.declared.state.SupervisorNot.TheVariants.{BoothBusy, NoSession, SessionEnded}
use Rattle.supervisor_core.specs.declared.state.SupervisorNot.TheVariants.{SessionsLeft}
use Rattle.supervisor_core.specs.declared.state.SupervisorNot.TheVariants.{OtherOverride, NothingCommitted}

-- the word of a cause against a deed of the supervisor
abbrev pub supervisor_not_word : SupervisorNot → List ℕ
supervisor_not_word NotOpened = codes "NotOpened"
supervisor_not_word AlreadyOpened = codes "AlreadyOpened"
supervisor_not_word Closed = codes "Closed"
supervisor_not_word SessionUsed = codes "SessionUsed"
supervisor_not_word BoothBusy = codes "BoothBusy"
supervisor_not_word NoSession = codes "NoSession"
supervisor_not_word SessionEnded = codes "SessionEnded"
supervisor_not_word SessionsLeft = codes "SessionsLeft"
supervisor_not_word OtherOverride = codes "OtherOverride"
supervisor_not_word NothingCommitted = codes "NothingCommitted"
