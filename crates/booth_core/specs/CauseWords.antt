-- The words of causes in lines of output.
use Rattle.std.specs.Prelude.{ℕ, List, codes}
use Rattle.booth_core.specs.declared.state.BoothNot.{BoothNot}
use Rattle.booth_core.specs.declared.state.BoothNot.TheVariants.{NotAuthorised, Overridden, Closed, NotActive}
use Rattle.booth_core.specs.declared.state.BoothNot.TheVariants.{AlreadyActive, NotCommitted, AlreadyCommitted, Ended}
use Rattle.booth_core.specs.declared.state.BoothNot.TheVariants.{LogNotWhole}
use Rattle.booth_core.specs.declared.state.BoothNot.TheVariants.{CastForced}

-- the word of a cause against a booth's deed
abbrev pub booth_not_word : BoothNot → List ℕ
booth_not_word NotAuthorised = codes "NotAuthorised"
booth_not_word Overridden = codes "Overridden"
booth_not_word Closed = codes "Closed"
booth_not_word NotActive = codes "NotActive"
booth_not_word AlreadyActive = codes "AlreadyActive"
booth_not_word NotCommitted = codes "NotCommitted"
booth_not_word AlreadyCommitted = codes "AlreadyCommitted"
booth_not_word Ended = codes "Ended"
booth_not_word LogNotWhole = codes "LogNotWhole"
booth_not_word CastForced = codes "CastForced"
