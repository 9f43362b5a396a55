-- What a booth may do where every entry is of version 1, which has no challenge, and in which an
-- Override always says Cancel.
use Rattle.std.specs.Prelude.{ℕ, List, [], ◌∷◌, Result}
use Rattle.entry_format.specs.declared.deed.Deed.{Deed}
use Rattle.entry_format.specs.declared.deed.Deed.TheVariants.{Opened, Authorise, Override, Closed, Activate, Commit}
use Rattle.entry_format.specs.declared.deed.Deed.TheVariants.{Cast, Cancel, Challenge}
use Rattle.entry_format.specs.declared.deed.How.TheVariants as word
use Rattle.entry_format.specs.declared.entry.Entry.{Entry}
use Rattle.deed_history.specs.Held.{HoldsOwn}
use Rattle.deed_history.specs.VersionOne.{EndsInVersion1}
use Rattle.item_list.specs.Causes.{IsFirstOf}
use Rattle.booth_core.specs.declared.state.BoothNot.{BoothNot}
use Rattle.booth_core.specs.declared.state.BoothNot.TheVariants as cause
use Rattle.booth_core.specs.Causes.{IsAuthorised, IsOverriddenTo, IsClosed, HasActivated}
use Rattle.booth_core.specs.Causes.{HasCommitted, HasCommittedTo}

-- an own Cast or Cancel of the session is held (VoteBox, USENIX Security 2008)
abbrev pub HasEndedInVersion1 : ℕ → List Entry → ℕ → Type 0
HasEndedInVersion1 owner entries session = HoldsOwn owner entries (EndsInVersion1 session)

-- an Override of the session is held
abbrev pub IsOverriddenInVersion1 : List Entry → ℕ → Type 0
IsOverriddenInVersion1 entries session = IsOverriddenTo word.Cancel entries session

-- the causes against each deed, in the order in which they are tried
abbrev pub causes_in_version_1 : ℕ → List Entry → Type 0 → Deed → List (Type 0 × BoothNot)
causes_in_version_1 owner entries IsWhole (Activate session) =
    (¬ IsAuthorised owner entries session, cause.NotAuthorised)
    ∷ (HasEndedInVersion1 owner entries session, cause.Ended)
    ∷ (HasActivated owner entries session, cause.AlreadyActive)
    ∷ (IsOverriddenInVersion1 entries session, cause.Overridden)
    ∷ (IsClosed entries, cause.Closed)
    ∷ []
causes_in_version_1 owner entries IsWhole (Commit session ballot) =
    (¬ HasActivated owner entries session, cause.NotActive)
    ∷ (HasEndedInVersion1 owner entries session, cause.Ended)
    ∷ (HasCommitted owner entries session, cause.AlreadyCommitted)
    ∷ (IsOverriddenInVersion1 entries session, cause.Overridden)
    ∷ (IsClosed entries, cause.Closed)
    ∷ []
causes_in_version_1 owner entries IsWhole (Cast session ballot) =
    (¬ HasCommittedTo owner entries session ballot, cause.NotCommitted)
    ∷ (HasEndedInVersion1 owner entries session, cause.Ended)
    ∷ (IsOverriddenInVersion1 entries session, cause.Overridden)
    ∷ (IsClosed entries, cause.Closed)
    ∷ (¬ IsWhole, cause.LogNotWhole)
    ∷ []
causes_in_version_1 owner entries IsWhole (Cancel session) =
    (¬ IsAuthorised owner entries session, cause.NotAuthorised)
    ∷ (HasEndedInVersion1 owner entries session, cause.Ended)
    ∷ []
causes_in_version_1 owner entries IsWhole (Challenge session ballot) = []
causes_in_version_1 owner entries IsWhole Opened = []
causes_in_version_1 owner entries IsWhole (Authorise booth session) = []
causes_in_version_1 owner entries IsWhole (Override session how) = []
causes_in_version_1 owner entries IsWhole Closed = []

-- the answer is the first cause that applies, or `Ok` where none does (VoteBox, USENIX Security
-- 2008)
abbrev pub RefusesInVersion1 : ℕ → List Entry → Type 0 → Deed → Result (Unit {0}) BoothNot → Type 0
RefusesInVersion1 owner entries IsWhole deed answer = IsFirstOf (causes_in_version_1 owner entries IsWhole deed) answer
