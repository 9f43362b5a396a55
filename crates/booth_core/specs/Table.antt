-- What a booth may do (VoteBox, USENIX Security 2008).
use Rattle.std.specs.Prelude.{ℕ, List, [], ◌∷◌, Result}
use Rattle.entry_format.specs.declared.deed.Deed.{Deed}
use Rattle.entry_format.specs.declared.deed.Deed.TheVariants.{Opened, Authorise, Override, Closed, Activate, Commit}
use Rattle.entry_format.specs.declared.deed.Deed.TheVariants.{Cast, Cancel, Challenge}
use Rattle.entry_format.specs.declared.deed.How.TheVariants as word
use Rattle.entry_format.specs.declared.entry.Entry.{Entry}
use Rattle.item_list.specs.Causes.{IsFirstOf}
use Rattle.booth_core.specs.declared.state.BoothNot.{BoothNot}
use Rattle.booth_core.specs.declared.state.BoothNot.TheVariants as cause
use Rattle.booth_core.specs.Causes.{IsAuthorised, IsOverridden, IsOverriddenTo, IsClosed, HasActivated}
use Rattle.booth_core.specs.Causes.{HasCommitted, HasCommittedTo, HasEndedOwn}

-- The causes against each deed, in the order in which they are tried; `IsWhole` says that the log
-- is whole. A supervisor's deed isn't asked (VoteBox, USENIX Security 2008).
abbrev pub causes_of : ℕ → List Entry → Type 0 → Deed → List (Type 0 × BoothNot)
causes_of owner entries IsWhole (Activate session) =
    (¬ IsAuthorised owner entries session, cause.NotAuthorised)
    ∷ (HasEndedOwn owner entries session, cause.Ended)
    ∷ (HasActivated owner entries session, cause.AlreadyActive)
    ∷ (IsOverridden entries session, cause.Overridden)
    ∷ (IsClosed entries, cause.Closed)
    ∷ []
causes_of owner entries IsWhole (Commit session ballot) =
    (¬ HasActivated owner entries session, cause.NotActive)
    ∷ (HasEndedOwn owner entries session, cause.Ended)
    ∷ (HasCommitted owner entries session, cause.AlreadyCommitted)
    ∷ (IsOverridden entries session, cause.Overridden)
    ∷ (IsClosed entries, cause.Closed)
    ∷ []
causes_of owner entries IsWhole (Cast session ballot) =
    (¬ HasCommittedTo owner entries session ballot, cause.NotCommitted)
    ∷ (HasEndedOwn owner entries session, cause.Ended)
    ∷ (IsOverriddenTo word.Cancel entries session, cause.Overridden)
    ∷ (IsClosed entries, cause.Closed)
    ∷ (¬ IsWhole, cause.LogNotWhole)
    ∷ []
causes_of owner entries IsWhole (Challenge session ballot) =
    (¬ HasCommittedTo owner entries session ballot, cause.NotCommitted)
    ∷ (HasEndedOwn owner entries session, cause.Ended)
    ∷ (IsOverridden entries session, cause.Overridden)
    ∷ (IsClosed entries, cause.Closed)
    ∷ (¬ IsWhole, cause.LogNotWhole)
    ∷ []
causes_of owner entries IsWhole (Cancel session) =
    (¬ IsAuthorised owner entries session, cause.NotAuthorised)
    ∷ (HasEndedOwn owner entries session, cause.Ended)
    ∷ (IsOverriddenTo word.Cast entries session, cause.CastForced)
    ∷ []
causes_of owner entries IsWhole Opened = []
causes_of owner entries IsWhole (Authorise booth session) = []
causes_of owner entries IsWhole (Override session how) = []
causes_of owner entries IsWhole Closed = []

-- the answer is the first cause that applies, or `Ok` where none does
abbrev pub Refuses : ℕ → List Entry → Type 0 → Deed → Result (Unit {0}) BoothNot → Type 0
Refuses owner entries IsWhole deed answer = IsFirstOf (causes_of owner entries IsWhole deed) answer
