-- What the supervisor may do (VoteBox, USENIX Security 2008).
use Rattle.std.specs.Prelude.{◌≡◌, ℕ, List, [], ◌∷◌, Result}
use Rattle.entry_format.specs.declared.deed.Deed.{Deed}
use Rattle.entry_format.specs.declared.deed.Deed.TheVariants.{Opened, Authorise, Override, Closed, Activate, Commit}
use Rattle.entry_format.specs.declared.deed.Deed.TheVariants.{Cast, Cancel, Challenge}
use Rattle.entry_format.specs.declared.deed.How.TheVariants as word
use Rattle.entry_format.specs.declared.entry.Entry.{Entry}
use Rattle.deed_history.specs.Held.{HasEnded}
use Rattle.item_list.specs.Causes.{IsFirstOf}
use Rattle.supervisor_core.specs.declared.state.SupervisorNot.{SupervisorNot}
use Rattle.supervisor_core.specs.declared.state.SupervisorNot.TheVariants as cause
use Rattle.supervisor_core.specs.Causes.{HasOpened, HasClosed, HasAuthorised, HasOverridden, other}
use Rattle.supervisor_core.specs.Causes.{IsCommitted, IsBusy, HasSessionsLeft}

-- The causes against each deed, in the order in which they are tried. A booth's deed isn't asked
-- (VoteBox, USENIX Security 2008).
abbrev pub causes_of : ℕ → List Entry → Deed → List (Type 0 × SupervisorNot)
causes_of owner entries Opened = (HasOpened owner entries, cause.AlreadyOpened) ∷ []
causes_of owner entries (Authorise booth session) =
    (¬ HasOpened owner entries, cause.NotOpened)
    ∷ (HasClosed owner entries, cause.Closed)
    ∷ (HasAuthorised owner entries session, cause.SessionUsed)
    ∷ (IsBusy owner entries booth, cause.BoothBusy)
    ∷ []
causes_of owner entries (Override session how) =
    (¬ HasAuthorised owner entries session, cause.NoSession)
    ∷ (HasEnded entries session, cause.SessionEnded)
    ∷ (HasOverridden owner entries session (other how), cause.OtherOverride)
    ∷ ((how ≡ word.Cast) × (¬ IsCommitted entries session), cause.NothingCommitted)
    ∷ []
causes_of owner entries Closed =
    (¬ HasOpened owner entries, cause.NotOpened)
    ∷ (HasClosed owner entries, cause.Closed)
    ∷ (HasSessionsLeft owner entries, cause.SessionsLeft)
    ∷ []
causes_of owner entries (Activate session) = []
causes_of owner entries (Commit session ballot) = []
causes_of owner entries (Cast session ballot) = []
causes_of owner entries (Cancel session) = []
causes_of owner entries (Challenge session ballot) = []

-- the answer is the first cause that applies, or `Ok` where none does
abbrev pub Refuses : ℕ → List Entry → Deed → Result (Unit {0}) SupervisorNot → Type 0
Refuses owner entries deed answer = IsFirstOf (causes_of owner entries deed) answer
