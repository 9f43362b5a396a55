-- What the supervisor may do where every entry is of version 1, which has no challenge, and in
-- which an Override always says Cancel.
use Rattle.std.specs.Prelude.{◌≡◌, ℕ, List, [], ◌∷◌, Result}
use Rattle.entry_format.specs.declared.deed.Deed.{Deed}
use Rattle.entry_format.specs.declared.deed.Deed.TheVariants.{Opened, Authorise, Override, Closed, Activate, Commit}
use Rattle.entry_format.specs.declared.deed.Deed.TheVariants.{Cast, Cancel, Challenge}
use Rattle.entry_format.specs.declared.entry.Entry.{Entry}
use Rattle.deed_history.specs.Held.{HoldsSome, HoldsOwn}
use Rattle.deed_history.specs.VersionOne.{EndsInVersion1}
use Rattle.item_list.specs.Causes.{IsFirstOf}
use Rattle.supervisor_core.specs.declared.state.SupervisorNot.{SupervisorNot}
use Rattle.supervisor_core.specs.declared.state.SupervisorNot.TheVariants as cause
use Rattle.supervisor_core.specs.Causes.{HasOpened, HasClosed, HasAuthorised}

-- a Cast or a Cancel of the session is held (VoteBox, USENIX Security 2008)
abbrev pub HasEndedInVersion1 : List Entry → ℕ → Type 0
HasEndedInVersion1 entries session = HoldsSome entries (EndsInVersion1 session)

-- an own Authorise of the booth and the session is held, and the session hasn't ended (VoteBox,
-- USENIX Security 2008)
abbrev pub IsRunningInVersion1 : ℕ → List Entry → ℕ → ℕ → Type 0
IsRunningInVersion1 owner entries booth session =
    HoldsOwn owner entries (λ deed. deed ≡ Authorise booth session) × (HasEndedInVersion1 entries session → ⊥)

-- an own Authorise of the booth is held whose session hasn't ended
abbrev pub IsBusyInVersion1 : ℕ → List Entry → ℕ → Type 0
IsBusyInVersion1 owner entries booth = (session : ℕ) × IsRunningInVersion1 owner entries booth session

-- an own Authorise is held whose session hasn't ended
abbrev pub HasSessionsLeftInVersion1 : ℕ → List Entry → Type 0
HasSessionsLeftInVersion1 owner entries = (booth : ℕ) × IsBusyInVersion1 owner entries booth

-- the causes against each deed, in the order in which they are tried
abbrev pub causes_in_version_1 : ℕ → List Entry → Deed → List (Type 0 × SupervisorNot)
causes_in_version_1 owner entries Opened = (HasOpened owner entries, cause.AlreadyOpened) ∷ []
causes_in_version_1 owner entries (Authorise booth session) =
    (¬ HasOpened owner entries, cause.NotOpened)
    ∷ (HasClosed owner entries, cause.Closed)
    ∷ (HasAuthorised owner entries session, cause.SessionUsed)
    ∷ (IsBusyInVersion1 owner entries booth, cause.BoothBusy)
    ∷ []
causes_in_version_1 owner entries (Override session how) =
    (¬ HasAuthorised owner entries session, cause.NoSession)
    ∷ (HasEndedInVersion1 entries session, cause.SessionEnded)
    ∷ []
causes_in_version_1 owner entries Closed =
    (¬ HasOpened owner entries, cause.NotOpened)
    ∷ (HasClosed owner entries, cause.Closed)
    ∷ (HasSessionsLeftInVersion1 owner entries, cause.SessionsLeft)
    ∷ []
causes_in_version_1 owner entries (Activate session) = []
causes_in_version_1 owner entries (Commit session ballot) = []
causes_in_version_1 owner entries (Cast session ballot) = []
causes_in_version_1 owner entries (Cancel session) = []
causes_in_version_1 owner entries (Challenge session ballot) = []

-- the answer is the first cause that applies, or `Ok` where none does (VoteBox, USENIX Security
-- 2008)
abbrev pub RefusesInVersion1 : ℕ → List Entry → Deed → Result (Unit {0}) SupervisorNot → Type 0
RefusesInVersion1 owner entries deed answer = IsFirstOf (causes_in_version_1 owner entries deed) answer
