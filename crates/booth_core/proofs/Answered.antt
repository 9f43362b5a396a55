-- Each deed has an answer after each history.
use Rattle.entry_format.specs.declared.deed.How.TheVariants as word
use Rattle.booth_core.specs.Causes.{HasActivated, HasCommitted, HasCommittedTo, HasEndedOwn, IsAuthorised, IsClosed}
use Rattle.booth_core.specs.Causes.{IsOverridden, IsOverriddenTo}
use Rattle.booth_core.specs.{Table.causes_of, Table.Refuses, declared.state.BoothNot.BoothNot}
use Rattle.deed_history.proofs.Deciding.{activates, activates_decides, AreDecided, authorises_booth}
use Rattle.deed_history.proofs.Deciding.{authorises_booth_decides, closed_decides, commits, commits_decides, commits_to}
use Rattle.deed_history.proofs.Deciding.{commits_to_decides, Decided, ends, ends_decides, first_decided, is_closed}
use Rattle.deed_history.proofs.Deciding.{not_is, overrides, overrides_by, overrides_by_decides, overrides_decides}
use Rattle.deed_history.proofs.Deciding.{own_is, some_is}
use Rattle.deed_history.specs.Deeds.{Commits, Ends, Overrides}
use Rattle.entry_format.specs.declared.deed.Deed.{Deed, TheVariants.Activate, TheVariants.Authorise}
use Rattle.entry_format.specs.declared.deed.Deed.TheVariants.{Cancel, Cast, Challenge, Closed, Commit, Override}
use Rattle.entry_format.specs.declared.{deed.How.How, entry.Entry.Entry}
use Rattle.std.proofs.Common.{Bool, List, ℕ, ◌≡◌}
use Rattle.std.specs.{Bool.Decides, Prelude.Result}

-- a test decides whether the session is authorised at this booth
authorised_is : (owner : ℕ) (entries : List Entry) (session : ℕ) → Decided (IsAuthorised owner entries session)
authorised_is owner entries session =
    some_is (authorises_booth owner session) (λ deed. deed ≡ Authorise owner session)
    (authorises_booth_decides owner session) entries

-- a test decides whether the session is overridden
overridden_is : (entries : List Entry) (session : ℕ) → Decided (IsOverridden entries session)
overridden_is entries session = some_is (overrides session) (Overrides session) (overrides_decides session) entries

-- a test decides whether an override of the session says this word
overridden_to_is : (how : How) (entries : List Entry) (session : ℕ) → Decided (IsOverriddenTo how entries session)
overridden_to_is how entries session =
    some_is (overrides_by session how) (λ deed. deed ≡ Override session how) (overrides_by_decides session how) entries

-- a test decides whether the polling place is closed
closed_is : (entries : List Entry) → Decided (IsClosed entries)
closed_is entries = some_is is_closed (λ deed. deed ≡ Closed) closed_decides entries

-- a test decides whether the booth has activated the session
activated_is : (owner : ℕ) (entries : List Entry) (session : ℕ) → Decided (HasActivated owner entries session)
activated_is owner entries session =
    own_is owner (activates session) (λ deed. deed ≡ Activate session) (activates_decides session) entries

-- a test decides whether the booth has committed in the session
committed_is : (owner : ℕ) (entries : List Entry) (session : ℕ) → Decided (HasCommitted owner entries session)
committed_is owner entries session =
    own_is owner (commits session) (Commits session) (commits_decides session) entries

-- a test decides whether it has committed to this ballot
committed_to_is : (owner : ℕ) (entries : List Entry) (session : ℕ) (ballot : List ℕ) →
    Decided (HasCommittedTo owner entries session ballot)
committed_to_is owner entries session ballot =
    own_is owner (commits_to session ballot) (λ deed. deed ≡ Commit session ballot)
    (commits_to_decides session ballot) entries

-- a test decides whether the booth has ended the session
ended_is : (owner : ℕ) (entries : List Entry) (session : ℕ) → Decided (HasEndedOwn owner entries session)
ended_is owner entries session = own_is owner (ends session) (Ends session) (ends_decides session) entries

-- each cause of a deed's row is decided, where it is whether the log is whole
are_decided : (owner : ℕ) (entries : List Entry) (IsWhole : Type 0) (deed : Deed) → Decided IsWhole →
    AreDecided (causes_of owner entries IsWhole deed)
are_decided owner entries IsWhole (Activate session) whole = (
  not_is (authorised_is owner entries session),
  (
    ended_is owner entries session,
    (activated_is owner entries session, (overridden_is entries session, (closed_is entries, tt))),
  ),
)
are_decided owner entries IsWhole (Commit session ballot) whole = (
  not_is (activated_is owner entries session),
  (
    ended_is owner entries session,
    (committed_is owner entries session, (overridden_is entries session, (closed_is entries, tt))),
  ),
)
are_decided owner entries IsWhole (Cast session ballot) whole = (
  not_is (committed_to_is owner entries session ballot),
  (
    ended_is owner entries session,
    (overridden_to_is word.Cancel entries session, (closed_is entries, (not_is whole, tt))),
  ),
)
are_decided owner entries IsWhole (Challenge session ballot) whole = (
  not_is (committed_to_is owner entries session ballot),
  (ended_is owner entries session, (overridden_is entries session, (closed_is entries, (not_is whole, tt)))),
)
are_decided owner entries IsWhole (Cancel session) whole = (
  not_is (authorised_is owner entries session),
  (ended_is owner entries session, (overridden_to_is word.Cast entries session, tt)),
)
are_decided owner entries IsWhole _ whole = tt

-- the first cause of the row, where a test decides whether the log is whole
pub answered : (owner : ℕ) (entries : List Entry) (IsWhole : Type 0) (whole : Bool) (deed : Deed)
    → Decides whole IsWhole → (answer : Result (Unit {0}) BoothNot) × Refuses owner entries IsWhole deed answer
answered owner entries IsWhole whole deed is =
    first_decided (causes_of owner entries IsWhole deed) (are_decided owner entries IsWhole deed (whole, is))
