-- The supervisor's table over histories and deeds of version 1.
use Rattle.entry_format.specs.declared.deed.How.TheVariants as word
use Rattle.deed_history.proofs.VersionOne.{any_alike, ends_alike, IsAlike, IsNoneOf, no_cast_override}
use Rattle.deed_history.specs.{Deeds.Ends, Held.HasEnded, VersionOne.EndsInVersion1}
use Rattle.entry_format.specs.{EntryText.IsDeedIn, declared.deed.Deed.Deed, declared.deed.Deed.TheVariants.Activate}
use Rattle.entry_format.specs.declared.deed.Deed.TheVariants.{Authorise, Cancel, Cast, Challenge, Closed, Commit}
use Rattle.entry_format.specs.declared.{deed.Deed.TheVariants.Opened, deed.Deed.TheVariants.Override, entry.Entry.Entry}
use Rattle.std.proofs.Common.{List, refl, subst, ℕ}
use Rattle.std.specs.Prelude.{All, ◌↔◌}
use Rattle.supervisor_core.specs.Causes.{HasOverridden, HasSessionsLeft, IsBusy}
use Rattle.supervisor_core.specs.{Table.causes_of, VersionOne.causes_in_version_1}
use Rattle.supervisor_core.specs.VersionOne.{HasEndedInVersion1, HasSessionsLeftInVersion1, IsBusyInVersion1}
use Rattle.supervisor_core.specs.declared.state.SupervisorNot.TheVariants.{NothingCommitted, OtherOverride}

-- the entries have deeds of version 1 alone
abbrev AreOfVersion1 : List Entry → Type 0
AreOfVersion1 entries = All (λ entry. IsDeedIn 1 entry.deed) entries

-- a session has ended by the table exactly when it has by that of version 1
ended_alike : (entries : List Entry) (session : ℕ) → AreOfVersion1 entries →
    HasEnded entries session ↔ HasEndedInVersion1 entries session
ended_alike entries session all =
    any_alike (λ entry. IsDeedIn 1 entry.deed) (λ entry. Ends session entry.deed)
    (λ entry. EndsInVersion1 session entry.deed) entries all (λ entry one. ends_alike entry.deed session one)

-- a booth is busy by the table exactly when it is by that of version 1
busy_alike : (owner : ℕ) (entries : List Entry) (booth : ℕ) → AreOfVersion1 entries →
    IsBusy owner entries booth ↔ IsBusyInVersion1 owner entries booth
busy_alike owner entries booth all = (
  λ (session, (runs, lasts)). (session, (runs, λ ended. lasts ((ended_alike entries session all).1 ended))),
  λ (session, (runs, lasts)). (session, (runs, λ ended. lasts ((ended_alike entries session all).0 ended))),
)

-- sessions are left by the table exactly when they are by that of version 1
left_alike : (owner : ℕ) (entries : List Entry) → AreOfVersion1 entries →
    HasSessionsLeft owner entries ↔ HasSessionsLeftInVersion1 owner entries
left_alike owner entries all = (
  λ (booth, busy). (booth, (busy_alike owner entries booth all).0 busy),
  λ (booth, busy). (booth, (busy_alike owner entries booth all).1 busy),
)

-- no override says cast
none_casts : (owner : ℕ) (entries : List Entry) (session : ℕ) → AreOfVersion1 entries →
    HasOverridden owner entries session word.Cast → ⊥
none_casts owner entries session all (i, entry, within, at, (_, is)) =
    let one : IsDeedIn 1 entry.deed = subst (λ entry. IsDeedIn 1 entry.deed) at (all i entry within) in
    no_cast_override entry.deed session one is

-- the causes of a deed are those of version 1, beside such as don't apply
pub rows_alike : (owner : ℕ) (entries : List Entry) (deed : Deed) → AreOfVersion1 entries → IsDeedIn 1 deed →
    IsAlike (causes_of owner entries deed) (causes_in_version_1 owner entries deed)
rows_alike owner entries Opened all one = ((λ is. is, λ is. is), refl, tt)
rows_alike owner entries (Authorise booth session) all one = (
  (λ is. is, λ is. is),
  refl,
  ((λ is. is, λ is. is), refl, ((λ is. is, λ is. is), refl, (busy_alike owner entries booth all, refl, tt))),
)
rows_alike owner entries (Override session word.Cancel) all one = (
  (λ is. is, λ is. is),
  refl,
  (
    ended_alike entries session all,
    refl,
    (none_casts owner entries session all, (λ nothing. cc (nothing.0), tt)),
  ),
)
rows_alike owner entries (Override session word.Cast) all one =
    absurd (no_cast_override (Override session word.Cast) session one refl)
rows_alike owner entries Closed all one = (
  (λ is. is, λ is. is),
  refl,
  ((λ is. is, λ is. is), refl, (left_alike owner entries all, refl, tt)),
)
rows_alike owner entries (Activate session) all one = tt
rows_alike owner entries (Commit session ballot) all one = tt
rows_alike owner entries (Cast session ballot) all one = tt
rows_alike owner entries (Cancel session) all one = tt
rows_alike owner entries (Challenge session ballot) all one = tt

-- in version 1 no override is refused for another one
pub no_other_override : (owner : ℕ) (entries : List Entry) (deed : Deed) →
    IsNoneOf (causes_in_version_1 owner entries deed) OtherOverride
no_other_override owner entries Opened = (λ e. cc, tt)
no_other_override owner entries (Authorise booth session) = (λ e. cc, (λ e. cc, (λ e. cc, (λ e. cc, tt))))
no_other_override owner entries (Override session how) = (λ e. cc, (λ e. cc, tt))
no_other_override owner entries Closed = (λ e. cc, (λ e. cc, (λ e. cc, tt)))
no_other_override owner entries _ = tt

-- no deed of version 1 is refused because nothing was committed
pub no_nothing_committed : (owner : ℕ) (entries : List Entry) (deed : Deed) →
    IsNoneOf (causes_in_version_1 owner entries deed) NothingCommitted
no_nothing_committed owner entries Opened = (λ e. cc, tt)
no_nothing_committed owner entries (Authorise booth session) = (λ e. cc, (λ e. cc, (λ e. cc, (λ e. cc, tt))))
no_nothing_committed owner entries (Override session how) = (λ e. cc, (λ e. cc, tt))
no_nothing_committed owner entries Closed = (λ e. cc, (λ e. cc, (λ e. cc, tt)))
no_nothing_committed owner entries _ = tt
