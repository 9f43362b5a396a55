-- A booth's table over histories and deeds of version 1.
use Rattle.entry_format.specs.declared.deed.How.TheVariants as word
use Rattle.booth_core.specs.{Causes.HasEndedOwn, Causes.IsOverridden, Causes.IsOverriddenTo, Table.causes_of}
use Rattle.booth_core.specs.VersionOne.{causes_in_version_1, HasEndedInVersion1, IsOverriddenInVersion1}
use Rattle.booth_core.specs.declared.state.BoothNot.TheVariants.{CastForced}
use Rattle.deed_history.proofs.VersionOne.{any_alike, ends_alike, IsAlike, IsNoneOf, no_cast_override, no_challenge}
use Rattle.deed_history.proofs.VersionOne.{overrides_alike}
use Rattle.deed_history.specs.{Deeds.Ends, Deeds.Overrides, VersionOne.EndsInVersion1}
use Rattle.entry_format.specs.{EntryText.IsDeedIn, declared.deed.Deed.Deed, declared.deed.Deed.TheVariants.Activate}
use Rattle.entry_format.specs.declared.deed.Deed.TheVariants.{Authorise, Cancel, Cast, Challenge, Closed, Commit}
use Rattle.entry_format.specs.declared.{deed.Deed.TheVariants.Opened, deed.Deed.TheVariants.Override, entry.Entry.Entry}
use Rattle.std.proofs.Common.{List, refl, subst, ℕ, ◌≡◌}
use Rattle.std.specs.Prelude.{All, ◌↔◌}

-- the entries have deeds of version 1 alone
abbrev AreOfVersion1 : List Entry → Type 0
AreOfVersion1 entries = All (λ entry. IsDeedIn 1 entry.deed) entries

-- the booth has ended a session by the table exactly when it has by that of version 1
ended_alike : (owner : ℕ) (entries : List Entry) (session : ℕ) → AreOfVersion1 entries →
    HasEndedOwn owner entries session ↔ HasEndedInVersion1 owner entries session
ended_alike owner entries session all =
    any_alike (λ entry. IsDeedIn 1 entry.deed) (λ entry. (entry.maker ≡ owner) × Ends session entry.deed)
    (λ entry. (entry.maker ≡ owner) × EndsInVersion1 session entry.deed) entries all
    (λ entry one. (
      λ (own, ends). (own, (ends_alike entry.deed session one).0 ends),
      λ (own, ends). (own, (ends_alike entry.deed session one).1 ends),
    ))

-- a session is overridden by the table exactly when it is by that of version 1
overridden_alike : (entries : List Entry) (session : ℕ) → AreOfVersion1 entries →
    IsOverridden entries session ↔ IsOverriddenInVersion1 entries session
overridden_alike entries session all =
    any_alike (λ entry. IsDeedIn 1 entry.deed) (λ entry. Overrides session entry.deed)
    (λ entry. entry.deed ≡ Override session word.Cancel) entries all
    (λ entry one. overrides_alike entry.deed session one)

-- no override says cast
none_casts : (entries : List Entry) (session : ℕ) → AreOfVersion1 entries →
    IsOverriddenTo word.Cast entries session → ⊥
none_casts entries session all (i, entry, within, at, is) =
    let one : IsDeedIn 1 entry.deed = subst (λ entry. IsDeedIn 1 entry.deed) at (all i entry within) in
    no_cast_override entry.deed session one is

-- the causes of a deed are those of version 1, beside such as don't apply
pub rows_alike : (owner : ℕ) (entries : List Entry) (IsWhole : Type 0) (deed : Deed) → AreOfVersion1 entries →
    IsDeedIn 1 deed → IsAlike (causes_of owner entries IsWhole deed) (causes_in_version_1 owner entries IsWhole deed)
rows_alike owner entries IsWhole (Activate session) all one = (
  (λ is. is, λ is. is),
  refl,
  (
    ended_alike owner entries session all,
    refl,
    ((λ is. is, λ is. is), refl, (overridden_alike entries session all, refl, ((λ is. is, λ is. is), refl, tt))),
  ),
)
rows_alike owner entries IsWhole (Commit session ballot) all one = (
  (λ is. is, λ is. is),
  refl,
  (
    ended_alike owner entries session all,
    refl,
    ((λ is. is, λ is. is), refl, (overridden_alike entries session all, refl, ((λ is. is, λ is. is), refl, tt))),
  ),
)
rows_alike owner entries IsWhole (Cast session ballot) all one = (
  (λ is. is, λ is. is),
  refl,
  (
    ended_alike owner entries session all,
    refl,
    ((λ is. is, λ is. is), refl, ((λ is. is, λ is. is), refl, ((λ is. is, λ is. is), refl, tt))),
  ),
)
rows_alike owner entries IsWhole (Cancel session) all one = (
  (λ is. is, λ is. is),
  refl,
  (ended_alike owner entries session all, refl, (none_casts entries session all, tt)),
)
rows_alike owner entries IsWhole (Challenge session ballot) all one =
    absurd (no_challenge (Challenge session ballot) session ballot one refl)
rows_alike owner entries IsWhole Opened all one = tt
rows_alike owner entries IsWhole (Authorise booth session) all one = tt
rows_alike owner entries IsWhole (Override session how) all one = tt
rows_alike owner entries IsWhole Closed all one = tt

-- in version 1 no cancelling is refused because casting was asked for
pub no_cast_forced : (owner : ℕ) (entries : List Entry) (IsWhole : Type 0) (deed : Deed) →
    IsNoneOf (causes_in_version_1 owner entries IsWhole deed) CastForced
no_cast_forced owner entries IsWhole (Activate session) = (λ e. cc, (λ e. cc, (λ e. cc, (λ e. cc, (λ e. cc, tt)))))
no_cast_forced owner entries IsWhole (Commit session ballot) =
    (λ e. cc, (λ e. cc, (λ e. cc, (λ e. cc, (λ e. cc, tt)))))
no_cast_forced owner entries IsWhole (Cast session ballot) =
    (λ e. cc, (λ e. cc, (λ e. cc, (λ e. cc, (λ e. cc, tt)))))
no_cast_forced owner entries IsWhole (Cancel session) = (λ e. cc, (λ e. cc, tt))
no_cast_forced owner entries IsWhole _ = tt
