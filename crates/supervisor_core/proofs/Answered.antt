-- Each deed has an answer after each history.
use Rattle.entry_format.specs.declared.deed.How.TheVariants as word
use Rattle.deed_history.proofs.Deciding.{AreDecided, authorises, authorises_decides, both_are, closed_decides, commits}
use Rattle.deed_history.proofs.Deciding.{commits_decides, Decided, ended_decides, first_decided, has_ended, holds_own}
use Rattle.deed_history.proofs.Deciding.{is_closed, is_opened, is_word, not_is, opened_decides, overrides_by}
use Rattle.deed_history.proofs.Deciding.{overrides_by_decides, own_decides, own_is, some_is, word_decides}
use Rattle.deed_history.specs.{Deeds.Authorises, Deeds.Commits, Held.HasEnded}
use Rattle.entry_format.specs.declared.deed.Deed.{Deed, TheVariants.Authorise, TheVariants.Closed, TheVariants.Opened}
use Rattle.entry_format.specs.declared.{deed.Deed.TheVariants.Override, deed.How.How, entry.Entry.Entry}
use Rattle.std.proofs.Common.{ap, Bool, false, List, not, refl, subst, ℕ, ◌&&◌, ◌==◌, ◌≡◌}
use Rattle.std.proofs.lemmas.Bool.Decides.{Decides-and, Decides-eqb, Decides-like, Decides-not}
use Rattle.std.specs.{Bool.Decides, Prelude.Result}
use Rattle.supervisor_core.specs.Causes.{HasAuthorised, HasClosed, HasOpened, HasOverridden, HasSessionsLeft, IsBusy}
use Rattle.supervisor_core.specs.Causes.{IsCommitted, other}
use Rattle.supervisor_core.specs.{Table.causes_of, Table.Refuses, declared.state.SupervisorNot.SupervisorNot}

-- a test decides whether the supervisor has opened
opened_is : (owner : ℕ) (entries : List Entry) → Decided (HasOpened owner entries)
opened_is owner entries = own_is owner is_opened (λ deed. deed ≡ Opened) opened_decides entries

-- a test decides whether it has closed
closed_is : (owner : ℕ) (entries : List Entry) → Decided (HasClosed owner entries)
closed_is owner entries = own_is owner is_closed (λ deed. deed ≡ Closed) closed_decides entries

-- a test decides whether it has authorised the session
authorised_is : (owner : ℕ) (entries : List Entry) (session : ℕ) → Decided (HasAuthorised owner entries session)
authorised_is owner entries session =
    own_is owner (authorises session) (Authorises session) (authorises_decides session) entries

-- a test decides whether it has overridden the session with this word
overridden_is : (owner : ℕ) (entries : List Entry) (session : ℕ) (how : How) →
    Decided (HasOverridden owner entries session how)
overridden_is owner entries session how =
    own_is owner (overrides_by session how) (λ deed. deed ≡ Override session how) (overrides_by_decides session how)
    entries

-- a test decides whether a booth has committed in the session
committed_is : (entries : List Entry) (session : ℕ) → Decided (IsCommitted entries session)
committed_is entries session = some_is (commits session) (Commits session) (commits_decides session) entries

-- the deed authorises the booth for a session that hasn't ended
abbrev runs_at : List Entry → ℕ → Deed → Bool
runs_at entries booth (Authorise b s) = (b == booth) && not (has_ended entries s)
runs_at entries booth _ = false

-- the sentence of which that is the test
abbrev RunsAt : List Entry → ℕ → Deed → Type 0
RunsAt entries booth deed = (session : ℕ) × (deed ≡ Authorise booth session) × (HasEnded entries session → ⊥)

-- the test decides it
runs_decides : (entries : List Entry) (booth : ℕ) (deed : Deed)
    → Decides (runs_at entries booth deed) (RunsAt entries booth deed)
runs_decides entries booth (Authorise b s) =
    let left = Decides-not (has_ended entries s) (ended_decides entries s) in
    let both = Decides-and (b == booth) (not (has_ended entries s)) (Decides-eqb b booth) left in (
      λ yes. let (same, lasts) = both.0 yes in (s, ap (λ n. Authorise n s) same, lasts),
      λ (session, is, lasts).
          let same : session ≡ s = cc is in
          both.1 (cc is, subst (λ n. HasEnded entries n → ⊥) same lasts),
    )
runs_decides entries booth _ = (λ yes. cc, λ runs. cc (runs.1))

-- a test decides whether a booth is busy
busy_is : (owner : ℕ) (entries : List Entry) (booth : ℕ) → Decided (IsBusy owner entries booth)
busy_is owner entries booth = (
  holds_own owner (runs_at entries booth) entries,
  Decides-like (holds_own owner (runs_at entries booth) entries)
      (λ (i, entry, within, at, (own, (session, is, lasts))). (session, ((i, entry, within, at, (own, is)), lasts)))
      (λ (session, ((i, entry, within, at, (own, is)), lasts)). (i, entry, within, at, (own, (session, is, lasts))))
      (own_decides owner (runs_at entries booth) (RunsAt entries booth) (runs_decides entries booth) entries),
)

-- the same at whichever booth
abbrev runs : List Entry → Deed → Bool
runs entries (Authorise b s) = not (has_ended entries s)
runs entries _ = false

-- the sentence of which that is the test
abbrev Runs : List Entry → Deed → Type 0
Runs entries deed = (booth : ℕ) × RunsAt entries booth deed

-- the test decides it
left_decides : (entries : List Entry) (deed : Deed) → Decides (runs entries deed) (Runs entries deed)
left_decides entries (Authorise b s) =
    let left = Decides-not (has_ended entries s) (ended_decides entries s) in (
      λ yes. (b, (s, refl, left.0 yes)),
      λ (booth, (session, is, lasts)).
          let same : session ≡ s = cc is in
          left.1 (subst (λ n. HasEnded entries n → ⊥) same lasts),
    )
left_decides entries _ = (λ yes. cc, λ here. cc (here.1.1))

-- a test decides whether the supervisor has a session left
left_is : (owner : ℕ) (entries : List Entry) → Decided (HasSessionsLeft owner entries)
left_is owner entries = (
  holds_own owner (runs entries) entries,
  Decides-like (holds_own owner (runs entries) entries)
      (λ (i, entry, within, at, (own, (booth, (session, is, lasts)))).
      (booth, (session, ((i, entry, within, at, (own, is)), lasts))))
      (λ (booth, (session, ((i, entry, within, at, (own, is)), lasts))).
      (i, entry, within, at, (own, (booth, (session, is, lasts)))))
      (own_decides owner (runs entries) (Runs entries) (left_decides entries) entries),
)

-- each cause of a deed's row is decided
are_decided : (owner : ℕ) (entries : List Entry) (deed : Deed) → AreDecided (causes_of owner entries deed)
are_decided owner entries Opened = (opened_is owner entries, tt)
are_decided owner entries (Authorise booth session) = (
  not_is (opened_is owner entries),
  (closed_is owner entries, (authorised_is owner entries session, (busy_is owner entries booth, tt))),
)
are_decided owner entries (Override session how) = (
  not_is (authorised_is owner entries session),
  (
    (has_ended entries session, ended_decides entries session),
    (
      overridden_is owner entries session (other how),
      (both_are (is_word how word.Cast, word_decides how word.Cast) (not_is (committed_is entries session)), tt),
    ),
  ),
)
are_decided owner entries Closed =
    (not_is (opened_is owner entries), (closed_is owner entries, (left_is owner entries, tt)))
are_decided owner entries _ = tt

-- the first cause of the row
pub answered : (owner : ℕ) (entries : List Entry) (deed : Deed)
    → (answer : Result (Unit {0}) SupervisorNot) × Refuses owner entries deed answer
answered owner entries deed = first_decided (causes_of owner entries deed) (are_decided owner entries deed)
