-- The last event that ends a session.
use Rattle.demonstration.proofs.Imports.{take, push_cases, taken_more, get_or, ◌≡◌, ℕ, ◌+◌, ◌<◌, true, false, List, []}
use Rattle.demonstration.proofs.Imports.{◌∷◌, ◌++◌, length, sym, subst, arith, length-append, Some, None, Option}
use Rattle.demonstration.proofs.Imports.{MatchOption, inl, inr, length-take-le, All-nil, All-cons, All-append}
use Rattle.demonstration.proofs.Imports.{slice_get_within, Event, push_before, last_at, SealedEntry, HasNoEnd}
use Rattle.demonstration.proofs.Imports.{IsLastEnd, ends_session}

module _ (session : ℕ) (events : List (Event SealedEntry)) (more : Event SealedEntry) where
  -- one more event that ends the session is the last that does
  last_is_here : ends_session session more ≡ true → IsLastEnd session (events ++ more ∷ []) (length events)
  last_is_here is_end = record {
    event = more;
    stands = last_at events more;
    ends = is_end;
    last = λ later other following at. absurd (omega (
      arith,
      following,
      slice_get_within (events ++ more ∷ []) later other at,
      length-append events (more ∷ []),
    ));
  }

  -- one more event that doesn't end the session leaves the last end where it is
  last_stays : (place : ℕ) → IsLastEnd session events place → ends_session session more ≡ false →
      IsLastEnd session (events ++ more ∷ []) place
  last_stays place is differs = record {
    event = is.event;
    stands = push_before events more place is.event is.stands;
    ends = is.ends;
    last = λ later other following at. elim (push_cases events more later other at) [
      | inl inside ↦ is.last later other following inside
      | inr same ↦ rw (← same) differs
    ];
  }

-- the place, if any, of the last of these events that ends the session
abbrev pub IsLastOf : ℕ → List (Event SealedEntry) → Option ℕ → Type 0
IsLastOf session events last = MatchOption last (HasNoEnd session events) (IsLastEnd session events)

-- the same with one event more that doesn't end it
stays : (session : ℕ) (events : List (Event SealedEntry)) (more : Event SealedEntry) (last : Option ℕ) →
    IsLastOf session events last → ends_session session more ≡ false → IsLastOf session (events ++ more ∷ []) last
stays session events more None is differs =
    All-append (λ e. ends_session session e ≡ false) events (more ∷ []) is
    (All-cons (λ e. ends_session session e ≡ false) more [] differs (All-nil (λ e. ends_session session e ≡ false)))
stays session events more (Some place) is differs = last_stays session events more place is differs

module _ (session : ℕ) (events : List (Event SealedEntry)) (place : ℕ) (more : Event SealedEntry) (last : Option ℕ)
    (within : place < length events) (at : more ≡ get_or events place more) where
  -- the last end before a place is the last one up to it, where the place's own event doesn't end
  -- the session
  pub kept_last : IsLastOf session (take place events) last → ends_session session more ≡ false →
      IsLastOf session (take (place + 1) events) last
  kept_last is differs =
      subst (λ (es : List (Event SealedEntry)). IsLastOf session es last) (sym (taken_more events place more within at))
      (stays session (take place events) more last is differs)

  -- where the event at a place ends the session, it is the last up to there that does
  pub new_last : ends_session session more ≡ true → IsLastOf session (take (place + 1) events) (Some place)
  new_last is_end =
      rw (taken_more events place more within at)
      (rw (length-take-le place events (omega (arith, within))) at
      (last_is_here session (take place events) more is_end))
