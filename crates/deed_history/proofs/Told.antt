-- The session that a deed speaks of, for each kind of deed: none where the deed is of another kind.
use Rattle.entry_format.specs.declared.deed.How.TheVariants as word
use Rattle.deed_history.specs.Deeds.{Authorises, Commits, Ends}
use Rattle.entry_format.specs.declared.deed.Deed.{Deed, TheVariants.Activate}
use Rattle.entry_format.specs.declared.deed.Deed.TheVariants.{Authorise, Cancel, Cast, Challenge, Commit, Override}
use Rattle.entry_format.specs.declared.deed.How.{How}
use Rattle.std.proofs.Common.{inl, inr, ℕ, ◌≡◌}
use Rattle.std.specs.Prelude.{None, Option, Some, ◌↔◌}

-- the session that an Authorise is of
abbrev pub authorised_in : Deed → Option ℕ
authorised_in (Authorise booth session) = Some session
authorised_in _ = None

-- an Authorise says its session, and no other deed says one
pub authorised_says : (session : ℕ) (deed : Deed) → (authorised_in deed ≡ Some session) ↔ Authorises session deed
authorised_says session (Authorise booth s) = (λ is. (booth, cc), λ (_, is). cc is)
authorised_says session _ = (λ is. cc, λ (_, is). cc is)

-- the session that an Override with the word is of
abbrev pub overridden_in : How → Deed → Option ℕ
overridden_in word.Cancel (Override session word.Cancel) = Some session
overridden_in word.Cast (Override session word.Cast) = Some session
overridden_in _ _ = None

-- an Override with the word says its session, and no other deed says one
pub overridden_says : (how : How) (session : ℕ) (deed : Deed) →
    (overridden_in how deed ≡ Some session) ↔ (deed ≡ Override session how)
overridden_says word.Cancel session (Override s word.Cancel) = (λ is. cc, λ is. cc)
overridden_says word.Cast session (Override s word.Cast) = (λ is. cc, λ is. cc)
overridden_says _ session _ = (λ is. cc, λ is. cc)

-- the session that an Activate is of
abbrev pub activated_in : Deed → Option ℕ
activated_in (Activate session) = Some session
activated_in _ = None

-- an Activate says its session, and no other deed says one
pub activated_says : (session : ℕ) (deed : Deed) → (activated_in deed ≡ Some session) ↔ (deed ≡ Activate session)
activated_says session (Activate s) = (λ is. cc, λ is. cc)
activated_says session _ = (λ is. cc, λ is. cc)

-- the session that a Commit is of
abbrev pub committed_in : Deed → Option ℕ
committed_in (Commit session ballot) = Some session
committed_in _ = None

-- a Commit says its session, and no other deed says one
pub committed_says : (session : ℕ) (deed : Deed) → (committed_in deed ≡ Some session) ↔ Commits session deed
committed_says session (Commit s ballot) = (λ is. (ballot, cc), λ (_, is). cc is)
committed_says session _ = (λ is. cc, λ (_, is). cc is)

-- the session that a Cast, a Cancel or a Challenge is of
abbrev pub ended_in : Deed → Option ℕ
ended_in (Cast session ballot) = Some session
ended_in (Cancel session) = Some session
ended_in (Challenge session ballot) = Some session
ended_in _ = None

-- a Cast, a Cancel and a Challenge say their session, and no other deed says one
pub ended_says : (session : ℕ) (deed : Deed) → (ended_in deed ≡ Some session) ↔ Ends session deed
ended_says session (Cast s ballot) = (
  λ is. inl (ballot, cc),
  λ ends. elim ends [ inl (_, cast) ↦ cc cast | inr (inl cancel) ↦ cc | inr (inr (_, challenge)) ↦ cc challenge ],
)
ended_says session (Cancel s) = (
  λ is. inr (inl cc),
  λ ends. elim ends [ inl (_, cast) ↦ cc cast | inr (inl cancel) ↦ cc | inr (inr (_, challenge)) ↦ cc challenge ],
)
ended_says session (Challenge s ballot) = (
  λ is. inr (inr (ballot, cc)),
  λ ends. elim ends [ inl (_, cast) ↦ cc cast | inr (inl cancel) ↦ cc | inr (inr (_, challenge)) ↦ cc challenge ],
)
ended_says session _ = (
  λ is. cc,
  λ ends. elim ends [ inl (_, cast) ↦ cc cast | inr (inl cancel) ↦ cc | inr (inr (_, challenge)) ↦ cc challenge ],
)
