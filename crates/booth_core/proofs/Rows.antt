-- What the tests of a booth's rows decide.
use Rattle.entry_format.specs.declared.deed.How.TheVariants as word
use Rattle.booth_core.specs.Causes.{HasCommitted, HasCommittedTo, IsOverridden, IsOverriddenTo}
use Rattle.booth_core.specs.{Notes.Notes, State.StandsFor, declared.commitment.Commitment.Commitment}
use Rattle.deed_history.proofs.Deciding.{Decided}
use Rattle.entry_format.specs.declared.{deed.Deed.TheVariants.Override, deed.How.How, entry.Entry.Entry}
use Rattle.std.proofs.Common.{ap, Bool, inl, inr, List, refl, subst, ℕ, ◌≡◌, ◌⊎◌}
use Rattle.std.specs.Prelude.{Any, Contains, IsTrue, ◌↔◌}

-- a commitment
abbrev to : List ℕ → ℕ → Commitment
to ballot session = record { session = session; ballot = ballot }

-- an override says one word or the other
by_word : (entries : List Entry) (session : ℕ) (how : How) → IsOverriddenTo how entries session →
    IsOverridden entries session
by_word entries session how (i, entry, within, at, is) = (i, entry, within, at, (how, is))

-- an override of the session is one to cancel or one to cast
one_word : (entries : List Entry) (session : ℕ) (entry : Entry) (how : How) → entry.deed ≡ Override session how →
    Contains entries entry →
    IsOverriddenTo word.Cancel entries session ⊎ IsOverriddenTo word.Cast entries session
one_word entries session entry word.Cancel is (i, within, at) = inl (i, entry, within, at, is)
one_word entries session entry word.Cast is (i, within, at) = inr (i, entry, within, at, is)

-- the test of the one word is true
pub overridden_first : (notes : Notes) (owner : ℕ) (entries : List Entry) (session : ℕ) (cancels : Bool) →
    StandsFor notes owner entries → IsTrue cancels ↔ Contains notes.to_cancel session → IsTrue cancels →
    IsTrue cancels ↔ IsOverridden entries session
overridden_first notes owner entries session cancels stands c told =
    (λ t. by_word entries session word.Cancel ((stands.to_cancel session).0 (c.0 told)), λ is. told)

-- the test of the one word is false, so that of the other decides
pub overridden_second : (notes : Notes) (owner : ℕ) (entries : List Entry) (session : ℕ) (cancels casts : Bool) →
    StandsFor notes owner entries → IsTrue cancels ↔ Contains notes.to_cancel session →
    IsTrue casts ↔ Contains notes.to_cast session → (IsTrue cancels → ⊥) →
    IsTrue casts ↔ IsOverridden entries session
overridden_second notes owner entries session cancels casts stands c f untold = (
  λ told. by_word entries session word.Cast ((stands.to_cast session).0 (f.0 told)),
  λ (i, entry, within, at, (how, is)). elim (one_word entries session entry how is (i, within, at)) [
    | inl cancel ↦ absurd (untold (c.1 ((stands.to_cancel session).1 cancel)))
    | inr cast ↦ f.1 ((stands.to_cast session).1 cast)
  ],
)

-- the booth has committed in the session where a commitment in it is noted
abbrev pub committed_is : {notes : Notes} {owner : ℕ} {entries : List Entry} {committed : Bool} (session : ℕ) →
    StandsFor notes owner entries → IsTrue committed ↔ Any (λ one. one.session ≡ session) notes.committed →
    Decided (HasCommitted owner entries session)
committed_is {notes} {owner} {entries} {committed} session stands c = (
  committed,
  (
    λ told.
        let (i, one, within, at, in_session) = c.0 told in
        let same : one ≡ to one.ballot session = ap (to one.ballot) in_session in
        let (j, entry, held, at_entry, (own, is)) =
        (stands.committed session one.ballot).0 (subst (Contains notes.committed) same (i, within, at)) in
        (j, entry, held, at_entry, (own, (one.ballot, is))),
    λ (i, entry, within, at, (own, (ballot, is))).
        let (j, noted, at_one) = (stands.committed session ballot).1 (i, entry, within, at, (own, is)) in
        c.1 (j, to ballot session, noted, at_one, refl),
  ),
)

-- it has committed to the ballot where that commitment is noted
abbrev pub committed_to_is : {notes : Notes} {owner : ℕ} {entries : List Entry} {committed : Bool}
    {all : List Commitment} (session : ℕ) (ballot : List ℕ) → StandsFor notes owner entries → all ≡ notes.committed →
    IsTrue committed ↔ Contains all (to ballot session) → Decided (HasCommittedTo owner entries session ballot)
committed_to_is {notes} {owner} {entries} {committed} session ballot stands same c =
    let (noted, at) = subst (λ all. IsTrue committed ↔ Contains all (to ballot session)) same c in
    let (held, from) = stands.committed session ballot in
    (committed, (λ told. held (noted told), λ is. at (from is)))
