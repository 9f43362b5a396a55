-- The state after one entry more.
use Rattle.entry_format.specs.declared.deed.How.TheVariants as word
use Rattle.booth_core.specs.{Notes.Notes, State.StandsFor, declared.commitment.Commitment.Commitment}
use Rattle.deed_history.proofs.Deciding.{closed_decides, is_closed}
use Rattle.deed_history.proofs.Entries.{added, if_own, own_listed, some_listed, some_marked}
use Rattle.deed_history.proofs.Told.{activated_in, activated_says, ended_in, ended_says, overridden_in, overridden_says}
use Rattle.deed_history.specs.Deeds.{Ends}
use Rattle.entry_format.specs.declared.deed.Deed.{Deed, TheVariants.Activate, TheVariants.Authorise, TheVariants.Closed}
use Rattle.entry_format.specs.declared.{deed.Deed.TheVariants.Commit, deed.Deed.TheVariants.Override, entry.Entry.Entry}
use Rattle.std.proofs.Common.{[], ap, Bool, cond, false, List, refl, subst, sym, true, ℕ, ◌++◌, ◌||◌, ◌∷◌, ◌≡◌}
use Rattle.std.specs.{Bool.Decides, Prelude.None, Prelude.Option, Prelude.Some, Prelude.◌↔◌}

-- the session of an Authorise, where a test says whether that is of this booth
abbrev authorised_here : Bool → Deed → Option ℕ
authorised_here here (Authorise booth session) = cond here (Some session) None
authorised_here here _ = None

-- at an Authorise, the test decides whether it is of this booth
abbrev pub IsHere : Bool → ℕ → Deed → Type 0
IsHere here owner (Authorise booth session) = Decides here (booth ≡ owner)
IsHere here owner _ = Unit {0}

-- an Authorise of this booth says its session, and no other deed says one
here_says : (here : Bool) (owner session : ℕ) (deed : Deed) → IsHere here owner deed →
    (authorised_here here deed ≡ Some session) ↔ (deed ≡ Authorise owner session)
here_says true owner session (Authorise booth s) is = (λ said. let same : booth ≡ owner = is.0 refl in cc, λ same. cc)
here_says false owner session (Authorise booth s) is = (λ said. cc, λ same. cc (is.1 (cc same)))
here_says here owner session _ is = (λ said. cc, λ same. cc)

-- a commitment to a ballot in a session
abbrev to : ℕ → List ℕ → Commitment
to session ballot = record { session = session; ballot = ballot }

-- the commitment that a Commit makes
abbrev commitment_in : Deed → Option Commitment
commitment_in (Commit session ballot) = Some (to session ballot)
commitment_in _ = None

-- a Commit says its commitment, and no other deed says one
commitment_says : (session : ℕ) (ballot : List ℕ) (deed : Deed) →
    (commitment_in deed ≡ Some (to session ballot)) ↔ (deed ≡ Commit session ballot)
commitment_says session ballot (Commit s x) = (
  λ said.
      let same : to s x ≡ to session ballot = cc said in
      let sessions : s ≡ session = ap (λ one. one.session) same in
      let ballots : x ≡ ballot = ap (λ one. one.ballot) same in
      cc,
  λ same.
      let sessions : s ≡ session = cc same in
      let ballots : x ≡ ballot = cc same in
      cc,
)
commitment_says session ballot _ = (λ said. cc said, λ same. cc same)

-- The notes after one entry more: what its deed adds to each, where `own` says whether the booth
-- made it, and `here` whether the booth that it authorises, if it does, is this one.
abbrev pub after : Notes → ℕ → Bool → Bool → Deed → Notes
after notes spare own here deed = record notes {
  closed = is_closed deed || notes.closed;
  authorised = added notes.authorised (authorised_here here deed);
  to_cancel = added notes.to_cancel (overridden_in word.Cancel deed);
  to_cast = added notes.to_cast (overridden_in word.Cast deed);
  activated = added notes.activated (if_own own (activated_in deed));
  committed = added notes.committed (if_own own (commitment_in deed));
  ended = added notes.ended (if_own own (ended_in deed));
  spare = spare;
}

-- those notes stand for the entries with this one
pub noted : {old notes : Notes} {spare owner : ℕ} {entries : List Entry} (entry : Entry) (own here : Bool)
    (deed : Deed) → notes ≡ old → StandsFor old owner entries → entry.deed ≡ deed →
    Decides own (entry.maker ≡ notes.owner) →
    IsHere here notes.owner deed → StandsFor (after notes spare own here deed) owner (entries ++ entry ∷ [])
noted {old} {notes} {spare} {owner} {entries} entry own here deed view stood is made here_is =
    let stands = subst (λ notes. StandsFor notes owner entries) (sym view) stood in
    let mine = subst (λ owner. Decides own (entry.maker ≡ owner)) stands.same_owner made in
    let here_at = subst (λ owner. IsHere here owner entry.deed) stands.same_owner
    (subst (IsHere here notes.owner) (sym is) here_is) in
    subst (λ deed. StandsFor (after notes spare own here deed) owner (entries ++ entry ∷ [])) is (record {
      same_owner = stands.same_owner;
      closed = some_marked (λ deed. deed ≡ Closed) entries entry (is_closed entry.deed) notes.closed
          (closed_decides entry.deed) stands.closed;
      authorised = λ s. some_listed (λ deed. deed ≡ Authorise owner s) entries entry notes.authorised
          (authorised_here here entry.deed) s (here_says here owner s entry.deed here_at) (stands.authorised s);
      to_cancel = λ s. some_listed (λ deed. deed ≡ Override s word.Cancel) entries entry notes.to_cancel
          (overridden_in word.Cancel entry.deed) s (overridden_says word.Cancel s entry.deed) (stands.to_cancel s);
      to_cast = λ s. some_listed (λ deed. deed ≡ Override s word.Cast) entries entry notes.to_cast
          (overridden_in word.Cast entry.deed) s (overridden_says word.Cast s entry.deed) (stands.to_cast s);
      activated = λ s. own_listed owner (λ deed. deed ≡ Activate s) entries entry own notes.activated
          (activated_in entry.deed) s (activated_says s entry.deed) mine (stands.activated s);
      committed = λ s x. own_listed owner (λ deed. deed ≡ Commit s x) entries entry own notes.committed
          (commitment_in entry.deed) (to s x) (commitment_says s x entry.deed) mine (stands.committed s x);
      ended = λ s. own_listed owner (Ends s) entries entry own notes.ended (ended_in entry.deed) s
          (ended_says s entry.deed) mine (stands.ended s);
    })
