-- The state after one entry more.
use Rattle.entry_format.specs.declared.deed.How.TheVariants as word
use Rattle.deed_history.proofs.Deciding.{closed_decides, is_closed, is_opened, opened_decides}
use Rattle.deed_history.proofs.Entries.{added, any_cases, any_kept, decides_false, if_own, in_added, IsOwnSuch}
use Rattle.deed_history.proofs.Entries.{IsSuchEntry, own_listed, own_marked, own_says, some_listed}
use Rattle.deed_history.proofs.{Members.is_kept, Told.authorised_in, Told.authorised_says}
use Rattle.deed_history.proofs.Told.{committed_in, committed_says, ended_in, ended_says, overridden_in, overridden_says}
use Rattle.deed_history.specs.Deeds.{Authorises, Commits, Ends}
use Rattle.entry_format.specs.declared.deed.Deed.{Deed, TheVariants.Authorise, TheVariants.Closed, TheVariants.Opened}
use Rattle.entry_format.specs.declared.{deed.Deed.TheVariants.Override, deed.How.How, entry.Entry.Entry}
use Rattle.std.proofs.Common.{[], ap, Bool, cond, false, inl, inr, List, nat_eq, not, refl, subst, sym, true, ℕ, ◌++◌}
use Rattle.std.proofs.Common.{◌||◌, ◌∙◌, ◌∷◌, ◌≡◌}
use Rattle.std.proofs.lemmas.{Bool.eq-eqb, Bool.Decides.eqb_tells, List.Quantifiers.Any-push}
use Rattle.std.specs.Bool.{Decides}
use Rattle.std.specs.Prelude.{Contains, filter, None, Option, Some, ◌==◌, ◌↔◌}
use Rattle.supervisor_core.specs.{Causes.IsRunning, Notes.Notes, State.StandsFor, declared.running.Running.Running}

-- a session at a booth
abbrev run : ℕ → ℕ → Running
run booth session = record { booth = booth; session = session }

-- what begins with an Authorise, where a test says whether the session is over
abbrev begun : Bool → Deed → Option Running
begun over (Authorise booth session) = cond over None (Some (run booth session))
begun over _ = None

-- at an Authorise, the test decides whether its session is among those that ended
abbrev pub IsOver : Bool → List ℕ → Deed → Type 0
IsOver over ended (Authorise booth session) = Decides over (Contains ended session)
IsOver over ended _ = Unit {0}

-- a session at a booth begins exactly where the deed authorises it and it isn't over
begun_says : (over : Bool) (ended : List ℕ) (b s : ℕ) (deed : Deed) → IsOver over ended deed →
    (begun over deed ≡ Some (run b s)) ↔ ((deed ≡ Authorise b s) × (Contains ended s → ⊥))
begun_says true ended b s (Authorise booth session) is = (
  λ begins. cc begins,
  λ (same, lasts).
      let sessions : session ≡ s = cc same in
      absurd (lasts (subst (Contains ended) sessions (is.0 refl))),
)
begun_says false ended b s (Authorise booth session) is = (
  λ begins.
      let same : run booth session ≡ run b s = cc begins in
      let booths : booth ≡ b = ap (λ one. one.booth) same in
      let sessions : session ≡ s = ap (λ one. one.session) same in
      (cc, λ at. cc (is.1 (subst (Contains ended) (sym sessions) at))),
  λ (same, _).
      let booths : booth ≡ b = cc same in
      let sessions : session ≡ s = cc same in
      cc,
)
begun_says over ended b s _ is = (λ begins. cc begins, λ (same, _). cc same)

-- the sessions that are left once the one that ends, where one does, is taken out
abbrev left : List Running → Option ℕ → List Running
left running None = running
left running (Some session) = filter (λ one. not (one.session == session)) running

-- those are the sessions other than it
in_left : (running : List Running) (over : Option ℕ) (one : Running) →
    Contains (left running over) one ↔ (Contains running one × (over ≡ Some one.session → ⊥))
in_left running None one = (λ at. (at, λ is. cc is), λ (at, _). at)
in_left running (Some session) one =
    let (kept, keeps) = is_kept (λ one. not (one.session == session)) running one in (
      λ at.
          let (among, passes) = kept at in
          (among, λ is. let equal : nat_eq one.session session ≡ true = eq-eqb one.session session (cc is) in cc),
      λ (at, other). keeps (
        at,
        elim (eqb_tells one.session session) [
          | inl told ↦ absurd (other (cc (told.1)))
          | inr told ↦ cc
        ],
      ),
    )

-- a deed that authorises a session ends none
ends_none : (b s : ℕ) (deed : Deed) → deed ≡ Authorise b s → Ends s deed → ⊥
ends_none b s deed is ends =
    let said = subst (λ deed. ended_in deed ≡ Some s) is ((ended_says s deed).1 ends) in
    cc said

-- the sessions that run are those that ran, without the one that ends, and the one that begins
runs : (notes : Notes) (owner : ℕ) (entries : List Entry) (entry : Entry) (own over : Bool) (b s : ℕ) →
    StandsFor notes owner entries → Decides own (entry.maker ≡ owner) →
    (entry.maker ≡ owner → IsOver over notes.ended entry.deed) →
    Contains (added (left notes.running (ended_in entry.deed)) (if_own own (begun over entry.deed))) (run b s)
    ↔ IsRunning owner (entries ++ entry ∷ []) b s
runs notes owner entries entry own over b s stands same is =
    let Begins = IsOwnSuch owner (λ deed. deed ≡ Authorise b s) in
    let Over = IsSuchEntry (Ends s) in
    let (ran, noted) = stands.running b s in
    let (of_added, to_added) =
    in_added (left notes.running (ended_in entry.deed)) (if_own own (begun over entry.deed)) (run b s) in
    let (of_left, to_left) = in_left notes.running (ended_in entry.deed) (run b s) in
    let (of_own, to_own) =
    own_says own (begun over entry.deed) (run b s) same
    (λ own. begun_says over notes.ended b s entry.deed (is own)) in (
      λ at. elim (of_added at) [
        | inl old ↦
            let (among, lasts) = of_left old in
            let (begins, lasted) = ran among in (
              any_kept Begins entries entry begins,
              λ ended. elim (any_cases Over entries entry ended) [
                | inl before ↦ lasted before
                | inr now ↦ lasts ((ended_says s entry.deed).1 now)
              ],
            )
        | inr new ↦
            let (own, (authorises, none)) = of_own new in (
              Any-push Begins entries entry (own, authorises),
              λ ended. elim (any_cases Over entries entry ended) [
                | inl before ↦ none ((stands.ended s).1 before)
                | inr now ↦ ends_none b s entry.deed authorises now
              ],
            )
      ],
      λ (begins, lasts). to_added (elim (any_cases Begins entries entry begins) [
        | inl old ↦ inl (to_left (
          noted (old, λ ended. lasts (any_kept Over entries entry ended)),
          λ said. lasts (Any-push Over entries entry ((ended_says s entry.deed).0 said)),
        ))
        | inr (own, authorises) ↦ inr (to_own (
          own,
          (authorises, λ at. lasts (any_kept Over entries entry ((stands.ended s).0 at))),
        ))
      ]),
    )

-- The notes after one entry more: what its deed adds to each, where `own` says whether the
-- supervisor made it, and
-- `over` whether the session that it authorises, if it does, is over.
abbrev pub after : Notes → ℕ → Bool → Bool → Deed → Notes
after notes spare own over deed = record notes {
  opened = cond (is_opened deed) (notes.opened || own) notes.opened;
  closed = cond (is_closed deed) (notes.closed || own) notes.closed;
  authorised = added notes.authorised (if_own own (authorised_in deed));
  running = added (left notes.running (ended_in deed)) (if_own own (begun over deed));
  ended = added notes.ended (ended_in deed);
  to_cancel = added notes.to_cancel (if_own own (overridden_in word.Cancel deed));
  to_cast = added notes.to_cast (if_own own (overridden_in word.Cast deed));
  committed = added notes.committed (committed_in deed);
  spare = spare;
}

-- those notes stand for the entries with this one
pub noted : {old notes : Notes} {spare owner : ℕ} {entries : List Entry} (entry : Entry) (own over : Bool)
    (deed : Deed) → notes ≡ old → StandsFor old owner entries → entry.deed ≡ deed →
    Decides own (entry.maker ≡ notes.owner) →
    (entry.maker ≡ notes.owner → IsOver over notes.ended deed) →
    StandsFor (after notes spare own over deed) owner (entries ++ entry ∷ [])
noted {old} {notes} {spare} {owner} {entries} entry own over deed view stood is made over_is =
    let stands = subst (λ notes. StandsFor notes owner entries) (sym view) stood in
    let mine : Decides own (entry.maker ≡ owner) =
    (λ yes. made.0 yes ∙ stands.same_owner, λ own. made.1 (own ∙ sym stands.same_owner)) in
    let over_at = λ (own : entry.maker ≡ owner). subst (IsOver over notes.ended) (sym is)
    (over_is (own ∙ sym stands.same_owner)) in
    subst (λ deed. StandsFor (after notes spare own over deed) owner (entries ++ entry ∷ [])) is (record {
      same_owner = stands.same_owner;
      opened = own_marked owner (λ deed. deed ≡ Opened) entries entry (is_opened entry.deed) own notes.opened
          (opened_decides entry.deed) mine stands.opened;
      closed = own_marked owner (λ deed. deed ≡ Closed) entries entry (is_closed entry.deed) own notes.closed
          (closed_decides entry.deed) mine stands.closed;
      authorised = λ s. own_listed owner (Authorises s) entries entry own notes.authorised (authorised_in entry.deed) s
          (authorised_says s entry.deed) mine (stands.authorised s);
      running = λ b s. runs notes owner entries entry own over b s stands mine over_at;
      ended = λ s. some_listed (Ends s) entries entry notes.ended (ended_in entry.deed) s (ended_says s entry.deed)
          (stands.ended s);
      to_cancel = λ s. own_listed owner (λ deed. deed ≡ Override s word.Cancel) entries entry own notes.to_cancel
          (overridden_in word.Cancel entry.deed) s (overridden_says word.Cancel s entry.deed) mine (stands.to_cancel s);
      to_cast = λ s. own_listed owner (λ deed. deed ≡ Override s word.Cast) entries entry own notes.to_cast
          (overridden_in word.Cast entry.deed) s (overridden_says word.Cast s entry.deed) mine (stands.to_cast s);
      committed = λ s. some_listed (Commits s) entries entry notes.committed (committed_in entry.deed) s
          (committed_says s entry.deed) (stands.committed s);
    })

-- an Override by another machine leaves the notes as they were
pub other_override : {old notes : Notes} {spare owner : ℕ} {entries : List Entry} (entry : Entry) (session : ℕ)
    (how : How) → notes ≡ old → StandsFor old owner entries → entry.deed ≡ Override session how →
    (entry.maker ≡ notes.owner → ⊥) → StandsFor (record notes { spare = spare }) owner (entries ++ entry ∷ [])
other_override entry session word.Cancel view stood is other =
    noted entry false false (Override session word.Cancel) view stood is (decides_false other) (λ _. tt)
other_override entry session word.Cast view stood is other =
    noted entry false false (Override session word.Cast) view stood is (decides_false other) (λ _. tt)
