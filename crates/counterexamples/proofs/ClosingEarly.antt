-- The supervisor closes though a session is left.
use Rattle.counterexamples.proofs.Imports.{opened_decides, closed_decides, ends_decides, ℕ, zero, suc, List, [], ◌∷◌}
use Rattle.counterexamples.proofs.Imports.{inl, inr, refl, arith, Deed, node_of_sealed, SealedEntry, Step, Act}
use Rattle.counterexamples.proofs.Imports.{Precedes, World, history, sent_in, Post, Supervisor, Booth, SessionsLeft}
use Rattle.counterexamples.proofs.Imports.{SupervisorNot, p3_body, Holds, is_kind, row_of, kind_of, IsHonestBut}
use Rattle.counterexamples.proofs.Imports.{FailsAtSome}
use Rattle.counterexamples.proofs.NotHeld.{may_authorise, no_any, no_own, none_such}
use Rattle.counterexamples.proofs.SmallPlaces.{EachSent, May, fails_but, machine, made, place}
use Rattle.entry_format.specs.declared.deed.Deed.TheVariants as deed
use Rattle.rule_language.specs.declared.kind.Kind.TheVariants as kind

-- a supervisor and a booth
abbrev posts : List Post
posts = machine Supervisor ∷ machine Booth ∷ []

-- the supervisor opens, authorises and closes
abbrev deeds : List (List Deed)
deeds = (deed.Opened ∷ deed.Authorise 1 7 ∷ deed.Closed ∷ []) ∷ [] ∷ []

-- it acts three times
abbrev steps : List Step
steps = Act 0 ∷ Act 0 ∷ Act 0 ∷ []

-- what they come to
abbrev w : World SealedEntry
w = place deeds steps

-- what is sent
abbrev opened : SealedEntry
opened = made deeds 0 0 1 []

-- the authorising of the session that is left
abbrev authorised : SealedEntry
authorised = made deeds 0 1 2 (opened.digest ∷ [])

-- the closing
abbrev closed : SealedEntry
closed = made deeds 0 2 3 (authorised.digest ∷ [])

-- so each machine sends what it may, but for the closing
allowed : (m : ℕ) → EachSent (May (SupervisorNot SessionsLeft) posts m) [] (history w m)
allowed zero =
    let two = opened.entry ∷ authorised.entry ∷ [] in (
      (refl, inl (inr (no_own opened_decides 0 [] refl, refl))),
      (
        (refl, inl (may_authorise 1 7 0 (opened.entry ∷ []) refl refl refl refl)),
        (
          (
            refl,
            inr (inr (
              λ unopened. unopened (0, opened.entry, omega arith, refl, (refl, refl)),
              inr (
                no_own closed_decides 0 two refl,
                inl (
                  (1, (7, ((1, authorised.entry, omega arith, refl, (refl, refl)), no_any (ends_decides 7) two refl))),
                  refl,
                ),
              ),
            )),
          ),
          tt,
        ),
      ),
    )
allowed (suc zero) = tt
allowed (suc (suc m)) = tt

-- the authorising precedes the closing
before : Precedes node_of_sealed (sent_in w) authorised closed
before = ((1, omega arith, refl), (2, omega arith, refl), [], (0, omega arith, refl))

-- and no end of the session does
fails : ¬ (Holds node_of_sealed (row_of posts) (sent_in w) (sent_in w) p3_body)
fails holds =
    elim (holds authorised (1, omega arith, refl) refl closed (2, omega arith, refl) refl before) [
      | inl (cast, is, (sent, _, _, _), _) ↦
          none_such (λ e. is_kind kind.Cast (kind_of e.entry.deed)) (sent_in w) refl cast sent is
      | inr (inl (cancel, is, (sent, _, _, _), _)) ↦
          none_such (λ e. is_kind kind.Cancel (kind_of e.entry.deed)) (sent_in w) refl cancel sent is
      | inr (inr (inl (challenge, is, (sent, _, _, _), _))) ↦
          none_such (λ e. is_kind kind.Challenge (kind_of e.entry.deed)) (sent_in w) refl challenge sent is
      | inr (inr (inr none)) ↦ none
    ]

-- a supervisor that closes while a session is left breaks the rule on closing
pub closing_over_sessions_fails : FailsAtSome (IsHonestBut (SupervisorNot SessionsLeft)) p3_body
closing_over_sessions_fails =
    fails_but (SupervisorNot SessionsLeft) p3_body posts deeds steps refl allowed fails
