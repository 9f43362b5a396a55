-- A booth acts in a session that another booth is authorised for.
use Rattle.counterexamples.proofs.Imports.{opened_decides, authorises_booth_decides, ℕ, zero, suc, Bool, List, [], ◌∷◌}
use Rattle.counterexamples.proofs.Imports.{inl, inr, refl, arith, ◌&&◌, ◌==◌, and_from, Deed, node_of_sealed}
use Rattle.counterexamples.proofs.Imports.{SealedEntry, Step, Act, Hear, World, history, sent_in, Post, Supervisor}
use Rattle.counterexamples.proofs.Imports.{Booth, NotAuthorised, BoothNot, a1_body, Holds, is_kind, row_of, kind_of}
use Rattle.counterexamples.proofs.Imports.{booth_of, IsHonestBut, FailsAtSome}
use Rattle.counterexamples.proofs.NotHeld.{may_authorise, no_any, no_own, none_such}
use Rattle.counterexamples.proofs.SmallPlaces.{EachSent, May, fails_but, machine, made, place}
use Rattle.entry_format.specs.declared.deed.Deed.TheVariants as deed
use Rattle.rule_language.specs.declared.kind.Kind.TheVariants as kind

-- a supervisor and two booths
abbrev posts : List Post
posts = machine Supervisor ∷ machine Booth ∷ machine Booth ∷ []

-- the first booth is authorised, and the second activates
abbrev deeds : List (List Deed)
deeds = (deed.Opened ∷ deed.Authorise 1 7 ∷ []) ∷ [] ∷ (deed.Activate 7 ∷ []) ∷ []

-- the second booth hears of the authorising before it acts
abbrev steps : List Step
steps = Act 0 ∷ Act 0 ∷ Hear 2 0 0 ∷ Hear 2 0 1 ∷ Act 2 ∷ []

-- what they come to
abbrev w : World SealedEntry
w = place deeds steps

-- what is sent
abbrev opened : SealedEntry
opened = made deeds 0 0 1 []

-- the authorising of the first booth
abbrev authorised : SealedEntry
authorised = made deeds 0 1 2 (opened.digest ∷ [])

-- the activation of its session by the second
abbrev activated : SealedEntry
activated = made deeds 2 0 3 (authorised.digest ∷ [])

-- so each machine sends what it may, but for the activation
allowed : (m : ℕ) → EachSent (May (BoothNot NotAuthorised) posts m) [] (history w m)
allowed zero = (
  (refl, inl (inr (no_own opened_decides 0 [] refl, refl))),
  ((refl, inl (may_authorise 1 7 0 (opened.entry ∷ []) refl refl refl refl)), tt),
)
allowed (suc zero) = tt
allowed (suc (suc zero)) =
    let two = opened.entry ∷ authorised.entry ∷ [] in
    ((refl, inr (inl (no_any (authorises_booth_decides 2 7) two refl, refl))), tt)
allowed (suc (suc (suc m))) = tt

-- no authorising names the booth that activates
fails : ¬ (Holds node_of_sealed (row_of posts) (sent_in w) (sent_in w) a1_body)
fails holds =
    let (f, authorises, before, (_, (names, _))) = holds activated (2, omega arith, refl) refl in
    let test : SealedEntry → Bool =
    λ e. is_kind kind.Authorise (kind_of e.entry.deed) && (booth_of e.entry.deed == 2) in
    none_such test (sent_in w) refl f before.0
    (and_from (is_kind kind.Authorise (kind_of f.entry.deed)) (booth_of f.entry.deed == 2) authorises names)

-- a booth that takes another's session breaks the rule on activations
pub taking_another_booths_session_fails : FailsAtSome (IsHonestBut (BoothNot NotAuthorised)) a1_body
taking_another_booths_session_fails =
    fails_but (BoothNot NotAuthorised) a1_body posts deeds steps refl allowed fails
