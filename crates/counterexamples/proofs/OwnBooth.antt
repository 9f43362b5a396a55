-- A rule that compares the booth of the wrong entry.
use Rattle.entry_format.specs.declared.deed.Deed.TheVariants as deed
use Rattle.counterexamples.proofs.Imports.{[], Act, activates_decides, arith, Booth, closed_decides, Deed, ends_decides}
use Rattle.counterexamples.proofs.Imports.{Event, FailsAtSome, Hear, history, Holds, inr, IsHonest, List, MayAs}
use Rattle.counterexamples.proofs.Imports.{node_of_sealed, opened_decides, overrides_decides, own_booth, Post, refl}
use Rattle.counterexamples.proofs.Imports.{role_at, row_of, SealedEntry, sent_in, Step, suc, Supervisor, World, zero, ℕ}
use Rattle.counterexamples.proofs.{Imports.◌∷◌, NotHeld.may_authorise, NotHeld.no_any, NotHeld.no_own}
use Rattle.counterexamples.proofs.SmallPlaces.{each_sent, EachSent, machine, made, place, place_distinct, place_orderly}

-- a supervisor and a booth
abbrev posts : List Post
posts = machine Supervisor ∷ machine Booth ∷ []

-- a booth is authorised and activates
abbrev deeds : List (List Deed)
deeds = (deed.Opened ∷ deed.Authorise 1 7 ∷ []) ∷ (deed.Activate 7 ∷ []) ∷ []

-- the booth hears of its authorising before it acts
abbrev steps : List Step
steps = Act 0 ∷ Act 0 ∷ Hear 1 0 0 ∷ Hear 1 0 1 ∷ Act 1 ∷ []

-- what they come to
abbrev w : World SealedEntry
w = place deeds steps

-- what is sent
abbrev opened : SealedEntry
opened = made deeds 0 0 1 []

-- the authorising of the booth
abbrev authorised : SealedEntry
authorised = made deeds 0 1 2 (opened.digest ∷ [])

-- the booth's activation of its session
abbrev activated : SealedEntry
activated = made deeds 1 0 3 (authorised.digest ∷ [])

-- each is allowed
abbrev May : ℕ → List (Event SealedEntry) → SealedEntry → Type 0
May m past e = MayAs (role_at posts m) m past e

-- so each machine sends what it may
allowed : (m : ℕ) → EachSent (May m) [] (history w m)
allowed zero = (
  record { of_role = refl; no_cause = inr (no_own opened_decides 0 [] refl, refl) },
  (record { of_role = refl; no_cause = may_authorise 1 7 0 (opened.entry ∷ []) refl refl refl refl }, tt),
)
allowed (suc zero) =
    let two = opened.entry ∷ authorised.entry ∷ [] in (
      record {
        of_role = refl;
        no_cause = inr (
          λ unnamed. unnamed (1, authorised.entry, omega arith, refl, refl),
          inr (
            no_own (ends_decides 7) 1 two refl,
            inr (
              no_own (activates_decides 7) 1 two refl,
              inr (no_any (overrides_decides 7) two refl, inr (no_any closed_decides two refl, refl)),
            ),
          ),
        );
      },
      tt,
    )
allowed (suc (suc m)) = tt

-- an activation names no booth, so that its field is 0
fails : ¬ (Holds node_of_sealed (row_of posts) (sent_in w) (sent_in w) own_booth)
fails holds =
    let (f, authorises, before, (_, (names, _))) = holds activated (2, omega arith, refl) refl in cc

-- the rule that compares the wrong entry's booth fails at an honest place
pub looking_for_its_own_booth_fails : FailsAtSome IsHonest own_booth
looking_for_its_own_booth_fails = (
  posts,
  w,
  record {
    supervisor = refl;
    orderly = place_orderly deeds steps;
    allowed = λ m. each_sent (May m) (history w m) (allowed m);
  },
  place_distinct deeds steps,
  fails,
)
