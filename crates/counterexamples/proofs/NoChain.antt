-- The supervisor names none of its own entries.
use Rattle.entry_format.specs.declared.deed.Deed.TheVariants as deed
use Rattle.counterexamples.proofs.{ExampleFacts.distinct_two, ExampleFacts.no_path, Imports.[]}
use Rattle.counterexamples.proofs.Imports.{arith, Booth, Deed, Distinct, Event, FailsAtSome, false, Got, held, history}
use Rattle.counterexamples.proofs.Imports.{Holds, inl, inr, IsHonestUnchained, IsNew, IsNew-from_test, IsNextUnchained}
use Rattle.counterexamples.proofs.Imports.{k2_body, List, MayAs, node_of_sealed, opened_decides, Post, refl, role_at}
use Rattle.counterexamples.proofs.Imports.{row_of, SealedEntry, Sent, sent_in, suc, Supervisor, World, zero, ℕ, ◌++◌}
use Rattle.counterexamples.proofs.{Imports.◌∷◌, Imports.◌≡◌, NotHeld.may_authorise, NotHeld.no_own}
use Rattle.counterexamples.proofs.SmallPlaces.{each_sent, EachSent, machine, made}

-- a supervisor, and a booth that sends nothing
abbrev posts : List Post
posts = machine Supervisor ∷ machine Booth ∷ []

-- what the supervisor sends
abbrev deeds : List (List Deed)
deeds = (deed.Opened ∷ deed.Authorise 1 7 ∷ []) ∷ []

-- the opening
abbrev opened : SealedEntry
opened = made deeds 0 0 1 []

-- an authorising, which names no entry
abbrev authorised : SealedEntry
authorised = made deeds 0 1 2 []

-- the place where both were sent
abbrev w : World SealedEntry
w =
    record { history = Sent opened ∷ Sent authorised ∷ []; stopped = false }
    ∷ record { history = []; stopped = false } ∷ []

-- each is as asked
abbrev AsAsked : ℕ → List (Event SealedEntry) → SealedEntry → Type 0
AsAsked m past e =
    IsNew node_of_sealed (held past) e × IsNextUnchained m past e × MayAs (role_at posts m) m past e

-- each is what is asked, but that it names nothing
as_asked : (m : ℕ) → EachSent (AsAsked m) [] (history w m)
as_asked zero = (
  (
    IsNew-from_test node_of_sealed [] opened refl,
    record { maker = refl; number = refl; stamp = refl; names = refl },
    record { of_role = refl; no_cause = inr (no_own opened_decides 0 [] refl, refl) },
  ),
  (
    (
      IsNew-from_test node_of_sealed (opened ∷ []) authorised refl,
      record { maker = refl; number = refl; stamp = refl; names = refl },
      record {
        of_role = refl;
        no_cause = may_authorise 1 7 0 (opened.entry ∷ []) refl refl refl refl;
      },
    ),
    tt,
  ),
)
as_asked (suc zero) = tt
as_asked (suc (suc m)) = tt

-- nothing is received
no_receipt : (m : ℕ) (past : List (Event SealedEntry)) (e : SealedEntry) (later : List (Event SealedEntry)) →
    history w m ≡ past ++ Got e ∷ later → ⊥
no_receipt zero [] e later is = cc
no_receipt zero (x ∷ []) e later is = cc
no_receipt zero (x ∷ y ∷ []) e later is = cc
no_receipt zero (x ∷ y ∷ z ∷ past) e later is = cc
no_receipt (suc zero) [] e later is = cc
no_receipt (suc zero) (x ∷ past) e later is = cc
no_receipt (suc (suc m)) [] e later is = cc
no_receipt (suc (suc m)) (x ∷ past) e later is = cc

-- their digests differ
distinct : Distinct node_of_sealed (sent_in w)
distinct = distinct_two node_of_sealed opened authorised (λ e. cc)

-- no path leads to the second entry, whose number is 1
fails : ¬ (Holds node_of_sealed (row_of posts) (sent_in w) (sent_in w) k2_body)
fails holds =
    elim (holds authorised (1, omega arith, refl) refl) [
      | inl first ↦ cc
      | inr (inl next) ↦ no_path node_of_sealed (sent_in w) next.0 refl authorised next.2
      | inr (inr none) ↦ none
    ]

-- a machine that doesn't name its own last entry breaks the rule on chains
pub naming_none_of_its_own_fails : FailsAtSome IsHonestUnchained k2_body
naming_none_of_its_own_fails = (
  posts,
  w,
  record {
    supervisor = refl;
    sendings = λ m. each_sent (AsAsked m) (history w m) (as_asked m);
    receipts = λ m past e later is. absurd (no_receipt m past e later is);
  },
  distinct,
  fails,
)
