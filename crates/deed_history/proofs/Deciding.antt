-- Tests that decide what entries say, and so which cause is the first.
use Rattle.entry_format.specs.declared.deed.How.TheVariants as word
use Rattle.deed_history.specs.Deeds.{Authorises, Commits, Ends, Overrides}
use Rattle.deed_history.specs.Held.{HasEnded, HoldsOwn, HoldsSome}
use Rattle.entry_format.specs.declared.deed.Deed.{Deed, TheVariants.Activate, TheVariants.Authorise}
use Rattle.entry_format.specs.declared.deed.Deed.TheVariants.{Cancel, Cast, Challenge, Closed, Commit, Opened, Override}
use Rattle.entry_format.specs.declared.{deed.How.How, entry.Entry.Entry}
use Rattle.item_list.specs.Causes.{IsFirstOf, tests_of}
use Rattle.std.proofs.Common.{[], ap, Bool, false, inl, inr, List, not, refl, true, ℕ, ◌&&◌, ◌==◌, ◌∷◌, ◌≡◌}
use Rattle.std.proofs.lemmas.Bool.Decides.{Decides-and, Decides-eqb, Decides-not}
use Rattle.std.proofs.lemmas.{List.Folds.Any-from_list_any, List.Folds.list_any-from_Any, Slice.Eq.bytes_eq-Decides}
use Rattle.std.specs.{Bool.Decides, List.list_any, Prelude.Any, Prelude.Err, Prelude.Ok, Prelude.Result, Str.bytes_eq}

-- where a test decides a sentence of each member, one decides whether it holds of any
pub any_decides : {X : Type 0} (p : X → Bool) (P : X → Type 0) → ((x : X) → Decides (p x) (P x)) → (xs : List X)
    → Decides (list_any p xs) (Any P xs)
any_decides p P each xs = (
  λ yes. let (i, x, within, at, passes) = Any-from_list_any p xs yes in (i, x, within, at, (each x).0 passes),
  λ (i, x, within, at, holds). list_any-from_Any p xs (i, x, within, at, (each x).1 holds),
)

-- an entry with such a deed is held
pub holds_decides : (p : Deed → Bool) (P : Deed → Type 0) → ((deed : Deed) → Decides (p deed) (P deed))
    → (entries : List Entry) → Decides (list_any (λ entry. p entry.deed) entries) (HoldsSome entries P)
holds_decides p P each entries =
    any_decides (λ (entry : Entry). p entry.deed) (λ (entry : Entry). P entry.deed) (λ entry. each entry.deed) entries

-- an own one is held
abbrev pub holds_own : ℕ → (Deed → Bool) → List Entry → Bool
holds_own owner p entries = list_any (λ entry. (entry.maker == owner) && p entry.deed) entries

-- where a test of deeds decides a sentence, one decides whether an own entry with such a deed is
-- held
pub own_decides : (owner : ℕ) (p : Deed → Bool) (P : Deed → Type 0) → ((deed : Deed) → Decides (p deed) (P deed))
    → (entries : List Entry) → Decides (holds_own owner p entries) (HoldsOwn owner entries P)
own_decides owner p P each entries =
    any_decides (λ (entry : Entry). (entry.maker == owner) && p entry.deed)
    (λ (entry : Entry). (entry.maker ≡ owner) × P entry.deed)
    (λ entry. Decides-and (entry.maker == owner) (p entry.deed) (Decides-eqb entry.maker owner) (each entry.deed))
    entries

-- two numbers, and a number and a digest
number_and_digest : (session s : ℕ) (ballot x : List ℕ)
    → Decides ((session == s) && bytes_eq ballot x) ((session ≡ s) × (ballot ≡ x))
number_and_digest session s ballot x =
    Decides-and (session == s) (bytes_eq ballot x) (Decides-eqb session s) (bytes_eq-Decides ballot x)

-- whether the deed is an opening
abbrev pub is_opened : Deed → Bool
is_opened Opened = true
is_opened _ = false

-- `is_opened` decides whether a deed is Opened
pub opened_decides : (deed : Deed) → Decides (is_opened deed) (deed ≡ Opened)
opened_decides Opened = (λ yes. refl, λ is. refl)
opened_decides _ = (λ yes. cc, λ is. cc)

-- whether the deed is a closing
abbrev pub is_closed : Deed → Bool
is_closed Closed = true
is_closed _ = false

-- `is_closed` decides whether a deed is Closed
pub closed_decides : (deed : Deed) → Decides (is_closed deed) (deed ≡ Closed)
closed_decides Closed = (λ yes. refl, λ is. refl)
closed_decides _ = (λ yes. cc, λ is. cc)

-- whether the deed authorises the session, at whichever booth
abbrev pub authorises : ℕ → Deed → Bool
authorises session (Authorise booth s) = s == session
authorises session _ = false

-- `authorises` decides whether a deed authorises a session
pub authorises_decides : (session : ℕ) (deed : Deed) → Decides (authorises session deed) (Authorises session deed)
authorises_decides session (Authorise booth s) =
    let same = Decides-eqb s session in
    (λ yes. (booth, ap (λ n. Authorise booth n) (same.0 yes)), λ is. same.1 (cc (is.1)))
authorises_decides session _ = (λ yes. cc, λ is. cc (is.1))

-- whether the deed authorises the session at this booth
abbrev pub authorises_booth : ℕ → ℕ → Deed → Bool
authorises_booth booth session (Authorise b s) = (b == booth) && (s == session)
authorises_booth booth session _ = false

-- `authorises_booth` decides whether a deed authorises this booth for this session
pub authorises_booth_decides : (booth session : ℕ) (deed : Deed)
    → Decides (authorises_booth booth session deed) (deed ≡ Authorise booth session)
authorises_booth_decides booth session (Authorise b s) =
    let same = Decides-and (b == booth) (s == session) (Decides-eqb b booth) (Decides-eqb s session) in
    (λ yes. let both = same.0 yes in cc (both.0, both.1), λ is. same.1 (cc, cc))
authorises_booth_decides booth session _ = (λ yes. cc, λ is. cc)

-- whether the deed overrides the session, with whichever word
abbrev pub overrides : ℕ → Deed → Bool
overrides session (Override s how) = s == session
overrides session _ = false

-- `overrides` decides whether a deed overrides a session
pub overrides_decides : (session : ℕ) (deed : Deed) → Decides (overrides session deed) (Overrides session deed)
overrides_decides session (Override s how) =
    let same = Decides-eqb s session in
    (λ yes. (how, ap (λ n. Override n how) (same.0 yes)), λ is. same.1 (cc (is.1)))
overrides_decides session _ = (λ yes. cc, λ is. cc (is.1))

-- two words
abbrev pub is_word : How → How → Bool
is_word word.Cancel word.Cancel = true
is_word word.Cancel word.Cast = false
is_word word.Cast word.Cancel = false
is_word word.Cast word.Cast = true

-- the test decides whether they are one
pub word_decides : (one other : How) → Decides (is_word one other) (one ≡ other)
word_decides word.Cancel word.Cancel = (λ yes. refl, λ is. refl)
word_decides word.Cancel word.Cast = (λ yes. cc, λ is. cc)
word_decides word.Cast word.Cancel = (λ yes. cc, λ is. cc)
word_decides word.Cast word.Cast = (λ yes. refl, λ is. refl)

-- whether the deed overrides the session with this word
abbrev pub overrides_by : ℕ → How → Deed → Bool
overrides_by session how (Override s h) = (s == session) && is_word h how
overrides_by session how _ = false

-- `overrides_by` decides whether a deed overrides a session in this way
pub overrides_by_decides : (session : ℕ) (how : How) (deed : Deed)
    → Decides (overrides_by session how deed) (deed ≡ Override session how)
overrides_by_decides session how (Override s h) =
    let same = Decides-and (s == session) (is_word h how) (Decides-eqb s session) (word_decides h how) in
    (λ yes. let both = same.0 yes in cc (both.0, both.1), λ is. same.1 (cc, cc))
overrides_by_decides session how _ = (λ yes. cc, λ is. cc)

-- whether the deed activates the session
abbrev pub activates : ℕ → Deed → Bool
activates session (Activate s) = s == session
activates session _ = false

-- `activates` decides whether a deed activates a session
pub activates_decides : (session : ℕ) (deed : Deed) → Decides (activates session deed) (deed ≡ Activate session)
activates_decides session (Activate s) =
    let same = Decides-eqb s session in
    (λ yes. ap Activate (same.0 yes), λ is. same.1 (cc))
activates_decides session _ = (λ yes. cc, λ is. cc)

-- whether the deed commits to a ballot in the session
abbrev pub commits : ℕ → Deed → Bool
commits session (Commit s ballot) = s == session
commits session _ = false

-- `commits` decides whether a deed commits in a session
pub commits_decides : (session : ℕ) (deed : Deed) → Decides (commits session deed) (Commits session deed)
commits_decides session (Commit s ballot) =
    let same = Decides-eqb s session in
    (λ yes. (ballot, ap (λ n. Commit n ballot) (same.0 yes)), λ is. same.1 (cc (is.1)))
commits_decides session _ = (λ yes. cc, λ is. cc (is.1))

-- whether the deed commits to this ballot in the session
abbrev pub commits_to : ℕ → List ℕ → Deed → Bool
commits_to session ballot (Commit s x) = (s == session) && bytes_eq x ballot
commits_to session ballot _ = false

-- `commits_to` decides whether a deed commits to this ballot in this session
pub commits_to_decides : (session : ℕ) (ballot : List ℕ) (deed : Deed)
    → Decides (commits_to session ballot deed) (deed ≡ Commit session ballot)
commits_to_decides session ballot (Commit s x) =
    let same = number_and_digest s session x ballot in
    (λ yes. let both = same.0 yes in cc (both.0, both.1), λ is. same.1 (cc, cc))
commits_to_decides session ballot _ = (λ yes. cc, λ is. cc)

-- whether the deed ends the session
abbrev pub ends : ℕ → Deed → Bool
ends session (Cast s ballot) = s == session
ends session (Cancel s) = s == session
ends session (Challenge s ballot) = s == session
ends session _ = false

-- `ends` decides whether a deed ends a session: a Cast, a Cancel and a Challenge of it do
pub ends_decides : (session : ℕ) (deed : Deed) → Decides (ends session deed) (Ends session deed)
ends_decides session (Cast s ballot) =
    let (same, passes) = Decides-eqb s session in (
      λ yes. inl (ballot, ap (λ n. Cast n ballot) (same yes)),
      λ is. passes
          (elim is [ inl (_, cast) ↦ cc cast | inr (inl cancel) ↦ cc | inr (inr (_, challenge)) ↦ cc challenge ]),
    )
ends_decides session (Cancel s) =
    let (same, passes) = Decides-eqb s session in (
      λ yes. inr (inl (ap Cancel (same yes))),
      λ is. passes
          (elim is [ inl (_, cast) ↦ cc cast | inr (inl cancel) ↦ cc | inr (inr (_, challenge)) ↦ cc challenge ]),
    )
ends_decides session (Challenge s ballot) =
    let (same, passes) = Decides-eqb s session in (
      λ yes. inr (inr (ballot, ap (λ n. Challenge n ballot) (same yes))),
      λ is. passes
          (elim is [ inl (_, cast) ↦ cc cast | inr (inl cancel) ↦ cc | inr (inr (_, challenge)) ↦ cc challenge ]),
    )
ends_decides session _ = (
  λ yes. cc,
  λ is. elim is [ inl (_, cast) ↦ cc cast | inr (inl cancel) ↦ cc | inr (inr (_, challenge)) ↦ cc challenge ],
)

-- whether some entry ends the session
abbrev pub has_ended : List Entry → ℕ → Bool
has_ended entries session = list_any (λ entry. ends session entry.deed) entries

-- `has_ended` decides whether a session has ended
pub ended_decides : (entries : List Entry) (session : ℕ)
    → Decides (has_ended entries session) (HasEnded entries session)
ended_decides entries session = holds_decides (ends session) (Ends session) (ends_decides session) entries

-- a sentence with a test that decides it
abbrev pub Decided : Type 0 → Type 0
Decided A = (test : Bool) × Decides test A

-- a test of deeds decides whether an entry with such a deed is held
pub some_is : (p : Deed → Bool) (P : Deed → Type 0) → ((deed : Deed) → Decides (p deed) (P deed)) →
    (entries : List Entry) → Decided (HoldsSome entries P)
some_is p P each entries = (list_any (λ entry. p entry.deed) entries, holds_decides p P each entries)

-- a test of deeds decides whether an own one is held
pub own_is : (owner : ℕ) (p : Deed → Bool) (P : Deed → Type 0) → ((deed : Deed) → Decides (p deed) (P deed)) →
    (entries : List Entry) → Decided (HoldsOwn owner entries P)
own_is owner p P each entries = (holds_own owner p entries, own_decides owner p P each entries)

-- where a sentence is decided, so is its negation
abbrev pub not_is : {A : Type 0} → Decided A → Decided (A → ⊥)
not_is (test, is) = (not test, Decides-not test is)

-- where two sentences are decided, so is that both hold
abbrev pub both_are : {A B : Type 0} → Decided A → Decided B → Decided (A × B)
both_are (test, is) (other, also) = (test && other, Decides-and test other is also)

-- each cause of a row is decided
abbrev pub AreDecided : {Cause : Type 0} → List (Type 0 × Cause) → Type 0
AreDecided [] = Unit {0}
AreDecided (cause ∷ row) = Decided cause.0 × AreDecided row

-- of such a row one answer is the first
pub first_decided : {Cause : Type 0} (row : List (Type 0 × Cause)) → AreDecided row →
    (answer : Result (Unit {0}) Cause) × IsFirstOf row answer
first_decided [] tests = (Ok tt, refl)
first_decided ((applies, cause) ∷ row) ((true, is), tests) = (Err cause, inl (is.0 refl, refl))
first_decided ((applies, cause) ∷ row) ((false, is), tests) =
    let (answer, first) = first_decided row tests in (answer, inr (λ a. cc (is.1 a), first))

-- the tests of such a row
abbrev pub tests_in : {Cause : Type 0} (row : List (Type 0 × Cause)) → AreDecided row → List (Bool × Cause)
tests_in [] tests = []
tests_in (cause ∷ row) ((test, is), tests) = (test, cause.1) ∷ tests_in row tests

-- the first test that is true gives the first cause that applies
pub first_by : {Cause : Type 0} (row : List (Type 0 × Cause)) (tests : AreDecided row)
    (answer : Result (Unit {0}) Cause) → IsFirstOf (tests_of (tests_in row tests)) answer → IsFirstOf row answer
first_by [] tests answer first = first
first_by (cause ∷ row) ((test, is), tests) answer (inl (holds, told)) = inl (is.0 holds, told)
first_by (cause ∷ row) ((test, is), tests) answer (inr (fails, later)) =
    inr (λ applies. fails (is.1 applies), first_by row tests answer later)
