-- Small polling places: each machine is given its deeds in a list, and sends the next one whenever
-- it acts.
use Rattle.counterexamples.proofs.Imports.{◌≡◌, ℕ, Bool, true, false, cond, List, [], ◌∷◌, ◌++◌, length, get_or, Option}
use Rattle.counterexamples.proofs.Imports.{Some, None, refl, sym, ◌∙◌, append_assoc, append-nil, not, Contains, Deed}
use Rattle.counterexamples.proofs.Imports.{Opened, node_of_sealed, SealedEntry, Event, Sent, Got, Step, held}
use Rattle.counterexamples.proofs.Imports.{made_after, next_made, has_digest, Distinct, IsOrderly, World, start}
use Rattle.counterexamples.proofs.Imports.{sent_in, play, IsLegalNext, no_fork, made_is_lawful, plays_are_made}
use Rattle.counterexamples.proofs.Imports.{was_sent, IsOrderly-play, IsOrderly-start, Post, Role, LeftWhy, IsDeedOf}
use Rattle.counterexamples.proofs.Imports.{role_at, MayInSpiteOf, Trees, HaveOneSupervisor, Holds, row_of, FailsAtSome}
use Rattle.counterexamples.proofs.Imports.{IsHonestBut, history}

-- a machine of the role
abbrev pub machine : Role → Post
machine role = record { name = []; role = role; key = [] }

-- P holds of each sent entry with the events before it
abbrev pub EachSent : (List (Event SealedEntry) → SealedEntry → Type 0) → List (Event SealedEntry) →
    List (Event SealedEntry) → Type 0
EachSent P before [] = Unit {0}
EachSent P before (Sent e ∷ h) = P before e × EachSent P (before ++ Sent e ∷ []) h
EachSent P before (Got e ∷ h) = EachSent P (before ++ Got e ∷ []) h

-- what holds of each entry sent after some events holds of any one of them
sent_from : (P : List (Event SealedEntry) → SealedEntry → Type 0) (before h : List (Event SealedEntry)) →
    EachSent P before h → (past : List (Event SealedEntry)) (e : SealedEntry) (later : List (Event SealedEntry)) →
    h ≡ past ++ Sent e ∷ later → P (before ++ past) e
sent_from P before [] each [] e later is = cc
sent_from P before [] each (y ∷ past) e later is = cc
sent_from P before (Sent f ∷ h) each [] e later is =
    let same : f ≡ e = cc in rw (append-nil, ← same) each.0
sent_from P before (Got f ∷ h) each [] e later is = cc
sent_from P before (Sent f ∷ h) each (y ∷ past) e later is =
    let same : Sent f ≡ y = cc in
    let rest : h ≡ past ++ Sent e ∷ later = cc in
    rw (← same, ← append_assoc before (Sent f ∷ []) past)
    (sent_from P (before ++ Sent f ∷ []) h each.1 past e later rest)
sent_from P before (Got f ∷ h) each (y ∷ past) e later is =
    let same : Got f ≡ y = cc in
    let rest : h ≡ past ++ Sent e ∷ later = cc in
    rw (← same, ← append_assoc before (Got f ∷ []) past)
    (sent_from P (before ++ Got f ∷ []) h each past e later rest)

-- what holds of each sent entry of a history holds of any one, with the events before it
pub each_sent : (P : List (Event SealedEntry) → SealedEntry → Type 0) (h : List (Event SealedEntry)) →
    EachSent P [] h → (past : List (Event SealedEntry)) (e : SealedEntry) (later : List (Event SealedEntry)) →
    h ≡ past ++ Sent e ∷ later → P past e
each_sent P = sent_from P []

-- the n-th entry of machine m, whose digest is its maker and its number
abbrev pub made : List (List Deed) → ℕ → ℕ → ℕ → List (List ℕ) → SealedEntry
made deeds m n stamp names = record {
  entry = record {
    version = 2;
    election = [];
    maker = m;
    number = n;
    stamp = stamp;
    names = names;
    deed = get_or (get_or deeds m []) n Opened;
  };
  signature = [];
  text = [];
  digest = m ∷ n ∷ [];
  key = [];
}

module _ (deeds : List (List Deed)) where
  -- what machine m sends next
  abbrev pub next : ℕ → List (Event SealedEntry) → Option SealedEntry
  next = next_made node_of_sealed (made deeds) (λ m h. true)

  -- it is what a legal history asks
  lawful : IsLegalNext node_of_sealed next
  lawful =
      made_is_lawful node_of_sealed (made deeds)
      (record {
        maker = λ m n s ns. refl;
        number = λ m n s ns. refl;
        stamp = λ m n s ns. refl;
        names = λ m n s ns. refl;
      })
      (λ m h. true)

  -- and its digest is its maker and its number
  digest_is : (m : ℕ) (h : List (Event SealedEntry)) (e : SealedEntry) → next m h ≡ Some e →
      e.digest ≡ e.entry.maker ∷ e.entry.number ∷ []
  digest_is m h e is =
      by (not (has_digest node_of_sealed (held h) (made_after node_of_sealed (made deeds) m h).digest)) is
    where
      -- the same by whether the list has a deed left
      by : (b : Bool) → cond b (Some (made_after node_of_sealed (made deeds) m h)) None ≡ Some e →
          e.digest ≡ e.entry.maker ∷ e.entry.number ∷ []
      by false is = cc
      by true is =
          let same : made_after node_of_sealed (made deeds) m h ≡ e = cc in rw (← same)

  -- what the machines come to by some steps
  abbrev pub place : List Step → World SealedEntry
  place steps = play node_of_sealed next 64 (start (length deeds)) steps

  -- the histories of a small place are legal, and what was got was sent
  pub place_orderly : (steps : List Step) → IsOrderly node_of_sealed (place steps)
  place_orderly steps =
      IsOrderly-play node_of_sealed next 64 lawful (start (length deeds)) steps
      (IsOrderly-start node_of_sealed (length deeds))

  -- two entries with one digest are of one maker and have one number, and so are one
  pub place_distinct : (steps : List Step) → Distinct node_of_sealed (sent_in (place steps))
  place_distinct steps e f ce cf same =
      let first = shown e ce in
      let second = shown f cf in
      let both : e.entry.maker ∷ e.entry.number ∷ [] ≡ f.entry.maker ∷ f.entry.number ∷ [] =
      sym first ∙ same ∙ second in
      let maker : e.entry.maker ≡ f.entry.maker = cc in
      let number : e.entry.number ≡ f.entry.number = cc in
      no_fork node_of_sealed (place steps) (place_orderly steps) e f ce cf maker number
    where
      -- each entry that was sent has its maker and its number for a digest
      shown : (g : SealedEntry) → Contains (sent_in (place steps)) g → g.digest ≡ g.entry.maker ∷ g.entry.number ∷ []
      shown g c =
          let (past, (m, later, is)) = was_sent (place steps) g c in
          digest_is m past g (plays_are_made node_of_sealed next 64 (length deeds) steps m past g later is)

-- each deed is allowed, or there is this cause against it
abbrev pub May : LeftWhy → List Post → ℕ → List (Event SealedEntry) → SealedEntry → Type 0
May why posts m past e =
    IsDeedOf (role_at posts m) e.entry.deed × MayInSpiteOf why (role_at posts m) m past e.entry.deed

-- a small place at which each machine sends what it may, but for this cause, is one at which a rule fails
pub fails_but : (why : LeftWhy) (rule : Trees) (posts : List Post) (deeds : List (List Deed)) (steps : List Step) →
    HaveOneSupervisor posts → ((m : ℕ) → EachSent (May why posts m) [] (history (place deeds steps) m)) →
    ¬ (Holds node_of_sealed (row_of posts) (sent_in (place deeds steps)) (sent_in (place deeds steps)) rule) →
    FailsAtSome (IsHonestBut why) rule
fails_but why rule posts deeds steps supervisor allowed fails = (
  posts,
  place deeds steps,
  record {
    supervisor = supervisor;
    orderly = place_orderly deeds steps;
    allowed = λ m. each_sent (May why posts m) (history (place deeds steps) m) (allowed m);
  },
  place_distinct deeds steps,
  fails,
)
