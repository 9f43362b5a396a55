-- Each standard rule holds of entries that an honest polling place sent.
use Rattle.honest_places.proofs.Imports
use Imports.{[], All-contains, All-from_recursion, AllByRecursion, and_from, ap, append_assoc, arith, Authorises}
use Imports.{ballot_of, before_in_completion, Booth, booth_of, bytes_eq, bytes_eq-Decides, Contains, Contains-map}
use Imports.{Contains-middle, Deed, Distinct, element_at, Ends, entries_in, entry_of, eq-eqb, eqb-true, Event, held}
use Imports.{history, Holds, HoldsOwn, honest_entries_agree_in_orderly_worlds, HonestEntriesHaveNoEarlyEnd}
use Imports.{HonestEntriesKeepTheRules, How, inl, inr, is_kind, is_role, is_supervisor, IsDeedOf, IsHonest, IsTrue}
use Imports.{Kind, kind_of, length, List, next_of, no_fork, node_of_sealed, None, nth_split, Option, Overrides, Post}
use Imports.{Precedes, precedes_over, refl, Role, role_at, role_in, row_of, rules, RuleTree, SealedEntry, Sent, sent}
use Imports.{sent_in, session_of, slice_get, Some, SomeHolds, standard_rules, subst, suc, Supervisor, sym, Trees, true}
use Imports.{WereSentIn, World, zero, ℕ, ◌&&◌, ◌++◌, ◌+◌, ◌<◌, ◌==◌, ◌∙◌, ◌∷◌, ◌≡◌, ◌⊎◌}
use Rattle.booth_core.specs.Causes.{HasCommittedTo, IsAuthorised}
use Rattle.deed_history.proofs.Deciding.{activates_decides, authorises_booth_decides, authorises_decides}
use Rattle.deed_history.proofs.Deciding.{commits_decides, commits_to_decides, ends_decides, opened_decides}
use Rattle.honest_places.proofs.Pasts.{allowed, any_asked, before_lower, deed_like, ends_session, held_precedes, IsFree}
use Rattle.honest_places.proofs.Pasts.{kind_ends, may, next_by, none_before_whole, of_kind, one_alone, own_asked}
use Rattle.honest_places.proofs.{Lists.one_passes, Pasts.own_was_held, Pasts.sent_by, Pasts.SentBy}
use Rattle.entry_format.specs.declared.deed.Deed.TheVariants as deed
use Rattle.entry_format.specs.declared.deed.How.TheVariants as how
use Rattle.rule_language.specs.declared.kind.Kind.TheVariants as kind
use Rattle.rule_language.specs.Standard as standard

-- ---- one supervisor, and one end of a session

module _ {posts : List Post} {w : World SealedEntry} (honest : IsHonest posts w) where
  -- two machines with the supervisor's role are one
  one_supervisor : (m n : ℕ) → role_at posts m ≡ Supervisor → role_at posts n ≡ Supervisor → m ≡ n
  one_supervisor m n a b =
      let (first, at, leads) = there (slice_get posts m) a in
      let (other, at', leads') = there (slice_get posts n) b in
      one_passes (λ (p : Post). is_supervisor p.role) posts honest.supervisor m n first other at at' leads leads'
    where
      -- a machine with the supervisor's role is in the roster
      there : (o : Option Post) → role_in o ≡ Supervisor →
          (post : Post) × (o ≡ Some post) × (is_supervisor post.role ≡ true)
      there None role = cc
      there (Some post) role = (post, refl, ap is_supervisor role)

  -- where a supervisor's rules deny such a deed after such a deed of its own, there is one at most
  one_of : (IsSuch : Deed → Type 0) → ((u : SealedEntry) (s : SentBy w u) → IsSuch u.entry.deed →
      (role_at posts u.entry.maker ≡ Supervisor) × (HoldsOwn u.entry.maker (entries_in s.past) IsSuch → ⊥)) →
      (e f : SealedEntry) → Contains (sent_in w) e → Contains (sent_in w) f → IsSuch e.entry.deed →
      IsSuch f.entry.deed → e ≡ f
  one_of IsSuch denied e f ce cf first second =
      let s = sent_by honest e ce in
      let t = sent_by honest f cf in
      let (role, none) = denied e s first in
      let (role', nor) = denied f t second in
      one_alone honest IsSuch e f s t (one_supervisor e.entry.maker f.entry.maker role role') first second none nor

  -- two authorisations of a session are one
  one_authorisation : (n : ℕ) (e f : SealedEntry) → Contains (sent_in w) e → Contains (sent_in w) f →
      Authorises n e.entry.deed → Authorises n f.entry.deed → e ≡ f
  one_authorisation n =
      one_of (Authorises n) (λ u s (b, is).
      let (role, (_, (_, (unused, _)))) = allowed honest Supervisor u s (deed.Authorise b n) is refl in (role, unused))

  module _ (distinct : Distinct node_of_sealed (sent_in w)) where
    -- an authorising of its session that names the entry's maker precedes it
    abbrev AuthorisedBefore : SealedEntry → ℕ → Type 0
    AuthorisedBefore e n =
        (f : SealedEntry) × Precedes node_of_sealed (sent_in w) f e × (f.entry.deed ≡ deed.Authorise e.entry.maker n)

    -- its own commitment to the ballot precedes the entry
    abbrev CommittedBefore : SealedEntry → ℕ → List ℕ → Type 0
    CommittedBefore e n x =
        (f : SealedEntry) × Precedes node_of_sealed (sent_in w) f e
        × ((f.entry.maker ≡ e.entry.maker) × (f.entry.deed ≡ deed.Commit n x))

    -- its own activation of the session that it commits to a ballot precedes a commitment
    activated : (e : SealedEntry) → Contains (sent_in w) e → (n : ℕ) (x : List ℕ) → e.entry.deed ≡ deed.Commit n x →
        (f : SealedEntry) × Precedes node_of_sealed (sent_in w) f e
        × ((f.entry.maker ≡ e.entry.maker) × (f.entry.deed ≡ deed.Activate n))
    activated e ce n x is =
        let s = sent_by honest e ce in
        own_asked honest distinct (activates_decides n) e s ce (allowed honest Booth e s (deed.Commit n x) is refl).1.0

    -- where e's maker committed to a ballot before, it was authorised for the session before
    commitment_authorised : (e : SealedEntry) (n : ℕ) (x : List ℕ) → CommittedBefore e n x → AuthorisedBefore e n
    commitment_authorised e n x (commitment, before, (of_maker, commits)) =
        let (activation, earlier, (of_same, is)) = activated commitment before.0 n x commits in
        let s = sent_by honest activation earlier.0 in
        let (authorising, first, names) =
        any_asked honest distinct (authorises_booth_decides activation.entry.maker n) activation s earlier.0
        (allowed honest Booth activation s (deed.Activate n) is refl).1.0 in
        let later = precedes_over node_of_sealed (sent_in w) activation commitment e earlier before in
        let here = precedes_over node_of_sealed (sent_in w) authorising activation e first later in
        (authorising, here, names ∙ ap (λ m. deed.Authorise m n) (of_same ∙ of_maker))

    -- so it was where it ended the session, which it had not ended before
    end_authorised : (e : SealedEntry) (s : SentBy w e) → Contains (sent_in w) e → (n : ℕ) → Ends n e.entry.deed →
        (HoldsOwn e.entry.maker (entries_in s.past) (Ends n) → ⊥) × AuthorisedBefore e n
    end_authorised e s ce n (inl (x, is)) =
        let (_, (bound, (unended, _))) = allowed honest Booth e s (deed.Cast n x) is refl in
        (unended, commitment_authorised e n x (own_asked honest distinct (commits_to_decides n x) e s ce bound))
    end_authorised e s ce n (inr (inl is)) =
        let (_, (named, (unended, _))) = allowed honest Booth e s (deed.Cancel n) is refl in
        (unended, any_asked honest distinct (authorises_booth_decides e.entry.maker n) e s ce named)
    end_authorised e s ce n (inr (inr (x, is))) =
        let (_, (bound, (unended, _))) = allowed honest Booth e s (deed.Challenge n x) is refl in
        (unended, commitment_authorised e n x (own_asked honest distinct (commits_to_decides n x) e s ce bound))

    -- what ends a session is one entry: it has one authorising, which names one booth
    one_end : (n : ℕ) (e f : SealedEntry) → Contains (sent_in w) e → Contains (sent_in w) f → Ends n e.entry.deed →
        Ends n f.entry.deed → e ≡ f
    one_end n e f ce cf ends ends' =
        let s = sent_by honest e ce in
        let t = sent_by honest f cf in
        let (unended, (first, before, names)) = end_authorised e s ce n ends in
        let (unended', (second, before', names')) = end_authorised f t cf n ends' in
        let same = one_authorisation n first second before.0 before'.0 (e.entry.maker, names) (f.entry.maker, names') in
        let maker : e.entry.maker ≡ f.entry.maker =
        sym (ap booth_of names) ∙ ap (λ (u : SealedEntry). booth_of u.entry.deed) same ∙ ap booth_of names' in
        one_alone honest (Ends n) e f s t maker ends ends' unended unended'

    -- no entry that ends a session precedes its authorising, since one authorising precedes the end,
    -- and a session has no other
    no_early_end : (x z : SealedEntry) → Precedes node_of_sealed (sent_in w) z x → (b n : ℕ) →
        x.entry.deed ≡ deed.Authorise b n → Ends n z.entry.deed → ⊥
    no_early_end x z before b n is ends =
        let (_, (first, earlier, names)) = end_authorised z (sent_by honest z before.0) before.0 n ends in
        let same = one_authorisation n first x earlier.0 before.1 (z.entry.maker, names) (b, is) in
        let at : first.entry.stamp ≡ x.entry.stamp = ap (λ (u : SealedEntry). u.entry.stamp) same in
        let up : first.entry.stamp < x.entry.stamp =
        before_lower honest distinct first x (precedes_over node_of_sealed (sent_in w) first z x earlier before) in
        omega (arith, at, up)

-- ---- the rules

-- both
both : {A B : Type 0} → A → B → A × B
both a b = (a, b)

-- the deed is of the kind
abbrev IsOf : Kind → Deed → Type 0
IsOf k d = IsTrue (is_kind k (kind_of d))

-- a deed of the role is of one of the role's kinds
kind_by_role : (role : Role) (d : Deed) → IsDeedOf role d →
    SomeHolds ((IsTrue (is_role Supervisor role) × (SomeHolds (IsOf kind.Opened d ∷ IsOf kind.Authorise d
    ∷ IsOf kind.Override d ∷ IsOf kind.Forced d ∷ IsOf kind.Closed d ∷ []) × Unit {0}))
    ∷ (IsTrue (is_role Booth role) × (SomeHolds (IsOf kind.Activate d ∷ IsOf kind.Commit d ∷ IsOf kind.Cast d
    ∷ IsOf kind.Cancel d ∷ IsOf kind.Challenge d ∷ []) × Unit {0})) ∷ [])
kind_by_role role (deed.Override session how.Cancel) of = rw of (search rules)
kind_by_role role d of = rw of (search rules)

module _ {posts : List Post} {w : World SealedEntry} (honest : IsHonest posts w)
    (distinct : Distinct node_of_sealed (sent_in w)) (S : List SealedEntry) (were_sent : WereSentIn w S) where
  -- what the rule says of the survivors
  abbrev Rule : Trees → Type 0
  Rule rule = Holds node_of_sealed (row_of posts) S (sent_in w) rule

  -- what a survivor's maker held when it sent it
  sent_of : (e : SealedEntry) → Contains S e → SentBy w e
  sent_of e ce = sent_by honest e (were_sent e ce)

  -- no cause applies against a survivor of a kind
  free : (role : Role) (k : Kind) (e : SealedEntry) (ce : Contains S e) → IsOf k e.entry.deed →
      IsDeedOf role (deed_like k e.entry.deed) →
      (role_at posts e.entry.maker ≡ role)
      × IsFree role e.entry.maker (sent_of e ce).past (deed_like k e.entry.deed)
  free role k e ce ke =
      allowed honest role e (sent_of e ce) (deed_like k e.entry.deed) (of_kind k e.entry.deed ke)

  -- ---- rules of one entry alone

  -- one opening
  rule_o1 : Rule standard.o1_body
  rule_o1 e ce ke f cf kf =
      one_of honest (λ d. d ≡ deed.Opened)
      (λ u s is. let (role, (none, _)) = allowed honest Supervisor u s deed.Opened is refl in (role, none)) e f
      (were_sent e ce) (were_sent f cf) (of_kind kind.Opened e.entry.deed ke) (of_kind kind.Opened f.entry.deed kf)

  -- one closing
  pub rule_p1 : Rule standard.p1_body
  rule_p1 e ce ke f cf kf =
      one_of honest (λ d. d ≡ deed.Closed)
      (λ u s is. let (role, (_, (none, _))) = allowed honest Supervisor u s deed.Closed is refl in (role, none)) e f
      (were_sent e ce) (were_sent f cf) (of_kind kind.Closed e.entry.deed ke) (of_kind kind.Closed f.entry.deed kf)

  -- one authorising of each session
  rule_a2 : Rule standard.a2_body
  rule_a2 e ce ke f cf kf same =
      let sessions = eqb-true (session_of e.entry.deed) (session_of f.entry.deed) same in
      let booth = booth_of e.entry.deed in
      let first = of_kind kind.Authorise e.entry.deed ke ∙ ap (λ n. deed.Authorise booth n) sessions in
      one_authorisation honest (session_of f.entry.deed) e f (were_sent e ce) (were_sent f cf)
      (booth, first) (booth_of f.entry.deed, of_kind kind.Authorise f.entry.deed kf)

  -- two entries of kinds that end a session are one
  ends_once : (k l : Kind) → IsTrue (ends_session k) → IsTrue (ends_session l) → (e : SealedEntry) → Contains S e →
      IsOf k e.entry.deed → (f : SealedEntry) → Contains S f → IsOf l f.entry.deed →
      IsTrue (session_of e.entry.deed == session_of f.entry.deed) → e ≡ f
  ends_once k l one other e ce ke f cf kf same =
      let at = eqb-true (session_of e.entry.deed) (session_of f.entry.deed) same in
      one_end honest distinct (session_of f.entry.deed) e f (were_sent e ce) (were_sent f cf)
      (subst (λ n. Ends n e.entry.deed) at (kind_ends k one e.entry.deed ke)) (kind_ends l other f.entry.deed kf)

  -- so both are of one kind
  one_kind : (k l : Kind) → IsTrue (ends_session k) → IsTrue (ends_session l) → (e : SealedEntry) → Contains S e →
      IsOf k e.entry.deed → (f : SealedEntry) → Contains S f → IsOf l f.entry.deed →
      IsTrue (session_of e.entry.deed == session_of f.entry.deed) → deed_like k e.entry.deed ≡ deed_like l f.entry.deed
  one_kind k l one other e ce ke f cf kf same =
      let deeds = ap (λ (u : SealedEntry). u.entry.deed) (ends_once k l one other e ce ke f cf kf same) in
      cc (of_kind k e.entry.deed ke, of_kind l f.entry.deed kf, deeds)

  -- one ballot a session
  rule_c3 : Rule standard.c3_body
  rule_c3 = ends_once kind.Cast kind.Cast refl refl

  -- a session with a ballot is neither cancelled nor challenged
  rule_c4 : Rule standard.c4_body
  rule_c4 e ce ke = (
    λ f cf kf same. let one = one_kind kind.Cast kind.Cancel refl refl e ce ke f cf kf same in cc,
    (λ f cf kf same. let one = one_kind kind.Cast kind.Challenge refl refl e ce ke f cf kf same in cc, tt),
  )

  -- one challenge a session, which is not cancelled
  rule_c7 : Rule standard.c7_body
  rule_c7 e ce ke = (
    ends_once kind.Challenge kind.Challenge refl refl e ce ke,
    (λ f cf kf same. let one = one_kind kind.Challenge kind.Cancel refl refl e ce ke f cf kf same in cc, tt),
  )

  -- ---- rules that ask for an earlier entry

  -- an opening before each authorising
  rule_o2 : Rule standard.o2_body
  rule_o2 e ce ke =
      let (_, (opened, _)) = free Supervisor kind.Authorise e ce ke refl in
      let (f, before, (_, is)) = own_asked honest distinct opened_decides e (sent_of e ce) (were_sent e ce) opened in
      (f, ap (λ d. is_kind kind.Opened (kind_of d)) is, before, tt)

  -- an authorising of the session for its maker precedes what asks for one
  after_authorising : (e : SealedEntry) (ce : Contains S e) →
      ((IsAuthorised e.entry.maker (entries_in (sent_of e ce).past) (session_of e.entry.deed) → ⊥) → ⊥) →
      (f : SealedEntry) × IsOf kind.Authorise f.entry.deed × Precedes node_of_sealed (sent_in w) f e
      × (IsTrue (session_of f.entry.deed == session_of e.entry.deed)
      × (IsTrue (booth_of f.entry.deed == e.entry.maker) × Unit {0}))
  after_authorising e ce named =
      let n = session_of e.entry.deed in
      let (f, before, is) =
      any_asked honest distinct (authorises_booth_decides e.entry.maker n) e (sent_of e ce) (were_sent e ce) named in
      let session = eq-eqb (session_of f.entry.deed) n (ap session_of is) in
      let booth = eq-eqb (booth_of f.entry.deed) e.entry.maker (ap booth_of is) in
      (f, ap (λ d. is_kind kind.Authorise (kind_of d)) is, before, (session, (booth, tt)))

  -- a booth activates what it is authorised for
  rule_a1 : Rule standard.a1_body
  rule_a1 e ce ke = after_authorising e ce (free Booth kind.Activate e ce ke refl).1.0

  -- a booth cancels what it is authorised for
  rule_c5 : Rule standard.c5_body
  rule_c5 e ce ke = after_authorising e ce (free Booth kind.Cancel e ce ke refl).1.0

  -- a booth commits in a session that it activated
  rule_c1 : Rule standard.c1_body
  rule_c1 e ce ke =
      let n = session_of e.entry.deed in
      let (f, before, (maker, is)) = activated honest distinct e (were_sent e ce) n (ballot_of e.entry.deed)
      (of_kind kind.Commit e.entry.deed ke) in
      let session = eq-eqb (session_of f.entry.deed) n (ap session_of is) in
      let own = eq-eqb f.entry.maker e.entry.maker maker in
      (f, ap (λ d. is_kind kind.Activate (kind_of d)) is, before, (own, (session, tt)))

  -- its maker's commitment to the ballot precedes what asks for one
  after_commitment : (e : SealedEntry) (ce : Contains S e) →
      ((HasCommittedTo e.entry.maker (entries_in (sent_of e ce).past) (session_of e.entry.deed)
      (ballot_of e.entry.deed) → ⊥) → ⊥) →
      (f : SealedEntry) × IsOf kind.Commit f.entry.deed × Precedes node_of_sealed (sent_in w) f e
      × (IsTrue (f.entry.maker == e.entry.maker) × (IsTrue (session_of f.entry.deed == session_of e.entry.deed)
      × (IsTrue (bytes_eq (ballot_of f.entry.deed) (ballot_of e.entry.deed)) × Unit {0})))
  after_commitment e ce bound =
      let n = session_of e.entry.deed in
      let x = ballot_of e.entry.deed in
      let (f, before, (maker, is)) =
      own_asked honest distinct (commits_to_decides n x) e (sent_of e ce) (were_sent e ce) bound in
      let own = eq-eqb f.entry.maker e.entry.maker maker in
      let session = eq-eqb (session_of f.entry.deed) n (ap session_of is) in
      let ballot = (bytes_eq-Decides (ballot_of f.entry.deed) x).1 (ap ballot_of is) in
      (f, ap (λ d. is_kind kind.Commit (kind_of d)) is, before, (own, (session, (ballot, tt))))

  -- a booth casts what it committed to
  rule_c2 : Rule standard.c2_body
  rule_c2 e ce ke = after_commitment e ce (free Booth kind.Cast e ce ke refl).1.0

  -- a booth challenges what it committed to
  rule_c6 : Rule standard.c6_body
  rule_c6 e ce ke = after_commitment e ce (free Booth kind.Challenge e ce ke refl).1.0

  -- an authorising of the session precedes an override of it
  authorised_before : (e : SealedEntry) → Contains S e → (h : How) →
      e.entry.deed ≡ deed.Override (session_of e.entry.deed) h →
      (f : SealedEntry) × IsOf kind.Authorise f.entry.deed × Precedes node_of_sealed (sent_in w) f e
      × IsTrue (session_of f.entry.deed == session_of e.entry.deed)
  authorised_before e ce h is =
      let n = session_of e.entry.deed in
      let (_, (authorised, _)) = allowed honest Supervisor e (sent_of e ce) (deed.Override n h) is refl in
      let (f, before, (_, (booth, of))) =
      own_asked honest distinct (authorises_decides n) e (sent_of e ce) (were_sent e ce) authorised in
      let session = eq-eqb (session_of f.entry.deed) n (ap session_of of) in
      (f, ap (λ d. is_kind kind.Authorise (kind_of d)) of, before, session)

  -- an override that cancels is of an authorised session
  rule_v1 : Rule standard.v1_body
  rule_v1 e ce ke = authorised_before e ce how.Cancel (of_kind kind.Override e.entry.deed ke)

  -- an override that casts is of an authorised session with a commitment
  rule_v4 : Rule standard.v4_body
  rule_v4 e ce ke =
      let n = session_of e.entry.deed in
      let (_, (_, (_, (_, (committed, _))))) = free Supervisor kind.Forced e ce ke refl in
      let (f, before, (ballot, is)) = any_asked honest distinct (commits_decides n) e (sent_of e ce) (were_sent e ce)
      (λ none. committed (refl, none)) in
      let session = eq-eqb (session_of f.entry.deed) n (ap session_of is) in
      let authorised = authorised_before e ce how.Cast (of_kind kind.Forced e.entry.deed ke) in
      (authorised, ((f, ap (λ d. is_kind kind.Commit (kind_of d)) is, before, session), tt))

  -- a session that was authorised before a closing has ended before it
  rule_p3 : Rule standard.p3_body
  rule_p3 e ce ke f cf kf before =
      let n = session_of e.entry.deed in
      let (role, _) = free Supervisor kind.Authorise e ce ke refl in
      let (role', (_, (_, (none_left, _)))) = free Supervisor kind.Closed f cf kf refl in
      let one = one_supervisor honest e.entry.maker f.entry.maker role role' in
      let held = own_was_held honest distinct (λ d. d ≡ deed.Authorise _ n) e f (sent_of e ce) (sent_of f cf) one before
      (of_kind kind.Authorise e.entry.deed ke) in
      let (g, earlier, is_end) = any_asked honest distinct (ends_decides n) f (sent_of f cf) (were_sent f cf)
      (λ running. none_left (_, (n, (held, running)))) in
      let seen = λ (d : Deed) (is : g.entry.deed ≡ d).
      eq-eqb (session_of g.entry.deed) (session_of d) (ap session_of is) in
      let of = λ (k : Kind) (d : Deed) (is : g.entry.deed ≡ d). ap (λ d. is_kind k (kind_of d)) is in
      elim is_end [
        | inl (_, cast) ↦ inl (g, of kind.Cast _ cast, earlier, seen _ cast)
        | inr (inl cancel) ↦ inr (inl (g, of kind.Cancel _ cancel, earlier, seen _ cancel))
        | inr (inr (_, challenge)) ↦ inr (inr (inl (g, of kind.Challenge _ challenge, earlier, seen _ challenge)))
      ]

  -- ---- rules that deny an earlier entry

  -- no authorising after a closing
  rule_p2 : Rule standard.p2_body
  rule_p2 e ce ke (f, kf, before, _) =
      let is = of_kind kind.Closed f.entry.deed kf in
      let t = sent_by honest f before.0 in
      let (role, (_, (unclosed, _))) = free Supervisor kind.Authorise e ce ke refl in
      let (role', _) = allowed honest Supervisor f t deed.Closed is refl in
      unclosed (own_was_held honest distinct (λ d. d ≡ deed.Closed) f e t (sent_of e ce)
      (one_supervisor honest f.entry.maker e.entry.maker role' role) before is)

  -- no ballot after an override that cancels
  rule_v2 : Rule standard.v2_body
  rule_v2 e ce ke (f, kf, before, same) =
      let n = session_of e.entry.deed in
      let (_, (_, (_, (free_of, (_, (whole, _)))))) = free Booth kind.Cast e ce ke refl in
      none_before_whole honest distinct (λ d. d ≡ deed.Override n how.Cancel) e (sent_of e ce) whole free_of f before
      (of_kind kind.Override f.entry.deed kf
      ∙ ap (λ m. deed.Override m how.Cancel) (eqb-true (session_of f.entry.deed) n same))

  -- no ballot after a closing
  rule_p4 : Rule standard.p4_body
  rule_p4 e ce ke (f, kf, before, _) =
      let (_, (_, (_, (_, (unclosed, (whole, _)))))) = free Booth kind.Cast e ce ke refl in
      none_before_whole honest distinct (λ d. d ≡ deed.Closed) e (sent_of e ce) whole unclosed f before
      (of_kind kind.Closed f.entry.deed kf)

  -- no override of its session, whichever word it says, precedes a challenge
  no_override : (e : SealedEntry) → Contains S e → IsOf kind.Challenge e.entry.deed → (f : SealedEntry) →
      Precedes node_of_sealed (sent_in w) f e → (h : How) → f.entry.deed ≡ deed.Override (session_of f.entry.deed) h →
      IsTrue (session_of f.entry.deed == session_of e.entry.deed) → ⊥
  no_override e ce ke f before h is same =
      let (_, (_, (_, (free_of, (_, (whole, _)))))) = free Booth kind.Challenge e ce ke refl in
      none_before_whole honest distinct (Overrides (session_of e.entry.deed)) e (sent_of e ce) whole free_of f before
      (h, is ∙ ap (λ m. deed.Override m h) (eqb-true (session_of f.entry.deed) (session_of e.entry.deed) same))

  -- no challenge after an override
  rule_v3 : Rule standard.v3_body
  rule_v3 e ce ke = (
    λ (f, kf, before, same). no_override e ce ke f before how.Cancel (of_kind kind.Override f.entry.deed kf) same,
    (λ (f, kf, before, same). no_override e ce ke f before how.Cast (of_kind kind.Forced f.entry.deed kf) same, tt),
  )

  -- ---- rules of every entry

  -- each entry is a deed of its maker's role
  rule_m1 : Rule standard.m1_body
  rule_m1 e ce ke =
      kind_by_role (role_at posts e.entry.maker) e.entry.deed (may honest e (sent_of e ce)).of_role

  -- two entries of one maker with one number are one
  rule_k1 : Rule standard.k1_body
  rule_k1 e ce ke f cf kf same =
      no_fork node_of_sealed w honest.orderly e f (were_sent e ce) (were_sent f cf)
      (eqb-true e.entry.maker f.entry.maker same.0) (eqb-true e.entry.number f.entry.number same.1.0)

  -- the entry that its maker sent just before
  sent_before : (e : SealedEntry) (s : SentBy w e) (n : ℕ) → e.entry.number ≡ suc n →
      (f : SealedEntry) × Contains (held s.past) f × (f.entry.maker ≡ e.entry.maker) × (f.entry.number ≡ n)
  sent_before e s n is =
      let next = (next_by honest e s).number in
      let (f, at) = element_at (sent s.past) n (omega (arith, next, is)) in
      let (first, rest, split, count) = nth_split s.past n f at in
      let here : history w e.entry.maker ≡ first ++ Sent f ∷ (rest ++ Sent e ∷ s.later) =
      cc (s.is, append_assoc first (Sent f ∷ rest) (Sent e ∷ s.later)) in
      let before = next_of node_of_sealed w honest.orderly first f (e.entry.maker, rest ++ Sent e ∷ s.later, here) in
      let c = subst (λ (p : List (Event SealedEntry)). Contains p (Sent f)) (sym split)
      (Contains-middle first (Sent f) rest) in
      (f, Contains-map entry_of s.past (Sent f) c, before.maker, before.number ∙ count)

  -- each entry of a maker but its first comes after that maker's entry with the number one less
  rule_k2 : Rule standard.k2_body
  rule_k2 e ce ke = by e.entry.number refl
    where
      -- the same by the entry's number: it is 0, or some entry comes before
      by : (n : ℕ) → e.entry.number ≡ n →
          IsTrue (e.entry.number == 0)
          ⊎ (((f : SealedEntry) × (true ≡ true) × Precedes node_of_sealed (sent_in w) f e
          × IsTrue ((f.entry.maker == e.entry.maker) && (f.entry.number + 1 == e.entry.number))) ⊎ ⊥)
      by zero is = inl (eq-eqb e.entry.number 0 is)
      by (suc n) is =
          let (f, was_held, maker, number) = sent_before e (sent_of e ce) n is in
          let own = eq-eqb f.entry.maker e.entry.maker maker in
          let next = eq-eqb (f.entry.number + 1) e.entry.number (omega (arith, number, is)) in
          let earlier = held_precedes honest distinct e (sent_of e ce) f (were_sent e ce) was_held in
          let both = and_from (f.entry.maker == e.entry.maker) (f.entry.number + 1 == e.entry.number) own next in
          inr (inl (f, refl, earlier, both))

  -- each standard rule holds
  all_rules : AllByRecursion (λ (rule : RuleTree). Rule rule.body) standard_rules
  all_rules =
      let last = both rule_c6 (both rule_c7 (both rule_v3 (both rule_v4 tt))) in
      let chains = both rule_m1 (both rule_k1 (both rule_k2 last)) in
      let closings = both rule_p1 (both rule_p2 (both rule_p3 (both rule_p4 chains))) in
      let overrides = both rule_v1 (both rule_v2 closings) in
      let sessions = both rule_c1 (both rule_c2 (both rule_c3 (both rule_c4 (both rule_c5 overrides)))) in
      both rule_o1 (both rule_o2 (both rule_a1 (both rule_a2 sessions)))

-- each standard rule holds of entries that an honest place sent
pub honest_entries_keep_the_rules : HonestEntriesKeepTheRules
honest_entries_keep_the_rules posts w honest distinct S were_sent rule =
    let P : RuleTree → Type 0 = λ rule. Holds node_of_sealed (row_of posts) S (sent_in w) rule.body in
    All-contains P standard_rules rule (All-from_recursion P standard_rules (all_rules honest distinct S were_sent))

-- what precedes another among some of the entries does so among all that were sent, and so no end of
-- a session precedes an authorising of it
pub honest_entries_have_no_early_end : HonestEntriesHaveNoEarlyEnd
honest_entries_have_no_early_end posts w honest distinct S were_sent x z authorises before same =
    let agree = honest_entries_agree_in_orderly_worlds node_of_sealed w honest.orderly distinct S were_sent in
    let earlier =
    before_in_completion node_of_sealed S (length w) (sent_in w) agree.completed z x before in
    let d = z.entry.deed in
    let never : Ends (session_of d) d → ⊥ =
    λ ends. no_early_end honest distinct x z earlier (booth_of x.entry.deed) (session_of x.entry.deed)
    (of_kind kind.Authorise x.entry.deed (ap (is_kind kind.Authorise) authorises))
    (subst (λ n. Ends n d) same ends) in (
      λ is. never (kind_ends kind.Cast refl d (ap (is_kind kind.Cast) is)),
      λ is. never (kind_ends kind.Cancel refl d (ap (is_kind kind.Cancel) is)),
      λ is. never (kind_ends kind.Challenge refl d (ap (is_kind kind.Challenge) is)),
    )
