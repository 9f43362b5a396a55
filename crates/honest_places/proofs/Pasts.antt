-- What machines of an honest polling place held when they sent, and what their rules then asked for.
use Rattle.honest_places.proofs.Imports
use Imports.{[], Any, ap, arith, ballot_of, Bool, Booth, booth_of, Contains, Contains-map, Contains-map_cases, Decides}
use Imports.{Deed, Distinct, Ends, entries_in, Entry, entry_of, Err, Event, false, held, held_rises, held_was_sent}
use Imports.{HeldBefore, history, HoldsOwn, HoldsSome, inl, inr, is_kind, IsDeedOf, IsFirstOf, IsHonest, IsNext, IsPath}
use Imports.{IsTrue, IsWholeHistory, Kind, kind_of, List, MayAs, named_held, next_of, node_of_sealed, Ok, one_order}
use Imports.{Post, Precedes, refl, Role, role_at, RoleRefuses, SealedEntry, Sent, sent_in, session_of, split_two, subst}
use Imports.{Supervisor, sym, true, was_sent, WasSentAfter, whole_or_not, World, ℕ, ◌++◌, ◌<◌, ◌∙◌, ◌∷◌, ◌≡◌, ◌⊎◌}
use Rattle.deed_history.proofs.Deciding.{holds_decides, own_decides}
use Rattle.entry_order.specs.HeldBefore.{HeldBefore.itself}
use Rattle.entry_format.specs.declared.deed.Deed.TheVariants as deed
use Rattle.entry_format.specs.declared.deed.How.TheVariants as how
use Rattle.rule_language.specs.declared.kind.Kind.TheVariants as kind
use Rattle.supervisor_core.specs.Table as supervisor
use Rattle.booth_core.specs.Table as booth

-- ---- deeds and their kinds

-- the deed of a kind that has the session, the ballot and the booth of d
abbrev pub deed_like : Kind → Deed → Deed
deed_like kind.Any d = d
deed_like kind.Opened d = deed.Opened
deed_like kind.Authorise d = deed.Authorise (booth_of d) (session_of d)
deed_like kind.Override d = deed.Override (session_of d) how.Cancel
deed_like kind.Forced d = deed.Override (session_of d) how.Cast
deed_like kind.Closed d = deed.Closed
deed_like kind.Activate d = deed.Activate (session_of d)
deed_like kind.Commit d = deed.Commit (session_of d) (ballot_of d)
deed_like kind.Cast d = deed.Cast (session_of d) (ballot_of d)
deed_like kind.Cancel d = deed.Cancel (session_of d)
deed_like kind.Challenge d = deed.Challenge (session_of d) (ballot_of d)

-- a deed that a rule sees as of a kind is that one
pub of_kind : (k : Kind) (d : Deed) → IsTrue (is_kind k (kind_of d)) → d ≡ deed_like k d
of_kind kind.Any d h = refl
of_kind k (deed.Override session how.Cancel) h = cc
of_kind k d h = cc

-- whether deeds of the kind end a session
abbrev pub ends_session : Kind → Bool
ends_session kind.Cast = true
ends_session kind.Cancel = true
ends_session kind.Challenge = true
ends_session other = false

-- a deed of such a kind ends its own
pub kind_ends : (k : Kind) → IsTrue (ends_session k) → (d : Deed) → IsTrue (is_kind k (kind_of d)) →
    Ends (session_of d) d
kind_ends kind.Cast ends d h = inl (ballot_of d, of_kind kind.Cast d h)
kind_ends kind.Cancel ends d h = inr (inl (of_kind kind.Cancel d h))
kind_ends kind.Challenge ends d h = inr (inr (ballot_of d, of_kind kind.Challenge d h))
kind_ends k ends d h = cc

-- a deed is one of one role
one_role : (role other : Role) (d : Deed) → IsDeedOf role d → IsDeedOf other d → role ≡ other
one_role role other deed.Opened a b = a ∙ sym b
one_role role other d a b = a ∙ sym b

-- ---- causes that don't apply

-- none of the causes applies
abbrev NoneApplies : {Cause : Type 0} → List (Type 0 × Cause) → Type 0
NoneApplies [] = Unit {0}
NoneApplies (cause ∷ row) = (cause.0 → ⊥) × NoneApplies row

-- so it is where the answer is `Ok`
none_applies : {Cause : Type 0} (row : List (Type 0 × Cause)) → IsFirstOf row (Ok tt) → NoneApplies row
none_applies [] first = tt
none_applies (cause ∷ row) (inl first) = let is : Ok tt ≡ Err cause.1 = first.1 in cc
none_applies (cause ∷ row) (inr rest) = (rest.0, none_applies row rest.1)

-- no cause of the role's table applies to a machine's deed after its past
abbrev pub IsFree : Role → ℕ → List (Event SealedEntry) → Deed → Type 0
IsFree Supervisor m past d = NoneApplies (supervisor.causes_of m (entries_in past) d)
IsFree Booth m past d = NoneApplies (booth.causes_of m (entries_in past) (IsWholeHistory past) d)

-- so it is where the rules of the role give none
is_free : (role : Role) (m : ℕ) (past : List (Event SealedEntry)) (d : Deed) → RoleRefuses role m past d (Ok tt) →
    IsFree role m past d
is_free Supervisor m past d free = none_applies (supervisor.causes_of m (entries_in past) d) free
is_free Booth m past d free = none_applies (booth.causes_of m (entries_in past) (IsWholeHistory past) d) free

-- what isn't denied is so, where a test decides it
sure : {b : Bool} {P : Type 0} → Decides b P → ((P → ⊥) → ⊥) → P
sure {b = true} decides deny = decides.0 refl
sure {b = false} decides deny = absurd (deny (λ p. let both : false ≡ true = decides.1 p in cc))

-- a log is whole where it isn't denied, since a test decides it
pub whole_for_sure : (h : List (Event SealedEntry)) → ((IsWholeHistory h → ⊥) → ⊥) → IsWholeHistory h
whole_for_sure h deny = sure (whole_or_not node_of_sealed (held h)).1 deny

-- ---- what was held

-- e was sent by its maker, after this past
pub record SentBy (w : World SealedEntry) (e : SealedEntry) : Type 0 where
  pub past : List (Event SealedEntry)
  pub later : List (Event SealedEntry)
  -- its maker's history is this past, then e, then the rest
  pub is : history w e.entry.maker ≡ past ++ Sent e ∷ later

-- an entry was sent after all that its maker had held before it
abbrev after : {w : World SealedEntry} (e : SealedEntry) (s : SentBy w e) → WasSentAfter w s.past e
after e s = (e.entry.maker, s.later, s.is)

-- an entry that was held, of which this is so, is one of those that are held
held_any : (P : Entry → Type 0) (h : List (Event SealedEntry)) (f : SealedEntry) → Contains (held h) f → P f.entry →
    Any P (entries_in h)
held_any P h f c p =
    let (k, within, is) = Contains-map (λ (s : SealedEntry). s.entry) (held h) f c in (k, f.entry, within, is, p)

module _ {posts : List Post} {w : World SealedEntry} (honest : IsHonest posts w) where
  -- each entry was sent by its maker
  pub sent_by : (e : SealedEntry) → Contains (sent_in w) e → SentBy w e
  sent_by e c =
      let (past, (m, later, is)) = was_sent w e c in
      let maker : e.entry.maker ≡ m = (next_of node_of_sealed w honest.orderly past e (m, later, is)).maker in
      record { past = past; later = later; is = ap (history w) maker ∙ is }

  -- what a legal history asks of it
  pub next_by : (e : SealedEntry) (s : SentBy w e) → IsNext node_of_sealed e.entry.maker s.past e
  next_by e s = next_of node_of_sealed w honest.orderly s.past e (after e s)

  -- the role of an entry's maker allowed it to send the entry after what it held then
  pub may : (e : SealedEntry) (s : SentBy w e) → MayAs (role_at posts e.entry.maker) e.entry.maker s.past e
  may e s = honest.allowed e.entry.maker s.past e s.later s.is

  -- the maker of a deed has the role whose deed it is, and no cause of the role's table applies
  pub allowed : (role : Role) (e : SealedEntry) (s : SentBy w e) (d : Deed) → e.entry.deed ≡ d → IsDeedOf role d →
      (role_at posts e.entry.maker ≡ role) × IsFree role e.entry.maker s.past d
  allowed role e s d is of =
      let mine = role_at posts e.entry.maker in
      let m = may e s in
      let same : mine ≡ role = one_role mine role d (rw is at m.of_role) of in
      (same, is_free role e.entry.maker s.past d (rw (is, same) at m.no_cause))

  -- what its maker held was sent
  held_too : (e : SealedEntry) (s : SentBy w e) (f : SealedEntry) → Contains (held s.past) f → Contains (sent_in w) f
  held_too e s f c = held_was_sent node_of_sealed w honest.orderly s.past e (after e s) f c

  -- two entries of one maker are one, or one was held when the other was sent
  two_of_one : (e f : SealedEntry) (s : SentBy w e) (t : SentBy w f) → e.entry.maker ≡ f.entry.maker →
      (e ≡ f) ⊎ (Contains (held t.past) e ⊎ Contains (held s.past) f)
  two_of_one e f s t same =
      let sent_same : Sent e ≡ Sent f → e ≡ f = λ u. cc in
      elim (split_two s.past t.past (Sent e) (Sent f) s.later t.later (sym s.is ∙ ap (history w) same ∙ t.is)) [
        | inl u ↦ inl (sent_same u)
        | inr (inl c) ↦ inr (inl (Contains-map entry_of t.past (Sent e) c))
        | inr (inr c) ↦ inr (inr (Contains-map entry_of s.past (Sent f) c))
      ]

  -- where two entries of one maker are such, and neither maker held an own one when it sent, they
  -- are one
  pub one_alone : (IsSuch : Deed → Type 0) (e f : SealedEntry) (s : SentBy w e) (t : SentBy w f) →
      e.entry.maker ≡ f.entry.maker → IsSuch e.entry.deed → IsSuch f.entry.deed →
      (HoldsOwn e.entry.maker (entries_in s.past) IsSuch → ⊥) →
      (HoldsOwn f.entry.maker (entries_in t.past) IsSuch → ⊥) → e ≡ f
  one_alone IsSuch e f s t same first second none nor =
      elim (two_of_one e f s t same) [
        | inl u ↦ u
        | inr (inl c) ↦
            absurd (nor (held_any (λ n. (n.maker ≡ f.entry.maker) × IsSuch n.deed) t.past e c (same, first)))
        | inr (inr c) ↦
            absurd (none (held_any (λ n. (n.maker ≡ e.entry.maker) × IsSuch n.deed) s.past f c (sym same, second)))
      ]

  module _ (distinct : Distinct node_of_sealed (sent_in w)) where
    -- of entries that were sent, to precede is to be held before
    ordered : (f e : SealedEntry) → Precedes node_of_sealed (sent_in w) f e → HeldBefore w f e
    ordered f e p = (one_order node_of_sealed w honest.orderly distinct f e p.0 p.1).0 p

    -- what was held when e was sent precedes it
    pub held_precedes : (e : SealedEntry) (s : SentBy w e) (f : SealedEntry) → Contains (sent_in w) e →
        Contains (held s.past) f → Precedes node_of_sealed (sent_in w) f e
    held_precedes e s f ce c =
        (one_order node_of_sealed w honest.orderly distinct f e (held_too e s f c) ce).1 (itself s.past (after e s) c)

    -- stamps rise from what precedes e to e
    pub before_lower : (f e : SealedEntry) → Precedes node_of_sealed (sent_in w) f e →
        f.entry.stamp < e.entry.stamp
    before_lower f e p = held_rises node_of_sealed w honest.orderly f e (ordered f e p)

    -- an own entry with such a deed that precedes e was held when e was sent
    pub own_was_held : (IsSuch : Deed → Type 0) (f e : SealedEntry) (t : SentBy w f) (s : SentBy w e) →
        f.entry.maker ≡ e.entry.maker → Precedes node_of_sealed (sent_in w) f e → IsSuch f.entry.deed →
        HoldsOwn e.entry.maker (entries_in s.past) IsSuch
    own_was_held IsSuch f e t s same p such =
        let up : f.entry.stamp < e.entry.stamp = before_lower f e p in
        elim (two_of_one f e t s same) [
          | inl u ↦ absurd (let at = ap (λ (x : SealedEntry). x.entry.stamp) u in omega (arith, up, at))
          | inr (inl c) ↦ held_any (λ n. (n.maker ≡ e.entry.maker) × IsSuch n.deed) s.past f c (same, such)
          | inr (inr c) ↦
              absurd (omega (arith, up, held_rises node_of_sealed w honest.orderly e f (itself t.past (after f t) c)))
        ]

    -- whoever held a whole log held each entry that has a path to what it sent
    path_held : (e : SealedEntry) (s : SentBy w e) → IsWholeHistory s.past → (f : SealedEntry) →
        Contains (sent_in w) f →
        (between : List SealedEntry) → IsPath node_of_sealed (sent_in w) f between e → Contains (held s.past) f
    path_held e s whole f c [] path =
        named_held node_of_sealed w honest.orderly distinct s.past e (after e s) f c path
    path_held e s whole f c (g ∷ gs) (sent, names, rest) =
        let last = path_held e s whole g sent gs rest in
        let (named, was_held, same) = whole g (node_of_sealed f).digest last names in
        subst (Contains (held s.past)) (distinct named f (held_too e s named was_held) c same) was_held

    -- no entry with such a deed precedes what is sent over a whole log that holds none
    pub none_before_whole : (IsSuch : Deed → Type 0) (e : SealedEntry) (s : SentBy w e) →
        ((IsWholeHistory s.past → ⊥) → ⊥) → (HoldsSome (entries_in s.past) IsSuch → ⊥) →
        (f : SealedEntry) → Precedes node_of_sealed (sent_in w) f e → IsSuch f.entry.deed → ⊥
    none_before_whole IsSuch e s whole none f (sent, _, between, path) such =
        let sure = whole_for_sure s.past whole in
        none (held_any (λ n. IsSuch n.deed) s.past f (path_held e s sure f sent between path) such)

    -- where it is asked for that one is held of which this is so, one precedes what is sent
    asked : (P : Entry → Type 0) (e : SealedEntry) (s : SentBy w e) → Contains (sent_in w) e → {b : Bool} →
        Decides b (Any P (entries_in s.past)) → ((Any P (entries_in s.past) → ⊥) → ⊥) →
        (f : SealedEntry) × Precedes node_of_sealed (sent_in w) f e × P f.entry
    asked P e s ce decides deny =
        let (k, x, within, is, p) = sure decides deny in
        let (f, was_held, same) = Contains-map_cases (λ (s : SealedEntry). s.entry) (held s.past) x (k, within, is) in
        (f, held_precedes e s f ce was_held, subst P (sym same) p)

    -- where it is asked for that an entry with such a deed is held
    pub any_asked : {test : Deed → Bool} {IsSuch : Deed → Type 0} → ((d : Deed) → Decides (test d) (IsSuch d)) →
        (e : SealedEntry) (s : SentBy w e) → Contains (sent_in w) e →
        ((HoldsSome (entries_in s.past) IsSuch → ⊥) → ⊥) →
        (f : SealedEntry) × Precedes node_of_sealed (sent_in w) f e × IsSuch f.entry.deed
    any_asked {test} {IsSuch} decides e s ce deny =
        asked (λ n. IsSuch n.deed) e s ce (holds_decides test IsSuch decides (entries_in s.past)) deny

    -- where it is asked for that an entry of the maker's own is held
    pub own_asked : {test : Deed → Bool} {IsSuch : Deed → Type 0} → ((d : Deed) → Decides (test d) (IsSuch d)) →
        (e : SealedEntry) (s : SentBy w e) → Contains (sent_in w) e →
        ((HoldsOwn e.entry.maker (entries_in s.past) IsSuch → ⊥) → ⊥) →
        (f : SealedEntry) × Precedes node_of_sealed (sent_in w) f e
        × ((f.entry.maker ≡ e.entry.maker) × IsSuch f.entry.deed)
    own_asked {test} {IsSuch} decides e s ce deny =
        asked (λ n. (n.maker ≡ e.entry.maker) × IsSuch n.deed) e s ce
        (own_decides e.entry.maker test IsSuch decides (entries_in s.past)) deny
