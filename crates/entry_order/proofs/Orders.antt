-- The two orders are one, in each world whose histories are legal and whose entries were sent
-- before they were got.
use Rattle.entry_order.proofs.Imports
use Imports.{Contains, Contains-append_left, Contains-append_right, Contains-flat_map_cases, Contains-map_cases}
use Imports.{Contains-middle, Contains-none, Distinct, Event, Got, HeldBefore, IsOrderly, IsPath, List, Machine, Names}
use Imports.{Node, Precedes, Sent, World, [], arith, descendant, entry_of, frontier_entry, frontier_or_named}
use Imports.{greatest_stamp, held, history, inl, inr, itself, member_split, nth_split, path_over, place_of, sent}
use Imports.{sent-append, sent_in, stamp_below, suc, zero, ℕ, ◌++◌, ◌+◌, ◌<◌, ◌↔◌, ◌∷◌}
use Rattle.entry_order.specs.{HeldBefore.WasSentAfter, History.IsNext, Receipt.NamesWereHeld, Receipt.StampsRise}
pub use Rattle.entry_order.proofs.Lists.{member_split}

-- ---- what was sent

module _ {T : Type 0} where
  -- an entry that was sent is among those sent
  pub Contains-sent : (h : List (Event T)) (e : T) → Contains h (Sent e) → Contains (sent h) e
  Contains-sent h e c =
      let (p, l, is) = member_split h (Sent e) c in
      rw (is, sent-append p (Sent e ∷ l)) (Contains-middle (sent p) e (sent l))

  -- an entry among those sent was sent
  pub Contains-sent_cases : (h : List (Event T)) (e : T) → Contains (sent h) e → Contains h (Sent e)
  Contains-sent_cases h e c =
      let (i, at) = place_of (sent h) e c in
      let (p, l, is, _) = nth_split h i e at in rw is (Contains-middle p (Sent e) l)

  -- what a machine sent was sent in the world
  pub sent_in_from : (w : World T) (m : ℕ) (e : T) → Contains (history w m) (Sent e) → Contains (sent_in w) e
  sent_in_from [] m e c = absurd (Contains-none (Sent e) c)
  sent_in_from (a ∷ w) zero e c = Contains-append_left (sent a.history) (sent_in w) e (Contains-sent a.history e c)
  sent_in_from (a ∷ w) (suc m) e c = Contains-append_right (sent a.history) (sent_in w) e (sent_in_from w m e c)

  -- what was sent in the world a machine sent
  pub sent_in_cases : (w : World T) (e : T) → Contains (sent_in w) e → (m : ℕ) × Contains (history w m) (Sent e)
  sent_in_cases w e c =
      let (a, at_a, there) = Contains-flat_map_cases (λ (a : Machine T). sent a.history) w e c in
      let (m, at) = place_of w a at_a in (m, rw at (Contains-sent_cases a.history e there))

  -- each entry that was sent was sent after some history
  pub was_sent : (w : World T) (e : T) → Contains (sent_in w) e → (past : List (Event T)) × WasSentAfter w past e
  was_sent w e c =
      let (m, there) = sent_in_cases w e c in
      let (past, later, is) = member_split _ (Sent e) there in (past, (m, later, is))

  -- what was sent after a history was sent
  pub sent_from_after : (w : World T) (past : List (Event T)) (e : T) → WasSentAfter w past e → Contains (sent_in w) e
  sent_from_after w past e (m, later, is) = sent_in_from w m e (rw is (Contains-middle past (Sent e) later))

-- who held g held what g's maker held
pub along : {T : Type 0} (w : World T) (f g e : T) → HeldBefore w f g → HeldBefore w g e → HeldBefore w f e
along w f g e h (itself past s c) = descendant past s c h
along w f g e h (descendant {g = d} past s c i) = descendant past s c (along w f g d h i)

module _ {T : Type 0} (node : T → Node) (w : World T) (orderly : IsOrderly node w) where
  module _ (past : List (Event T)) (e : T) (s : WasSentAfter w past e) where
    -- what a machine held when it sent was sent
    pub held_was_sent : (f : T) → Contains (held past) f → Contains (sent_in w) f
    held_was_sent f c =
        let (x, there, same) = Contains-map_cases entry_of past f c in
        rw same at (of_event x (rw s.2 (Contains-append_left past (Sent e ∷ s.1) x there)))
      where
        of_event : (x : Event T) → Contains (history w s.0) x → Contains (sent_in w) (entry_of x)
        of_event (Sent g) h = sent_in_from w s.0 g h
        of_event (Got g) h = orderly.heard s.0 g h

    -- what a legal history asks of e
    pub next_of : IsNext node s.0 past e
    next_of = (orderly.legal s.0 past (Sent e) s.1 s.2).1

    -- stamps rise from an entry that its maker held
    pub held_lower : (f : T) → Contains (held past) f → (node f).stamp < (node e).stamp
    held_lower f c = omega (arith, stamp_below node (held past) f c, next_of.stamp)

  -- an entry that is held before another has a lower stamp
  pub held_rises : (f e : T) → HeldBefore w f e → (node f).stamp < (node e).stamp
  held_rises f e (itself past s c) = held_lower past e s f c
  held_rises f e (descendant {g = g} past s c h) = omega (arith, held_rises f g h, held_lower past e s g c)

  module _ (distinct : Distinct node (sent_in w)) where
    -- what an entry names, its maker held
    pub named_held : (past : List (Event T)) (e : T) → WasSentAfter w past e → (f : T) → Contains (sent_in w) f →
        Names node e f → Contains (held past) f
    named_held past e s f c n =
        let (g, there, same) = frontier_entry node (held past) (node f).digest (rw (next_of past e s).names at n) in
        rw (distinct g f (held_was_sent past e s g there) c same) at there

    -- stamps rise along names
    pub rises : (f g : T) → Contains (sent_in w) f → Contains (sent_in w) g → Names node g f →
        (node f).stamp < (node g).stamp
    rises f g cf cg n = let (past, s) = was_sent w g cg in held_lower past g s f (named_held past g s f cf n)

    module _ (past : List (Event T)) (e : T) (s : WasSentAfter w past e) where
      -- from each entry that e's maker held there is a path to e: it is in the frontier, or a later
      -- one held names it; by induction on how far the stamp is below the greatest
      covered : (fuel : ℕ) (f : T) → Contains (held past) f → greatest_stamp node (held past) < (node f).stamp + fuel →
          (between : List T) × IsPath node (sent_in w) f between e
      covered zero f c enough = absurd (omega (arith, stamp_below node (held past) f c))
      covered (suc fuel) f c enough =
          elim (frontier_or_named node (held past) f c) [
            | inl free ↦ ([], rw (next_of past e s).names free)
            | inr (g, there, names) ↦
                let cg = held_was_sent past e s g there in
                let up = rises f g (held_was_sent past e s f c) cg names in
                let (between, path) = covered fuel g there (omega arith) in (g ∷ between, (cg, names, path))
          ]

      -- what was held reaches what was sent by a path
      reached : (f : T) → Contains (held past) f → (between : List T) × IsPath node (sent_in w) f between e
      reached f c = covered (greatest_stamp node (held past) + 1) f c (omega arith)

    -- what was held before reaches it too
    path_from_held : (f e : T) → HeldBefore w f e → (between : List T) × IsPath node (sent_in w) f between e
    path_from_held f e (itself past s c) = reached past e s f c
    path_from_held f e (descendant {g = g} past s c h) =
        let (front, to_g) = path_from_held f g h in
        let (back, to_e) = reached past e s g c in
        (front ++ g ∷ back, path_over node (sent_in w) f front g back e to_g (held_was_sent past e s g c) to_e)

    -- what an entry names was held before it
    held_from_name : (f e : T) → Contains (sent_in w) f → Contains (sent_in w) e → Names node e f → HeldBefore w f e
    held_from_name f e cf ce n = let (past, s) = was_sent w e ce in itself past s (named_held past e s f cf n)

    -- and so was each entry on a path to it
    held_from_path : (f : T) (between : List T) (e : T) → Contains (sent_in w) f → Contains (sent_in w) e →
        IsPath node (sent_in w) f between e → HeldBefore w f e
    held_from_path f [] e cf ce n = held_from_name f e cf ce n
    held_from_path f (g ∷ gs) e cf ce (there, names, rest) =
        along w f g e (held_from_name f g cf there names) (held_from_path g gs e there ce rest)

    -- both ways together
    pub one_order : (f e : T) → Contains (sent_in w) f → Contains (sent_in w) e →
        Precedes node (sent_in w) f e ↔ HeldBefore w f e
    one_order f e cf ce = (
      λ (_, _, between, path). held_from_path f between e cf ce path,
      λ h. let (between, path) = path_from_held f e h in (cf, ce, between, path),
    )

-- the law of names
pub names_were_held : {T : Type 0} (node : T → Node) → NamesWereHeld node
names_were_held node w orderly distinct past e s f c n = named_held node w orderly distinct past e s f c n

-- the law of stamps
pub stamps_rise : {T : Type 0} (node : T → Node) → StampsRise node
stamps_rise node w orderly f e h = held_rises node w orderly f e h
