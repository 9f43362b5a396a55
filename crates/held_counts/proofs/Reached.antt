-- What is counted from an entry is what was held before it.
use Rattle.entry_order.proofs.{Forms.to_chain, Histories.nth_split, Lists.Contains-at}
use Rattle.entry_order.proofs.Lists.{Contains-cons_cases, Contains-head, Contains-later, Contains-map, Contains-none}
use Rattle.entry_order.proofs.Machines.{in_world, nth_of_sent}
use Rattle.entry_order.proofs.Orders.{along, Contains-sent_cases, held_lower, held_was_sent, next_of, sent_from_after}
use Rattle.entry_order.proofs.{Orders.was_sent, Places.element_at, Places.member_at, Places.one_at, Stamps.stamp_below}
use Rattle.entry_order.specs.{Forms.HeldItself, Forms.IsChain, HeldBefore.HeldBefore, HeldBefore.HeldBefore.itself}
use Rattle.entry_order.specs.History.{entry_of, greatest_stamp, held, sent}
use Rattle.entry_order.specs.{Node.Node, Receipt.IsOrderly, World.history, World.Machine, World.sent_in, World.World}
use Rattle.entry_order.specs.declared.event.Event.{Event, TheVariants.Got, TheVariants.Sent}
use Rattle.held_counts.specs.Places.{IsSentAt}
use Rattle.held_counts.specs.inside.Counts.{is_held_before, raised, spread, spread_one, spread_times, taken_in}
use Rattle.std.proofs.Common.{[], ap, arith, Bool, cond, false, inl, inr, length, List, refl, replicate, Some, subst}
use Rattle.std.proofs.Common.{suc, sym, true, zero, ℕ, ◌++◌, ◌+◌, ◌-◌, ◌<◌, ◌∙◌, ◌∷◌, ◌≡◌, ◌≤◌, ◌⊎◌}
use Rattle.std.proofs.lemmas.Bool.{and_from, and_parts, cases_eq, eqb-false, eqb-true, le-leb, leb-true, lt-ltb}
use Rattle.std.proofs.lemmas.{Bool.ltb-true, List.get_or-set_other, List.get_or-set_same, List.length-replicate}
use Rattle.std.proofs.lemmas.{List.length-set, Option.slice_get_within}
use Rattle.std.specs.List.{Contains}
use Rattle.std.specs.Prelude.{nat_le, nat_lt, slice_get, slice_index, slice_set, ◌&&◌, ◌==◌, ◌↔◌}

-- ---- one count raised

module _ (c : List ℕ) (m n : ℕ) where
  -- raising a count leaves as many
  raised_length : length (raised c m n) ≡ length c
  raised_length =
      elim (nat_lt m (length c) && nat_le (slice_index c m) n) as
      (λ b. length (cond b (slice_set c m (n + 1)) c) ≡ length c) [ true ↦ length-set c m (n + 1) | false ↦ refl ]

  -- at place a the counts d are as c, and at the maker's place that only where the count was above
  -- the number; or this is the maker's place, where the count was at most that and is one above now
  abbrev IsRaisedAt : ℕ → List ℕ → Type 0
  IsRaisedAt a d =
      ((slice_index d a ≡ slice_index c a) × (a ≡ m → m < length c → n < slice_index c a))
      ⊎ ((a ≡ m) × (slice_index c a ≤ n) × (slice_index d a ≡ n + 1))

  -- so it is at each place of a raised list, whether or not there is such a place
  raised_at : (a : ℕ) → IsRaisedAt a (raised c m n)
  raised_at a = by (nat_lt m (length c) && nat_le (slice_index c m) n) refl
    where
      -- the same by whether there is such a count, and it is at most the number
      by : (b : Bool) → (nat_lt m (length c) && nat_le (slice_index c m) n) ≡ b →
          IsRaisedAt a (cond b (slice_set c m (n + 1)) c)
      by true e = grind (arith, e, cases_eq a m, and_parts, ltb-true, leb-true, get_or-set_same, get_or-set_other)
      by false e = grind (arith, e, and_from, lt-ltb, le-leb)

-- what is counted stays so, whichever count is raised: the Unit asks nothing of maker and number
still_above : (a i : ℕ) (c : List ℕ) (m n : ℕ) → Unit {0} → i < slice_index c a → i < slice_index (raised c m n) a
still_above a i c m n _ l = grind (arith, raised_at c m n a)

-- ---- what a machine held when it sent

module _ {T : Type 0} where
  -- what is before the entry with this number; all of the history where there is no such entry
  abbrev past : List (Event T) → ℕ → List (Event T)
  past [] n = []
  past (Sent e ∷ h) zero = []
  past (Sent e ∷ h) (suc n) = Sent e ∷ past h n
  past (Got e ∷ h) n = Got e ∷ past h n

  -- it is what is before an entry that was sent, which has the number of those sent earlier
  past_of : (p : List (Event T)) (e : T) (l : List (Event T)) → past (p ++ Sent e ∷ l) (length (sent p)) ≡ p
  past_of [] e l = refl
  past_of (Sent g ∷ p) e l = ap (λ u. Sent g ∷ u) (past_of p e l)
  past_of (Got g ∷ p) e l = ap (λ u. Got g ∷ u) (past_of p e l)

  -- after the past of an entry is the entry
  past_at : (h : List (Event T)) (n : ℕ) (x : T) → slice_get (sent h) n ≡ Some x →
      (l : List (Event T)) × (h ≡ past h n ++ Sent x ∷ l) × (length (sent (past h n)) ≡ n)
  past_at h n x e =
      let (p, l, split, count) = nth_split h n x e in
      let is : past h n ≡ p = cc (split, count, past_of p x l) in
      (l, split ∙ ap (λ q. q ++ Sent x ∷ l) (sym is), ap (λ q. length (sent q)) is ∙ count)

  -- what was held at one entry is held at each later one
  past_grows : (h : List (Event T)) (m n : ℕ) (x : T) → m ≤ n → Contains (held (past h m)) x →
      Contains (held (past h n)) x
  past_grows [] m n x le k = k
  past_grows (Sent e ∷ h) zero n x le k = absurd (Contains-none x k)
  past_grows (Sent e ∷ h) (suc m) zero x le k = absurd (omega arith)
  past_grows (Sent e ∷ h) (suc m) (suc n) x le k =
      grind (arith, Contains-cons_cases, Contains-at, Contains-later, past_grows h m n x)
  past_grows (Got e ∷ h) m n x le k =
      grind (arith, Contains-cons_cases, Contains-at, Contains-later, past_grows h m n x)

  -- an entry that was sent is held at each later one
  own_in_past : (h : List (Event T)) (i j : ℕ) (x : T) → slice_get (sent h) i ≡ Some x → i < j →
      Contains (held (past h j)) x
  own_in_past [] i j x e l = cc
  own_in_past (Sent g ∷ h) i zero x e l = absurd (omega arith)
  own_in_past (Sent g ∷ h) zero (suc j) x e l = let same : g ≡ x = cc in Contains-at g (held (past h j)) x same
  own_in_past (Sent g ∷ h) (suc i) (suc j) x e l =
      Contains-later g (held (past h j)) x (own_in_past h i j x e (omega arith))
  own_in_past (Got g ∷ h) i j x e l = Contains-later g (held (past h j)) x (own_in_past h i j x e l)

-- ---- what any counting keeps

-- where nothing is counted, each count is 0
zeros_index : (n a : ℕ) → slice_index (replicate n 0) a ≡ 0
zeros_index zero a = refl
zeros_index (suc n) zero = refl
zeros_index (suc n) (suc a) = zeros_index n a

module _ {T : Type 0} (node : T → Node) (w : World T) where
  -- the counts with all of these entries taken in
  abbrev with_all : List T → List ℕ → List ℕ
  with_all [] c = c
  with_all (x ∷ xs) c = with_all xs (raised c (node x).maker (node x).number)

  -- what is taken in is what the sender held
  taken_in_is : (h : List (Event T)) (n : ℕ) (c : List ℕ) → taken_in node h n c ≡ with_all (held (past h n)) c
  taken_in_is [] n c = refl
  taken_in_is (Sent e ∷ h) zero c = refl
  taken_in_is (Sent e ∷ h) (suc n) c = taken_in_is h n (raised c (node e).maker (node e).number)
  taken_in_is (Got e ∷ h) n c = taken_in_is h n (raised c (node e).maker (node e).number)

  -- these are the machines from this place on
  abbrev IsFrom : ℕ → World T → Type 0
  IsFrom place u = (j : ℕ) → history u j ≡ history w (place + j)

  -- the first of them, and the others
  from_here : (a : Machine T) (u : World T) (place : ℕ) → IsFrom place (a ∷ u) → a.history ≡ history w place
  from_here a u place at = at 0 ∙ ap (history w) (omega arith)

  from_next : (a : Machine T) (u : World T) (place : ℕ) → IsFrom place (a ∷ u) → IsFrom (place + 1) u
  from_next a u place at j = at (suc j) ∙ ap (history w) (omega arith)

  -- R holds after a machine's turn if it held before, where nothing of the machine was counted, and
  -- else if it holds with what the machine held at its last entry that was counted
  turn : (R : List ℕ → Type 0) (a : Machine T) (b : ℕ) (c : List ℕ) → a.history ≡ history w b →
      (slice_index c b ≡ 0 → R c) →
      ((n : ℕ) → slice_index c b ≡ n + 1 → R (with_all (held (past (history w b) n)) c)) → R (spread_one node a b c)
  turn R a b c is none some = by (slice_index c b == 0) refl
    where
      by : (t : Bool) → (slice_index c b == 0) ≡ t → R (cond t c (taken_in node a.history (slice_index c b - 1) c))
      by true s = none (eqb-true (slice_index c b) 0 s)
      by false s =
          let above = eqb-false (slice_index c b) 0 s in
          subst R (sym (taken_in_is a.history _ c ∙ ap (λ h. with_all (held (past h (slice_index c b - 1))) c) is))
          (some (slice_index c b - 1) (omega arith))

  -- P is any predicate that raising keeps where the maker and number have Q, and each entry that
  -- was held at a counted one has Q: so each step of the counting keeps P
  module _ (P : List ℕ → Type 0) (Q : ℕ → ℕ → Type 0)
      (keep : (c : List ℕ) (m n : ℕ) → Q m n → P c → P (raised c m n))
      (reach : (c : List ℕ) (b n : ℕ) → P c → n < slice_index c b → (x : T) →
      Contains (held (past (history w b) n)) x → Q (node x).maker (node x).number) where
    kept_all : (xs : List T) (c : List ℕ) → ((x : T) → Contains xs x → Q (node x).maker (node x).number) → P c →
        P (with_all xs c)
    kept_all [] c each p = p
    kept_all (x ∷ xs) c each p =
        kept_all xs _ (λ y k. each y (Contains-later x xs y k)) (keep c _ _ (each x (Contains-head x xs)) p)

    kept_one : (a : Machine T) (b : ℕ) (c : List ℕ) → a.history ≡ history w b → P c → P (spread_one node a b c)
    kept_one a b c is p =
        turn P a b c is (λ _. p) (λ n count. kept_all _ c (reach c b n p (omega arith)) p)

    kept_spread : (u : World T) (place : ℕ) (c : List ℕ) → IsFrom place u → P c → P (spread node u place c)
    kept_spread [] place c at p = p
    kept_spread (a ∷ u) place c at p =
        kept_spread u (place + 1) _ (from_next a u place at) (kept_one a place c (from_here a u place at) p)

    kept_times : (n : ℕ) (c : List ℕ) → P c → P (spread_times node n w c)
    kept_times zero c p = p
    kept_times (suc n) c p = kept_spread w 0 _ (λ j. ap (history w) (omega arith)) (kept_times n c p)

  module _ (orderly : IsOrderly node w) where
    -- ---- where entries are

    -- the maker and the number of an entry say where it is
    is_own : (a i : ℕ) (x : T) → IsSentAt w a i x → ((node x).maker ≡ a) × ((node x).number ≡ i)
    is_own a i x e =
        let (l, split, count) = past_at (history w a) i x e in
        let n = next_of node w orderly _ x (a, l, split) in
        (n.maker, n.number ∙ count)

    -- each entry that was sent is there, at a machine of the world
    is_there : (x : T) → Contains (sent_in w) x →
        IsSentAt w (node x).maker (node x).number x × ((node x).maker < length w)
    is_there x c =
        let (p, (m, l, split)) = was_sent w x c in
        let n = next_of node w orderly p x (m, l, split) in
        let inside = in_world w m p (Sent x) l split in
        let maker = n.maker in
        (cc (maker, n.number, split, nth_of_sent p x l), omega arith)

    -- what is in the past of an entry was held before the entry
    past_held : (b n : ℕ) (z : T) → IsSentAt w b n z → (x : T) → Contains (held (past (history w b) n)) x →
        IsSentAt w (node x).maker (node x).number x × HeldBefore w x z
    past_held b n z nth x k =
        let (l, split, _) = past_at (history w b) n z nth in
        ((is_there x (held_was_sent node w orderly _ z (b, l, split) x k)).0, itself _ (b, l, split) k)

    -- what an entry's maker held is in the past of the entry
    in_past : (f g : T) (b n : ℕ) → IsSentAt w b n g → HeldItself w f g → Contains (held (past (history w b) n)) f
    in_past f g b n nth (p, (m, l, split), k) =
        let (maker, number) = is_own b n g nth in
        let is_next = next_of node w orderly p g (m, l, split) in
        let is : past (history w b) n ≡ p =
        cc (maker, number, is_next.maker, is_next.number, split, past_of p g l) in
        subst (λ q. Contains (held q) f) (sym is) k

    -- stamps rise along a chain
    chain_stamps : (f : T) (gs : List T) (e : T) → IsChain w f gs e → (node f).stamp + length gs < (node e).stamp
    chain_stamps f [] e (p, s, k) = let l = held_lower node w orderly p e s f k in omega arith
    chain_stamps f (g ∷ gs) e ((p, s, k), rest) =
        let l = held_lower node w orderly p g s f k in let r = chain_stamps g gs e rest in omega arith

    module _ (e : T) where
      -- ---- what is counted was held before

      -- at this place is an entry, and it was held before e
      abbrev WasHeld : ℕ → ℕ → Type 0
      WasHeld m n = (x : T) × IsSentAt w m n x × HeldBefore w x e

      -- there is a count for each machine, and each entry that is counted was held before e
      abbrev IsSound : List ℕ → Type 0
      IsSound c = (length c ≡ length w) × ((a i : ℕ) → i < slice_index c a → WasHeld a i)

      -- with an entry that was held before e, each earlier one of its maker was
      earlier : (m i n : ℕ) → i ≤ n → WasHeld m n → WasHeld m i
      earlier m i n le (z, at, h) =
          let within = slice_get_within _ n z at in
          let (y, there) = element_at (sent (history w m)) i (omega arith) in
          elim (cases_eq i n) [
            | inl s ↦ subst (WasHeld m) (sym s) (z, at, h)
            | inr s ↦ (let k = own_in_past _ i n y there (omega arith) in
                (y, there, along w y z e (past_held m n z at y k).1 h))
          ]

      -- raising the count of such an entry leaves the counts sound
      sound_keep : (c : List ℕ) (m n : ℕ) → WasHeld m n → IsSound c → IsSound (raised c m n)
      sound_keep c m n h (long, good) = (
        raised_length c m n ∙ long,
        λ a i l. elim (raised_at c m n a) [
          | inl (is, _) ↦ good a i (omega arith)
          | inr (same, _, is) ↦ earlier a i n (omega arith) (subst (λ b. WasHeld b n) (sym same) h)
        ],
      )

      -- what the maker of a counted entry held was held before e
      sound_reach : (c : List ℕ) (b n : ℕ) → IsSound c → n < slice_index c b →
          (x : T) → Contains (held (past (history w b) n)) x → WasHeld (node x).maker (node x).number
      sound_reach c b n (long, good) l x k =
          let (z, at, h) = good b n l in
          let (there, before) = past_held b n z at x k in
          (x, there, along w x z e before h)

      -- ---- what was held before is counted

      -- an entry f, whose maker is a machine of the world, so that there is a count for it
      module _ (f : T) (inside : (node f).maker < length w) where
        abbrev IsCounted : List ℕ → Type 0
        IsCounted c = (node f).number < slice_index c (node f).maker

        -- f is counted where it is among the entries taken in
        covers_all : (xs : List T) (c : List ℕ) → length c ≡ length w → Contains xs f → IsCounted (with_all xs c)
        covers_all [] c long k = absurd (Contains-none f k)
        covers_all (x ∷ xs) c long k =
            elim (Contains-cons_cases x xs f k) [
              | inl s ↦ kept_all IsCounted (λ _ _. Unit {0}) (still_above _ _) (λ _ _ _ _ _ _ _. tt) xs _ (λ _ _. tt)
                  (subst (λ u. IsCounted (raised c (node u).maker (node u).number)) (sym s)
                  (grind (arith, raised_at c (node f).maker (node f).number (node f).maker)))
              | inr k ↦ covers_all xs _ (raised_length c _ _ ∙ long) k
            ]

        -- a machine's turn counts it where the machine held it at an entry that is counted
        covers_one : (a : Machine T) (b n : ℕ) (c : List ℕ) → a.history ≡ history w b → length c ≡ length w →
            n < slice_index c b → Contains (held (past (history w b) n)) f → IsCounted (spread_one node a b c)
        covers_one a b n c is long l k =
            turn IsCounted a b c is (λ none. absurd (omega arith))
            (λ m count. covers_all _ c long (past_grows (history w b) n m f (omega arith) k))

        -- a round counts it where any machine did
        covers_spread : (u : World T) (place : ℕ) (c : List ℕ) → IsFrom place u → IsSound c → (b j n : ℕ) →
            b ≡ place + j → n < slice_index c b → Contains (held (past (history u j) n)) f →
            IsCounted (spread node u place c)
        covers_spread [] place c at sound b j n is l k = absurd (Contains-none f k)
        covers_spread (a ∷ u) place c at sound b zero n is l k =
            let here = from_here a u place at in
            kept_spread IsCounted (λ _ _. Unit {0}) (still_above _ _) (λ _ _ _ _ _ _ _. tt) u (place + 1) _
            (from_next a u place at)
            (covers_one a place n c here sound.0 (subst (λ b. n < slice_index c b) (omega arith) l)
            (subst (λ h. Contains (held (past h n)) f) here k))
        covers_spread (a ∷ u) place c at sound b (suc j) n is l k =
            let here = from_here a u place at in
            covers_spread u (place + 1) _ (from_next a u place at)
            (kept_one IsSound WasHeld sound_keep sound_reach a place c here sound) b j n (omega arith)
            (kept_one (λ d. n < slice_index d b) (λ _ _. Unit {0}) (still_above b n) (λ _ _ _ _ _ _ _. tt) a place c
            here l) k

      module _ (b j : ℕ) (nth : IsSentAt w b j e) where
        -- the counts after this number of rounds, of which the first begins with e's own past
        abbrev counts : ℕ → List ℕ
        counts n = spread_times node n w (with_all (held (past (history w b) j)) (replicate (length w) 0))

        -- they are sound
        counts_sound : (n : ℕ) → IsSound (counts n)
        counts_sound n =
            kept_times IsSound WasHeld sound_keep sound_reach n _
            (kept_all IsSound WasHeld sound_keep sound_reach _ _
            (λ x k. let (there, before) = past_held b j e nth x k in (x, there, before))
            (length-replicate (length w) 0, λ a i l. absurd (let z = zeros_index (length w) a in omega arith)))

        -- who is at most n links away is counted after n rounds
        counted : (n : ℕ) (f : T) (gs : List T) → IsChain w f gs e → length gs ≤ n →
            (node f).number < slice_index (counts n) (node f).maker
        counted n f [] (p, s, k) l =
            let inside = (is_there f (held_was_sent node w orderly p e s f k)).1 in
            kept_times (IsCounted f inside) (λ _ _. Unit {0}) (still_above _ _) (λ _ _ _ _ _ _ _. tt) n _
            (covers_all f inside _ _ (length-replicate (length w) 0) (in_past f e b j nth (p, s, k)))
        counted zero f (g ∷ gs) h l = absurd (omega arith)
        counted (suc n) f (g ∷ gs) ((p, s, k), rest) l =
            let inside = (is_there f (held_was_sent node w orderly p g s f k)).1 in
            let (at, _) = is_there g (sent_from_after w p g s) in
            covers_spread f inside w 0 (counts n) (λ i. ap (history w) (omega arith)) (counts_sound n)
            _ _ _ (omega arith) (counted n g gs rest (omega arith)) (in_past f g _ _ at (p, s, k))

        -- as many rounds as e's stamp says are enough, since the stamp rises with each link
        counted_right : (n : ℕ) → (node e).stamp ≤ n → (a i : ℕ) (f : T) → IsSentAt w a i f →
            (i < slice_index (counts n) a) ↔ HeldBefore w f e
        counted_right n enough a i f at = (
          λ l. let (x, there, h) = (counts_sound n).1 a i l in
              subst (λ u. HeldBefore w u e) (one_at (sent (history w a)) i x f there at) h,
          λ h. let (gs, chain) = to_chain w f e h in
              let (maker, number) = is_own a i f at in
              let up = chain_stamps f gs e chain in
              let l = counted n f gs chain (omega arith) in
              let m = ap (slice_index (counts n)) maker in omega arith,
        )

    -- the count says whether the entry was held before
    pub is_held_before_right : (a i b j : ℕ) (f e : T) → IsSentAt w a i f → IsSentAt w b j e →
        (is_held_before node w a i b j ≡ true) ↔ HeldBefore w f e
    is_held_before_right a i b j f e nf ne =
        let n = greatest_stamp node (held (history w b)) in
        let there = Contains-sent_cases (history w b) e (member_at (sent (history w b)) j e ne) in
        let top = stamp_below node (held (history w b)) e (Contains-map entry_of (history w b) (Sent e) there) in
        let right = counted_right e b j ne n top a i f nf in
        let is = ap (λ c. nat_lt i (slice_index (spread_times node n w c) a)) (taken_in_is (history w b) j _) in (
          λ t. right.0 (ltb-true i _ (sym is ∙ t)),
          λ h. is ∙ lt-ltb i _ (right.1 h),
        )
