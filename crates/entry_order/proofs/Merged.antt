-- Playing the moments of an orderly world in their order gives its histories again.
use Rattle.entry_order.proofs.Imports
use Imports.{Bool, Contains, Contains-at, Contains-filter, Contains-filter_cases, Contains-head, Contains-later}
use Imports.{Contains-map, Contains-middle, Contains-none, Event, Got, IsEventOf, IsInSortOrder, IsLegal, IsMadeBy}
use Imports.{IsMergedOf, IsOrderly, Less, List, Machine, MayFollow, Node, Option, Ordering, PlacedEvent, Rises, Sent}
use Imports.{Some, Step, World, [], ap, append, append-nil, append_assoc, arith, cases_eq, cases_lt, entry_of, eq-eqb}
use Imports.{eqb-true, false, filter, filter-append, fold-append, get_other, get_same, get_start, greatest_push}
use Imports.{greatest_stamp, happens, hear, held, history, in_world, inl, inr, length, length-append, length_play}
use Imports.{length_start, less, level, map, map-append, member_split, nat_cmp, new_is_free, not_both, nth_of_sent}
use Imports.{play, refl, rises_filter, same_rising, send, sent, slice_cmp, slice_get, sort_key, start, subst, suc, sym}
use Imports.{top_at_least, with_machine, zero, ℕ, ◌++◌, ◌+◌, ◌<◌, ◌==◌, ◌∙◌, ◌∷◌, ◌≡◌, ◌≤◌}
use Rattle.entry_order.proofs.Orders.{was_sent}
use Rattle.entry_order.specs.{Merged.kind, Merged.placed, Merged.step_of, World.history_of}
use Rattle.std.{proofs.Common.leb, proofs.lemmas.Bool.lt-leb, proofs.lemmas.Bool.ne_eqb}
use Rattle.std.{proofs.lemmas.Option.slice_get_past, specs.Ordering.ordering_then}

-- ---- sorted lists

module _ {T : Type 0} where
  -- one event goes before another
  abbrev pub Lower : PlacedEvent T → PlacedEvent T → Type 0
  Lower x y = slice_cmp nat_cmp (sort_key x) (sort_key y) ≡ Less

  -- in a sorted list each event goes before all later ones
  rising : (xs : List (PlacedEvent T)) → IsInSortOrder xs ≡ Rises Lower xs
  rising [] = refl
  rising (x ∷ xs) = ap (λ R. ((y : PlacedEvent T) → Contains xs y → Lower x y) × R) (rising xs)

  -- two sorted lists with the same members are equal
  pub same_sorted : (xs ys : List (PlacedEvent T)) → IsInSortOrder xs → IsInSortOrder ys →
      ((d : PlacedEvent T) → Contains xs d → Contains ys d) →
      ((d : PlacedEvent T) → Contains ys d → Contains xs d) → xs ≡ ys
  same_sorted xs ys a b to from = same_rising Lower (λ x y. not_both (sort_key x) (sort_key y)) xs ys
      (rw rising at a) (rw rising at b) to from

  -- a part of a sorted list is sorted
  filter_sorted : (p : PlacedEvent T → Bool) (xs : List (PlacedEvent T)) → IsInSortOrder xs →
      IsInSortOrder (filter p xs)
  filter_sorted p xs a = rw rising (rises_filter Lower p xs (rw rising at a))

  -- what is lower than a member is before it
  lower_is_before : (d : List (PlacedEvent T)) (x : PlacedEvent T) (r : List (PlacedEvent T)) (y : PlacedEvent T) →
      IsInSortOrder (d ++ x ∷ r) → Contains (d ++ x ∷ r) y → Lower y x → Contains d y
  lower_is_before [] x r y a (zero, h, e) l =
      let m : Lower y y = subst (Lower y) e l in absurd (not_both (sort_key y) (sort_key y) m m)
  lower_is_before [] x r y a (suc k, h, e) l = absurd (not_both (sort_key x) (sort_key y) (a.0 y (k, omega arith, e)) l)
  lower_is_before (z ∷ d) x r y a (zero, h, e) l = Contains-at z d y e
  lower_is_before (z ∷ d) x r y a (suc k, h, e) l =
      Contains-later z d y (lower_is_before d x r y a.1 (k, omega arith, e) l)

  -- the events of one machine, in their order
  abbrev part : ℕ → List (PlacedEvent T) → List (Event T)
  part m xs = map (λ x. x.event) (filter (λ x. x.machine == m) xs)

  -- the events of one machine in two parts of a list
  part_append : (m : ℕ) (xs ys : List (PlacedEvent T)) → part m (xs ++ ys) ≡ part m xs ++ part m ys
  part_append m xs ys = rw (filter-append (λ x. x.machine == m) xs ys, map-append)

  -- an event of the machine is one of them
  part_of_one : (m : ℕ) (x : PlacedEvent T) (rest : List (PlacedEvent T)) → x.machine ≡ m →
      part m (x ∷ rest) ≡ x.event ∷ part m rest
  part_of_one m x rest e = rw (eq-eqb x.machine m e)

  -- another machine's is not
  part_of_other : (m : ℕ) (x : PlacedEvent T) (rest : List (PlacedEvent T)) → (x.machine ≡ m → ⊥) →
      part m (x ∷ rest) ≡ part m rest
  part_of_other m x rest e = rw (ne_eqb x.machine m e)

  -- an event of the list is among its machine's
  Contains-part : (xs : List (PlacedEvent T)) (x : PlacedEvent T) → Contains xs x → Contains (part x.machine xs) x.event
  Contains-part xs x c =
      Contains-map _ _ x (Contains-filter (λ y. y.machine == x.machine) xs x c (eq-eqb x.machine x.machine refl))

-- ---- ranks: they rise along a history, and from an entry's sending to each of its receipts

-- a lower number decides; where the numbers are equal the rest decides
lower : (a b : ℕ) (o : Ordering) → a ≤ b → (a ≡ b → o ≡ Less) → ordering_then (nat_cmp a b) o ≡ Less
lower a b o le rest =
    elim (cases_eq a b) [ inl same ↦ rw (level a b same) (rest same) | inr differ ↦ rw (less a b (omega arith)) ]

module _ {T : Type 0} (node : T → Node) where
  -- what is held more doesn't lower the greatest stamp
  greatest_more : (p q : List (Event T)) → greatest_stamp node (held p) ≤ greatest_stamp node (held (p ++ q))
  greatest_more p q = rw (map-append entry_of p q, fold-append) (top_at_least node _ (held q))

  -- an event that doesn't raise the logical clock was received
  kind_rises : (m : ℕ) (p : List (Event T)) (x y : Event T) (clock : ℕ) → MayFollow node m p y →
      clock ≤ greatest_stamp node (held p) → clock ≡ greatest_stamp node (held (p ++ y ∷ [])) → kind x ≤ kind y
  kind_rises m p x (Sent e) clock may le same = absurd (omega (arith, greatest_push node p (Sent e), may.1.stamp))
  kind_rises m p (Sent d) (Got e) clock may le same = omega arith
  kind_rises m p (Got d) (Got e) clock may le same = omega arith

  -- in a legal history a later event has the higher rank
  later_rank : (m : ℕ) (before : List (Event T)) (x : Event T) (b : List (Event T)) (y : Event T) →
      MayFollow node m (before ++ x ∷ b) y → Lower (placed node m before x) (placed node m (before ++ x ∷ b) y)
  later_rank m before x b y may =
      let p = before ++ x ∷ b in
      let up : greatest_stamp node (held (before ++ x ∷ [])) ≤ greatest_stamp node (held p) =
      rw append_assoc at (greatest_more (before ++ x ∷ []) b) in
      let push = greatest_push node p y in
      let place = length-append before (x ∷ b) in
      lower _ _ _ (omega arith) (λ same. lower _ _ _ (kind_rises m p x y _ may up same)
      (λ _. lower m m _ (omega arith)
      (λ _. lower (length before) (length p) _ (omega arith) (λ is. absurd (omega arith)))))

  -- the receipt of an entry has a higher rank than its sending
  receipt_rank : (s : ℕ) (past : List (Event T)) (e : T) → (node e).stamp ≡ 1 + greatest_stamp node (held past) →
      (m : ℕ) (before : List (Event T)) → Lower (placed node s past (Sent e)) (placed node m before (Got e))
  receipt_rank s past e is m before =
      lower (greatest_stamp node (held (past ++ Sent e ∷ []))) (greatest_stamp node (held (before ++ Got e ∷ []))) _
      (omega (arith, is, greatest_push node past (Sent e), greatest_push node before (Got e)))
      (λ _. refl)

-- ---- the moments of one machine

module _ {T : Type 0} (node : T → Node) where
  -- the events of a history after a beginning, placed
  abbrev pub placed_of : ℕ → List (Event T) → List (Event T) → List (PlacedEvent T)
  placed_of m before [] = []
  placed_of m before (x ∷ h) = placed node m before x ∷ placed_of m (before ++ x ∷ []) h

  -- without their places they are the history
  events_of_placed : (m : ℕ) (before h : List (Event T)) → map (λ x. x.event) (placed_of m before h) ≡ h
  events_of_placed m before [] = refl
  events_of_placed m before (x ∷ h) = ap (λ l. x ∷ l) (events_of_placed m (before ++ x ∷ []) h)

  -- each event of a history is placed
  pub has_placed : (m : ℕ) (before b : List (Event T)) (x : Event T) (l : List (Event T)) →
      Contains (placed_of m before (b ++ x ∷ l)) (placed node m (before ++ b) x)
  has_placed m before [] x l = rw (append-nil before) (Contains-head _ _)
  has_placed m before (c ∷ b) x l =
      Contains-later _ _ _ (rw (append_assoc before (c ∷ []) b) at (has_placed m (before ++ c ∷ []) b x l))

  -- what is placed is an event of the history
  pub placed_cases : (m : ℕ) (before h : List (Event T)) (y : PlacedEvent T) → Contains (placed_of m before h) y →
      (b : List (Event T)) × (l : List (Event T)) × (h ≡ b ++ y.event ∷ l) × (y ≡ placed node m (before ++ b) y.event)
  placed_cases m before [] y c = absurd (Contains-none y c)
  placed_cases m before (x ∷ h) y (zero, k, e) =
      let same : x ≡ y.event = ap (λ u. u.event) e in
      ([], h, ap (λ u. u ∷ h) same, rw (append-nil before) (sym e ∙ ap (placed node m before) same))
  placed_cases m before (x ∷ h) y (suc i, k, e) =
      let (b, l, split, at) = placed_cases m (before ++ x ∷ []) h y (i, omega arith, e) in
      (x ∷ b, l, ap (λ u. x ∷ u) split, at ∙ ap (λ p. placed node m p y.event) (append_assoc before (x ∷ []) b))

  -- the events of a legal history are sorted
  placed_rise : (m : ℕ) (before h : List (Event T)) → IsLegal node m (before ++ h) →
      IsInSortOrder (placed_of m before h)
  placed_rise m before [] legal = tt
  placed_rise m before (x ∷ h) legal = (
    λ y c.
        let (b, l, split, at) = placed_cases m (before ++ x ∷ []) h y c in
        let may = legal (before ++ x ∷ b) y.event l
        (ap (λ u. before ++ x ∷ u) split ∙ sym (append_assoc before (x ∷ b) (y.event ∷ l))) in
        subst (Lower _) (sym (rw (append_assoc before (x ∷ []) b) at at)) (later_rank node m before x b y.event may),
    placed_rise m (before ++ x ∷ []) h (rw (append_assoc before (x ∷ []) h) legal),
  )

  module _ (w : World T) where
    -- an event of the world is placed in its history
    pub event_placed : (y : PlacedEvent T) → IsEventOf node w y →
        Contains (placed_of y.machine [] (history w y.machine)) y
    event_placed y (b, l, split, at) = subst (Contains (placed_of y.machine [] (history w y.machine))) (sym at)
        (rw split (has_placed y.machine [] b y.event l))

    -- what is placed in a history is an event of the world
    pub placed_event : (m : ℕ) (y : PlacedEvent T) → Contains (placed_of m [] (history w m)) y →
        (y.machine ≡ m) × IsEventOf node w y
    placed_event m y c =
        let (b, l, split, at) = placed_cases m [] (history w m) y c in
        let mine : y.machine ≡ m = ap (λ u. u.machine) at in
        (mine, (b, l, ap (history w) mine ∙ split, at ∙ ap (λ n. placed node n b y.event) (sym mine)))

  module _ (w : World T) (orderly : IsOrderly node w) (xs : List (PlacedEvent T)) (merged : IsMergedOf node w xs) where
    -- the events of a machine are its history
    part_is_history : (m : ℕ) → part m xs ≡ history w m
    part_is_history m = ap (map (λ x. x.event)) same ∙ events_of_placed m [] (history w m)
      where
        same : filter (λ x. x.machine == m) xs ≡ placed_of m [] (history w m)
        same = same_sorted (filter (λ x. x.machine == m) xs) (placed_of m [] (history w m))
            (filter_sorted (λ x. x.machine == m) xs merged.sorted) (placed_rise m [] (history w m) (orderly.legal m))
            (λ y c. let (there, mine) = Contains-filter_cases (λ x. x.machine == m) xs y c in
            subst (λ n. Contains (placed_of n [] (history w n)) y) (eqb-true y.machine m mine)
            (event_placed w y ((merged.events y).0 there)))
            (λ y c. let (mine, event) = placed_event w m y c in
            Contains-filter _ xs y ((merged.events y).1 event) (eq-eqb y.machine m mine))

-- ---- playing again

module _ {T : Type 0} (node : T → Node) (next : ℕ → List (Event T) → Option T) (log : ℕ) (w : World T)
    (orderly : IsOrderly node w) (played : IsMadeBy next w) (fits : (m : ℕ) → length (history w m) ≤ log)
    (xs : List (PlacedEvent T)) (merged : IsMergedOf node w xs) where
  -- the step that makes the event
  abbrev step : PlacedEvent T → Step
  step x = step_of node x.machine x.event

  module _ (d : List (PlacedEvent T)) (x : PlacedEvent T) (r : List (PlacedEvent T)) (is : xs ≡ d ++ x ∷ r) where
    -- a machine's history is its events before a place and from it on
    split_history : (m : ℕ) → history w m ≡ part m d ++ part m (x ∷ r)
    split_history m = sym (part_is_history node w orderly xs merged m) ∙ ap (part m) is ∙ part_append m d (x ∷ r)

    -- at the place of its own event
    at_own : (event : Event T) → x.event ≡ event → history w x.machine ≡ part x.machine d ++ event ∷ part x.machine r
    at_own event own = split_history x.machine ∙ rw (part_of_one x.machine x r refl, own)

    -- what is got had been sent before, in this order
    heard_ready : (e : T) → x.event ≡ Got e →
        ((node e).maker < length w) × (slice_get (sent (part (node e).maker d)) (node e).number ≡ Some e)
    heard_ready e got =
        let (b, _, _, at) = (merged.events x).0 (rw is (Contains-middle d x r)) in
        let heard : Contains (history w x.machine) (Got e) =
        rw (at_own (Got e) got) (Contains-middle (part x.machine d) (Got e) (part x.machine r)) in
        let (past, (m, later, sent_then)) = was_sent w e (orderly.heard x.machine e heard) in
        let legal = (orderly.legal m past (Sent e) later sent_then).1 in
        let y = placed node m past (Sent e) in
        let lower : Lower y x = subst (Lower y) (sym (at ∙ ap (placed node x.machine b) got))
        (receipt_rank node m past e legal.stamp x.machine b) in
        let there = subst (λ u. Contains u y) is ((merged.events y).1 (past, later, sent_then, refl)) in
        let earlier = lower_is_before d x r y (subst IsInSortOrder is merged.sorted) there lower in
        let (front, back, parts) = member_split (part m d) (Sent e) (Contains-part d y earlier) in
        let whole : history w m ≡ front ++ Sent e ∷ (back ++ part m (x ∷ r)) =
        cc (split_history m, parts, append_assoc front (Sent e ∷ back) (part m (x ∷ r))) in
        let number = (orderly.legal m front (Sent e) (back ++ part m (x ∷ r)) whole).1.number in
        let found : slice_get (sent (part m d)) (node e).number ≡ Some e =
        cc (parts, number, nth_of_sent front e back) in
        (rw legal.maker (in_world w m past (Sent e) later sent_then), rw legal.maker found)

  -- the machine at this point
  abbrev machine_at : ℕ → List (PlacedEvent T) → Machine T
  machine_at m done = record { history = part m done; stopped = false }

  -- the machines have the histories that the moments done say
  abbrev IsAt : World T → List (PlacedEvent T) → Type 0
  IsAt v done = (m : ℕ) → m < length w → slice_get v m ≡ Some (machine_at m done)

  -- where a step appends the event to its machine, the world is one event further
  grow : (v : World T) (done : List (PlacedEvent T)) (x : PlacedEvent T) (change : Machine T → Machine T) →
      IsAt v done → change (machine_at x.machine done) ≡ append x.event (machine_at x.machine done) →
      IsAt (with_machine x.machine change v) (done ++ x ∷ [])
  grow v done x change at by m l =
      elim (cases_eq m x.machine) [
        | inl e ↦ rw (e, part_append x.machine done (x ∷ []), part_of_one x.machine x [] refl)
            (get_same x.machine change v _ (at x.machine (rw e at l)) ∙ ap Some by)
        | inr e ↦ rw (part_append m done (x ∷ []), part_of_other m x [] (λ s. e (sym s)), append-nil)
            (get_other x.machine m change v e ∙ at m l)
      ]

  -- one placed more is played
  one_by : (v : World T) (done : List (PlacedEvent T)) (x : PlacedEvent T) (rest : List (PlacedEvent T)) →
      xs ≡ done ++ x ∷ rest → IsAt v done → (event : Event T) → x.event ≡ event →
      IsAt (happens node next log v (step_of node x.machine event)) (done ++ x ∷ [])
  one_by v done x rest is at (Sent e) own =
      let now : next x.machine (part x.machine done) ≡ Some e =
      played x.machine (part x.machine done) e (part x.machine rest) (at_own done x rest is (Sent e) own) in
      grow v done x (λ a. send (next x.machine a.history) a) at (rw (now, own))
  one_by v done x rest is at (Got e) own =
      let before = part x.machine done in
      let history_is = at_own done x rest is (Got e) own in
      let may = orderly.legal x.machine before (Got e) (part x.machine rest) history_is in
      let (inside, ready) = heard_ready done x rest is e own in
      let room : leb log (length before) ≡ false = lt-leb log (length before)
      (omega (arith, fits x.machine, ap length history_is, length-append before (Got e ∷ part x.machine rest))) in
      rw (ne_eqb x.machine (node e).maker (λ s. may.1 (sym s)))
      (grow v done x (hear node log (slice_get (sent (history v (node e).maker)) (node e).number)) at
      (rw (at (node e).maker inside, ready, new_is_free node (held before) e may.0, room, own)))

  -- the rest is played from where the world is
  play_from : (rest done : List (PlacedEvent T)) (v : World T) → xs ≡ done ++ rest → IsAt v done →
      IsAt (play node next log v (map step rest)) xs
  play_from [] done v is at = rw (is, append-nil) at
  play_from (x ∷ rest) done v is at =
      play_from rest (done ++ x ∷ []) (happens node next log v (step x))
      (is ∙ sym (append_assoc done (x ∷ []) rest)) (one_by v done x rest is at x.event refl)

  -- so the whole play gives each history
  pub merged_is_played_again : (m : ℕ) → history (play node next log (start (length w)) (map step xs)) m ≡ history w m
  merged_is_played_again m =
      let v = play node next log (start {T = T} (length w)) (map step xs) in
      let n = length_play node next log (start {T = T} (length w)) (map step xs) ∙ length_start T (length w) in
      elim (cases_lt m (length w)) [
        | inl l ↦
            ap history_of (play_from xs [] (start (length w)) refl (λ k less. get_start (length w) k less) m l)
            ∙ part_is_history node w orderly xs merged m
        | inr l ↦ ap history_of (slice_get_past v m (omega arith) ∙ sym (slice_get_past w m l))
      ]
