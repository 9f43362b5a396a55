-- The events of a world, each once, and the steps that make them.
use Rattle.polling_world.proofs.Imports.{[], All-map, AllByRecursion, ap, append-nil, append_assoc, AreRanked, arith}
use Rattle.polling_world.proofs.Imports.{bytes_eq, bytes_eq-Decides, cases_lt, Contains, Contains-append_cases}
use Rattle.polling_world.proofs.Imports.{Contains-append_left, Contains-append_right, Contains-get_or, Contains-head}
use Rattle.polling_world.proofs.Imports.{Contains-later, Contains-none, entry_of, Event, false, false_from_ne_true}
use Rattle.polling_world.proofs.Imports.{get_or, greatest_push, greatest_stamp, has_placed, held, history, in_world}
use Rattle.polling_world.proofs.Imports.{inl, inr, IsDistinct, IsDistinct-cons, IsDistinct-from_apart, IsEventOf, kind}
use Rattle.polling_world.proofs.Imports.{length, length-append, length-take-le, List, map, map-append, max, Node}
use Rattle.polling_world.proofs.Imports.{placed, placed_cases, placed_of, PlacedEvent, ranked_step, ranked_steps}
use Rattle.polling_world.proofs.Imports.{RankedStep, recursion_from_All, refl, sort_key, step_of, subst, suc, sym, take}
use Rattle.polling_world.proofs.Imports.{take_more, World, zero, ℕ, ◌++◌, ◌+◌, ◌<◌, ◌∙◌, ◌∷◌, ◌≡◌, ◌≢◌}

-- ---- no two of one rank

module _ {T : Type 0} where
  -- each has another rank than all later ones
  abbrev IsOnce : List (PlacedEvent T) → Type 0
  IsOnce [] = Unit {0}
  IsOnce (x ∷ xs) = ((y : PlacedEvent T) → Contains xs y → sort_key x ≢ sort_key y) × IsOnce xs

  -- two lists of which none of the one has a rank of the other
  once_append : (xs ys : List (PlacedEvent T)) → IsOnce xs → IsOnce ys →
      ((x y : PlacedEvent T) → Contains xs x → Contains ys y → sort_key x ≢ sort_key y) → IsOnce (xs ++ ys)
  once_append [] ys a b differ = b
  once_append (x ∷ xs) ys a b differ = (
    λ y c. elim (Contains-append_cases xs ys y c)
        [ inl h ↦ a.0 y h | inr h ↦ differ x y (Contains-head x xs) h ],
    once_append xs ys a.1 b (λ u v cu cv. differ u v (Contains-later x xs u cu) cv),
  )

  -- a rank is none of these where it is found to differ from each
  none_of : (x : PlacedEvent T) (xs : List (PlacedEvent T)) →
      ((y : PlacedEvent T) → Contains xs y → sort_key x ≢ sort_key y) →
      AllByRecursion (λ r. bytes_eq (sort_key x) r ≡ false) (map sort_key xs)
  none_of x xs differ =
      recursion_from_All (λ r. bytes_eq (sort_key x) r ≡ false) (map sort_key xs)
      (All-map (λ r. bytes_eq (sort_key x) r ≡ false) sort_key xs (λ k d within.
      false_from_ne_true (bytes_eq (sort_key x) (sort_key (get_or xs k d)))
      (λ t. differ (get_or xs k d) (Contains-get_or xs k d within) ((bytes_eq-Decides (sort_key x)
      (sort_key (get_or xs k d))).0 t))))

  -- the ranks differ
  distinct_ranks : (xs : List (PlacedEvent T)) → IsOnce xs → IsDistinct bytes_eq (map sort_key xs)
  distinct_ranks [] once = IsDistinct-from_apart bytes_eq [] (λ i j d less within. absurd (omega arith))
  distinct_ranks (x ∷ xs) once =
      IsDistinct-cons bytes_eq (sort_key x) (map sort_key xs) (none_of x xs once.0) (distinct_ranks xs once.1)

module _ {T : Type 0} (node : T → Node) where
  -- ---- the events of one machine

  -- one event more is ranked after the others
  ranked_push : (m : ℕ) (before h : List (Event T)) (x : Event T) →
      ranked_steps node m before (h ++ x ∷ [])
      ≡ ranked_steps node m before h ++ ranked_step node (placed node m (before ++ h) x) ∷ []
  ranked_push m before [] x = ap (λ p. ranked_step node (placed node m p x) ∷ []) (sym (append-nil before))
  ranked_push m before (y ∷ h) x =
      ap (λ rs. ranked_step node (placed node m before y) ∷ rs)
      (ranked_push m (before ++ y ∷ []) h x ∙ ap (λ p. ranked_steps node m (before ++ y ∷ []) h
      ++ ranked_step node (placed node m p x) ∷ []) (append_assoc before (y ∷ []) h))

  -- ranked are the events that are placed
  ranked_placed : (m : ℕ) (before h : List (Event T)) →
      ranked_steps node m before h ≡ map (ranked_step node) (placed_of node m before h)
  ranked_placed m before [] = refl
  ranked_placed m before (x ∷ h) =
      ap (λ rs. ranked_step node (placed node m before x) ∷ rs) (ranked_placed m (before ++ x ∷ []) h)

  -- no two events of a history have one rank
  placed_once : (m : ℕ) (before h : List (Event T)) → IsOnce (placed_of node m before h)
  placed_once m before [] = tt
  placed_once m before (x ∷ h) = (
    λ y c same.
        let (earlier, _, _, is) = placed_cases node m (before ++ x ∷ []) h y c in
        let place : y.place ≡ length ((before ++ x ∷ []) ++ earlier) = ap (λ u. u.place) is in
        let one : length before ≡ y.place = cc in
        absurd (omega (arith, length-append (before ++ x ∷ []) earlier, length-append before (x ∷ []))),
    placed_once m (before ++ x ∷ []) h,
  )

  -- the step of one event more
  pub steps_more : (m : ℕ) (old : List RankedStep) (h : List (Event T)) (i : ℕ) (x : Event T)
      (ranked : List RankedStep) (clock : ℕ) → i < length h → x ≡ get_or h i x →
      ranked ≡ old ++ ranked_steps node m [] (take i h) → clock ≡ greatest_stamp node (held (take (i + 1) h)) →
      ranked ++ record { rank = clock ∷ kind x ∷ m ∷ i ∷ []; step = step_of node m x } ∷ []
      ≡ old ++ ranked_steps node m [] (take (i + 1) h)
  steps_more m old h i x ranked clock within at is clocked =
      let p = take i h in
      let more : take (i + 1) h ≡ p ++ x ∷ [] = take_more h i x within ∙ ap (λ y. p ++ y ∷ []) (sym at) in
      let this : record { rank = clock ∷ kind x ∷ m ∷ i ∷ []; step = step_of node m x }
      ≡ ranked_step node (placed node m p x) =
      λ k. record {
        rank = (clocked ∙ ap (λ q. greatest_stamp node (held q)) more) k ∷ kind x ∷ m
            ∷ sym (length-take-le i h (omega arith)) k ∷ [];
        step = step_of node m x;
      } in
      rw (is, more, ranked_push m [] p x, ← this) (append_assoc old (ranked_steps node m [] p) _)

  -- the greatest stamp with one event more
  pub clock_more : (h : List (Event T)) (i : ℕ) (x : Event T) (clock : ℕ) → i < length h → x ≡ get_or h i x →
      clock ≡ greatest_stamp node (held (take i h)) →
      max clock (node (entry_of x)).stamp ≡ greatest_stamp node (held (take (i + 1) h))
  clock_more h i x clock within at is =
      let more : take (i + 1) h ≡ take i h ++ x ∷ [] =
      take_more h i x within ∙ ap (λ y. take i h ++ y ∷ []) (sym at) in
      ap (λ c. max c (node (entry_of x)).stamp) is ∙ sym (greatest_push node (take i h) x)
      ∙ ap (λ q. greatest_stamp node (held q)) (sym more)

  -- ---- the events of all machines

  module _ (w : World T) where
    -- the events of the first machines, a machine after the other
    abbrev pub events_to : ℕ → List (PlacedEvent T)
    events_to zero = []
    events_to (suc m) = events_to m ++ placed_of node m [] (history w m)

    -- each is an event of one of these machines
    events_to_cases : (n : ℕ) (x : PlacedEvent T) → Contains (events_to n) x → IsEventOf node w x × (x.machine < n)
    events_to_cases zero x c = absurd (Contains-none x c)
    events_to_cases (suc m) x c =
        elim (Contains-append_cases (events_to m) (placed_of node m [] (history w m)) x c) [
          | inl h ↦ let r = events_to_cases m x h in (r.0, (let l = r.1 in omega arith))
          | inr h ↦
              let (b, l, split, is) = placed_cases node m [] (history w m) x h in
              let mine : x.machine ≡ m = ap (λ u. u.machine) is in
              ((b, l, ap (history w) mine ∙ split, is ∙ ap (λ k. placed node k b x.event) (sym mine)), omega arith)
        ]

    -- no two have one rank
    events_once : (n : ℕ) → IsOnce (events_to n)
    events_once zero = tt
    events_once (suc m) =
        once_append (events_to m) (placed_of node m [] (history w m)) (events_once m) (placed_once m [] (history w m))
        (λ x y cx cy same.
        let below = (events_to_cases m x cx).1 in
        let mine : y.machine ≡ m = ap (λ u. u.machine) (placed_cases node m [] (history w m) y cy).3 in
        let one : x.machine ≡ y.machine = cc in
        absurd (omega arith))

    -- a history's events are among them
    events_kept : (n m : ℕ) (x : PlacedEvent T) → m < n → Contains (placed_of node m [] (history w m)) x →
        Contains (events_to n) x
    events_kept zero m x l c = absurd (omega arith)
    events_kept (suc n) m x l c =
        elim (cases_lt m n) [
          | inl less ↦ Contains-append_left (events_to n) (placed_of node n [] (history w n)) x
              (events_kept n m x less c)
          | inr more ↦
              let same : m ≡ n = omega arith in
              Contains-append_right (events_to n) (placed_of node n [] (history w n)) x
              (subst (λ (k : ℕ). Contains (placed_of node k [] (history w k)) x) same c)
        ]

    -- and so is every event of the world
    events_all : (x : PlacedEvent T) → IsEventOf node w x → Contains (events_to (length w)) x
    events_all x (b, l, is, at) =
        events_kept (length w) x.machine x (in_world w x.machine b x.event l is)
        (rw is (subst (Contains (placed_of node x.machine [] (b ++ x.event ∷ l))) (sym at)
        (has_placed node x.machine [] b x.event l)))

    -- the steps of all machines' events
    pub ranked_all : (n : ℕ) (ranked : List RankedStep) → n ≡ length w →
        ranked ≡ map (ranked_step node) (events_to n) → AreRanked node w ranked
    ranked_all n ranked all is = record {
      xs = events_to (length w);
      are = is ∙ ap (λ k. map (ranked_step node) (events_to k)) all;
      events = λ x. (λ c. (events_to_cases (length w) x c).0, events_all x);
      once = distinct_ranks (events_to (length w)) (events_once (length w));
    }

    -- the steps of one machine's events more
    pub ranked_more : (m : ℕ) (h : List (Event T)) (old ranked : List RankedStep) → history w m ≡ h →
        old ≡ map (ranked_step node) (events_to m) → ranked ≡ old ++ ranked_steps node m [] h →
        ranked ≡ map (ranked_step node) (events_to (m + 1))
    ranked_more m h old ranked here is more =
        let next : m + 1 ≡ suc m = omega arith in
        rw (next, map-append, here, more, is, ranked_placed m [] h)
