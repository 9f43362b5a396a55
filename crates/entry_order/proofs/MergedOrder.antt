-- Every world has a merged order: its events, in the ascending order of their keys.
use Rattle.entry_order.proofs.Imports
use Imports.{Contains, Contains-ascending, Contains-ascending_cases, Contains-cons_cases, Contains-flat_map}
use Imports.{Contains-flat_map_cases, Contains-head, Contains-later, Contains-map, Contains-map_cases, Contains-none}
use Imports.{IsAscending, IsEventOf, IsInSortOrder, IsMergedOf, List, Node, PlacedEvent, World}
use Imports.{WorldsHaveOneMergedOrder, [], ap, ascending, ascending_ascending, flat_map, history, in_numbers, in_world}
use Imports.{inl, inr, length, map, numbers, refl, sort_key, subst, sym, ℕ, ◌++◌, ◌∙◌, ◌∷◌, ◌≡◌}
use Rattle.entry_order.proofs.Merged.{event_placed, placed_event, placed_of, same_sorted}
use Rattle.std.proofs.lemmas.List.{get_or_at, take_at}

module _ {T : Type 0} where
  -- events whose keys ascend are sorted
  sorted_by_keys : (xs : List (PlacedEvent T)) → IsAscending (map sort_key xs) → IsInSortOrder xs
  sorted_by_keys [] a = tt
  sorted_by_keys (x ∷ xs) (first, rest) =
      (λ y c. first (sort_key y) (Contains-map sort_key xs y c), sorted_by_keys xs rest)

  -- keys of some events are those of a list of them
  with_keys : (es : List (PlacedEvent T)) (ks : List (List ℕ)) →
      ((k : List ℕ) → Contains ks k → Contains (map sort_key es) k) →
      (xs : List (PlacedEvent T)) × (map sort_key xs ≡ ks) × ((x : PlacedEvent T) → Contains xs x → Contains es x)
  with_keys es [] from = ([], refl, λ x c. absurd (Contains-none x c))
  with_keys es (k ∷ ks) from =
      let (x, given, same) = Contains-map_cases sort_key es k (from k (Contains-head k ks)) in
      let (xs, keys, each) = with_keys es ks (λ c there. from c (Contains-later k ks c there)) in (
        x ∷ xs,
        λ i. same i ∷ keys i,
        λ y c. elim (Contains-cons_cases x xs y c) [ inl e ↦ subst (Contains es) e given | inr l ↦ each y l ],
      )

module _ {T : Type 0} (node : T → Node) where
  module _ (w : World T) where
    -- an event of the world is one by its key
    one_of_a_key : (x y : PlacedEvent T) → IsEventOf node w x → IsEventOf node w y → sort_key x ≡ sort_key y → x ≡ y
    one_of_a_key x y (b, l, hx, px) (c, m, hy, py) same =
        let machines : x.machine ≡ y.machine = cc in
        let places : length b ≡ length c = cc in
        let whole : b ++ x.event ∷ l ≡ c ++ y.event ∷ m = sym hx ∙ ap (history w) machines ∙ hy in
        let before : b ≡ c = cc (take_at b (x.event ∷ l) (length c) places, take_at c (y.event ∷ m) (length c) refl) in
        let event : x.event ≡ y.event =
        cc (get_or_at b x.event l x.event (length c) places, get_or_at c y.event m x.event (length c) refl) in cc

    -- the events of all machines
    abbrev events : List (PlacedEvent T)
    events = flat_map (λ m. placed_of node m [] (history w m)) (numbers (length w))

    -- each of these is an event of the world
    events_cases : (x : PlacedEvent T) → Contains events x → IsEventOf node w x
    events_cases x h =
        let (m, _, c) = Contains-flat_map_cases _ (numbers (length w)) x h in (placed_event node w m x c).1

    -- and so is every event of the world
    events_all : (x : PlacedEvent T) → IsEventOf node w x → Contains events x
    events_all x (b, l, is, at) =
        Contains-flat_map _ _ x.machine x (in_numbers (length w) x.machine (in_world w x.machine b x.event l is))
        (event_placed node w x (b, l, is, at))

    -- its events by key
    merged : (xs : List (PlacedEvent T)) × IsMergedOf node w xs
    merged =
        let keys = map sort_key events in
        let (xs, same, each) = with_keys events (ascending keys) (Contains-ascending_cases keys) in (
          xs,
          record {
            sorted = sorted_by_keys xs (rw same (ascending_ascending keys));
            events = λ x. (
              λ c. events_cases x (each x c),
              λ event.
                  let key = Contains-ascending keys _ (Contains-map sort_key events x (events_all x event)) in
                  let (y, there, is) = Contains-map_cases sort_key xs (sort_key x) (rw same key) in
                  subst (Contains xs) (one_of_a_key y x (events_cases y (each y there)) event is) there,
            );
          },
        )

-- every world has one merged order: two are sorted and have the same members
pub worlds_have_one_merged_order : {T : Type 0} (node : T → Node) → WorldsHaveOneMergedOrder node
worlds_have_one_merged_order node w =
    let (xs, a) = merged node w in (
      xs,
      a,
      λ ys b. same_sorted ys xs b.sorted a.sorted (λ d c. (a.events d).1 ((b.events d).0 c))
          (λ d c. (b.events d).1 ((a.events d).0 c)),
    )
