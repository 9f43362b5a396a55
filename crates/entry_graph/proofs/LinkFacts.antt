-- Links by the table of places.
use Rattle.entry_graph.proofs.Imports.{[], AllPairs, ap, AreLinks, ArePlaces, arith, Bool, bytes_eq, bytes_eq-Decides}
use Rattle.entry_graph.proofs.Imports.{cases_lt, cases_order, cond, cons_option, Contains, Contains-cons_cases}
use Rattle.entry_graph.proofs.Imports.{Contains-head, Contains-later, Contains-none, false, false_from_ne_true}
use Rattle.entry_graph.proofs.Imports.{filter_map, filter_map-append, gaps, gaps_are_unique, get_or}
use Rattle.entry_graph.proofs.Imports.{get_or_from_slice_get, HasNoDigestTwice, inl, inr, is_none, IsBorneIn, IsLower}
use Rattle.entry_graph.proofs.Imports.{length, length-map, Links, links_by, links_of, List, list_any, list_any_of}
use Rattle.entry_graph.proofs.Imports.{list_any_some, map, member_at, Names, NamesLower, NamesNoGap, Node, None}
use Rattle.entry_graph.proofs.Imports.{none-some, number_at, Option, option_map, parents_in, parents_of, place_in}
use Rattle.entry_graph.proofs.Imports.{place_of, position_from, ragged_in, ragged_of, refl, same_Some, slice_get}
use Rattle.entry_graph.proofs.Imports.{slice_get-map, slice_get_past, slice_get_within, Some, subst, suc, sym, take}
use Rattle.entry_graph.proofs.Imports.{taken_more, true, true≢false, with_next, zero, ℕ, ◌++◌, ◌+◌, ◌<◌, ◌↔◌, ◌∙◌, ◌∷◌}
use Rattle.entry_graph.proofs.{Imports.◌≡◌, Imports.◌≤◌, Places.any_push, Places.one_place}

-- the links by the first names and one more
pub next_links : (place : List ℕ → Option ℕ) (names : List (List ℕ)) (i : ℕ) (name : List ℕ) (links : Links)
    → i < length names → name ≡ get_or names i name → links ≡ links_by place (take i names)
    → with_next links (place name) ≡ links_by place (take (i + 1) names)
next_links place names i name links within is before =
    let earlier = take i names in
    let more : links_by place (earlier ++ name ∷ []) ≡ with_next (links_by place earlier) (place name) =
    λ k. record {
      parents = filter_map-append place earlier (name ∷ []) k;
      ragged = any_push (λ d. is_none (place d)) earlier name k;
    } in
    ap (λ (l : Links). with_next l (place name)) before
    ∙ sym (ap (links_by place) (taken_more names i name within is) ∙ more)

-- a place among those of the names is that of one of them
pub place_named : (place : List ℕ → Option ℕ) (names : List (List ℕ)) (p : ℕ) → Contains (filter_map place names) p
    → (d : List ℕ) × Contains names d × (place d ≡ Some p)
place_named place [] p c = absurd (Contains-none p c)
place_named place (name ∷ names) p c = by (place_named place names p) (place name) refl c
  where
    -- by the place of the first
    by : (Contains (filter_map place names) p → (d : List ℕ) × Contains names d × (place d ≡ Some p))
        → (o : Option ℕ) → place name ≡ o → Contains (cons_option o (filter_map place names)) p
        → (d : List ℕ) × Contains (name ∷ names) d × (place d ≡ Some p)
    by later None is c = let (d, named, at) = later c in (d, Contains-later name names d named, at)
    by later (Some q) is c = elim (Contains-cons_cases q (filter_map place names) p c) [
      | inl same ↦ (name, Contains-head name names, is ∙ ap (λ (n : ℕ). Some n) same)
      | inr rest ↦ let (d, named, at) = later rest in (d, Contains-later name names d named, at)
    ]

-- and the place of each name is among them
pub named_place : (place : List ℕ → Option ℕ) (names : List (List ℕ)) (d : List ℕ) (p : ℕ) → Contains names d
    → place d ≡ Some p → Contains (filter_map place names) p
named_place place [] d p c is = absurd (Contains-none d c)
named_place place (name ∷ names) d p c is = elim (Contains-cons_cases name names d c) [
  | inl same ↦
      subst (λ (o : Option ℕ). Contains (cons_option o (filter_map place names)) p) (sym (ap place same ∙ is))
      (Contains-head p (filter_map place names))
  | inr rest ↦ behind (place name) (named_place place names d p rest is)
]
  where
    -- it stays among them behind another place
    behind : (o : Option ℕ) → Contains (filter_map place names) p
        → Contains (cons_option o (filter_map place names)) p
    behind None c = c
    behind (Some q) c = Contains-later q (filter_map place names) p c

-- the first element that passes is found at its place
pub found_first : {X : Type 0} (test : X → Bool) (xs : List X) (n i : ℕ) (x : X) → slice_get xs i ≡ Some x
    → test x ≡ true → ((j : ℕ) (y : X) → slice_get xs j ≡ Some y → test y ≡ true → j ≡ i)
    → position_from test n xs ≡ Some (n + i)
found_first test [] n i x at passes one = absurd (none-some x at)
found_first test (y ∷ xs) n zero x at passes one =
    let here : test y ≡ true = ap test (same_Some y x at) ∙ passes in
    ap (λ b. cond b (Some n) (position_from test (n + 1) xs)) here ∙ ap (λ m. Some m) (omega arith)
found_first test (y ∷ xs) n (suc i) x at passes one =
    let not_here : test y ≡ false = false_from_ne_true (test y) (λ t. let no = one zero y refl t in omega arith) in
    ap (λ b. cond b (Some n) (position_from test (n + 1) xs)) not_here
    ∙ found_first test xs (n + 1) i x at passes (λ j z jz t. let same = one (suc j) z jz t in omega arith)
    ∙ ap (λ m. Some m) (omega arith)

-- and where none passes, none is found
pub found_none : {X : Type 0} (test : X → Bool) (xs : List X) (n : ℕ)
    → ((j : ℕ) (y : X) → slice_get xs j ≡ Some y → test y ≡ true → ⊥) → position_from test n xs ≡ None
found_none test [] n none = refl
found_none test (y ∷ xs) n none =
    ap (λ b. cond b (Some n) (position_from test (n + 1) xs)) (false_from_ne_true (test y) (none zero y refl))
    ∙ found_none test xs (n + 1) (λ j z jz. none (suc j) z jz)

-- there is a link for each entry
pub one_link_each : {T : Type 0} (node : T → Node) (S : List T) (links : List Links) → AreLinks node S links
    → length links ≡ length S
one_link_each node S links are =
    ap length are.in_order ∙ length-map S (λ e. links_by (place_in node S) (node e).names)

-- within the list there is an element
within_not_none : {X : Type 0} (xs : List X) (i : ℕ) → i < length xs → slice_get xs i ≡ None → ⊥
within_not_none [] i l is = absurd (omega arith)
within_not_none (x ∷ xs) zero l is = none-some x (sym is)
within_not_none (x ∷ xs) (suc i) l is = within_not_none xs i (omega arith) is

-- no entry has a digest that the table lacks
pub lacks_borne : {T : Type 0} (node : T → Node) (S : List T) (table : List (List ℕ × ℕ)) (d : List ℕ)
    → ArePlaces node S table → number_at table d ≡ None → IsBorneIn node S d → ⊥
lacks_borne node S table d places none (f, c, is) =
    let p = place_of S f c in
    places.lacks d p.0 none (f, p.1, is)

-- where nothing is found, and where something is
none_from : (o : Option ℕ) → is_none o ≡ true → o ≡ None
none_from None t = refl
none_from (Some n) t = absurd (true≢false (sym t))

-- what isn't none is a number
found_from : (o : Option ℕ) → (o ≡ None → ⊥) → (n : ℕ) × (o ≡ Some n)
found_from None some = absurd (some refl)
found_from (Some n) some = (n, refl)

-- the test for none passes on none
none_of : (o : Option ℕ) → o ≡ None → is_none o ≡ true
none_of o is = ap is_none is

module _ {T : Type 0} (node : T → Node) (S : List T) (table : List (List ℕ × ℕ)) (links : List Links)
    (single : HasNoDigestTwice node S) (numbered : AllPairs (IsLower node) S) (falling : NamesLower node S)
    (places : ArePlaces node S table) (linked : links ≡ links_of node table S) where
  -- the place of a digest by the table
  abbrev place : List ℕ → Option ℕ
  place = number_at table

  -- a link for each
  one_each : length links ≡ length S
  one_each = ap length linked ∙ length-map S (λ e. links_by place (node e).names)

  -- the links at a place
  linked_at : (i : ℕ) (e : T) → slice_get S i ≡ Some e → slice_get links i ≡ Some (links_by place (node e).names)
  linked_at i e ie =
      let f : T → Links = λ e. links_by place (node e).names in
      ap (λ ls. slice_get ls i) linked ∙ slice_get-map f S i ∙ ap (option_map f) ie

  -- a parent is the place of an entry that is named
  arrow_at : (i p : ℕ) (e : T) → slice_get S i ≡ Some e → Contains (parents_of links i) p
      → (f : T) × (slice_get S p ≡ Some f) × Names node e f
  arrow_at i p e ie c =
      let (d, named, found) = place_named place (node e).names p
      (subst (λ ps. Contains ps p) (ap parents_in (linked_at i e ie)) c) in
      let (f, at_p, same) = places.found d p found in
      (f, at_p, subst (λ d. Contains (node e).names d) (sym same) named)

  -- past the end there is none
  arrow_cases : (i p : ℕ) → Contains (parents_of links i) p
      → (e : T) × (f : T) × (slice_get S i ≡ Some e) × (slice_get S p ≡ Some f) × Names node e f
  arrow_cases i p c = by (slice_get S i) refl
    where
      -- by whether a survivor is at the place: where none is, there are no links and so no parents
      by : (o : Option T) → slice_get S i ≡ o
          → (e : T) × (f : T) × (slice_get S i ≡ Some e) × (slice_get S p ≡ Some f) × Names node e f
      by (Some e) is = let (f, at_p, names) = arrow_at i p e is c in (e, f, is, at_p, names)
      by None is =
          let past : length links ≤ i =
          elim (cases_lt i (length links)) [
            | inl l ↦
                absurd (within_not_none S i (omega (arith, one_each)) is)
            | inr l ↦ l
          ] in
          absurd (Contains-none p
          (subst (λ ps. Contains ps p) (ap parents_in (slice_get_past links i past)) c))

  -- where one entry names another, the other's place is a parent
  arrow_from : (i p : ℕ) (e f : T) → slice_get S i ≡ Some e → slice_get S p ≡ Some f → Names node e f
      → Contains (parents_of links i) p
  arrow_from i p e f ie pf names =
      let (n, found) = found_from (place (node f).digest)
      (λ none. places.lacks (node f).digest p none (f, pf, refl)) in
      let (g, at_n, bears) = places.found (node f).digest n found in
      let same : n ≡ p = one_place node S n p g f single at_n pf bears in
      subst (λ ps. Contains ps p) (sym (ap parents_in (linked_at i e ie)))
      (named_place place (node e).names (node f).digest p names (found ∙ ap (λ (k : ℕ). Some k) same))

  -- a parent has a lower stamp, and so a lower place
  descends : (x z : ℕ) → Contains (parents_of links x) z → z < x
  descends x z c =
      let (e, f, at_x, at_z, names) = arrow_cases x z c in
      let down : (node f).stamp < (node e).stamp =
      falling e f (member_at S x e at_x) (member_at S z f at_z) names in
      elim (cases_order z x) [
        | inl same ↦
            (let one : f ≡ e = same_Some f e (sym at_z ∙ ap (slice_get S) same ∙ at_x) in
            let stamps : (node f).stamp ≡ (node e).stamp = ap (λ e. (node e).stamp) one in
            absurd (omega arith))
        | inr (inl l) ↦ l
        | inr (inr l) ↦
            (let up : IsLower node (get_or S x e) (get_or S z e) =
            numbered x z e l (slice_get_within S z f at_z) in
            let up_here : IsLower node e f =
            subst (λ e. IsLower node e f) (get_or_from_slice_get S x e e at_x)
            (subst (λ f. IsLower node (get_or S x e) f) (get_or_from_slice_get S z f e at_z) up) in
            elim up_here [
              | inl stamps ↦ absurd (omega arith)
              | inr (stamps, digests) ↦ absurd (omega arith)
            ])
      ]

  -- the ragged ones are those that name a gap
  gaps_shown : (i : ℕ) (e : T) → slice_get S i ≡ Some e → (ragged_of links i ≡ false) ↔ NamesNoGap node S e
  gaps_shown i e ie =
      let told : ragged_of links i ≡ list_any (λ d. is_none (place d)) (node e).names =
      ap ragged_in (linked_at i e ie) in
      let are = (gaps_are_unique node S (gaps node S)).0 refl in
      let lacking : List ℕ → Bool = λ d. is_none (number_at table d) in (
        λ clean d named gap.
            let known = (are.members d).0 gap in
            let (n, found) = found_from (number_at table d) (λ none.
            true≢false
            (sym (list_any_of lacking (node e).names d named (none_of (number_at table d) none))
            ∙ sym told ∙ clean)) in
            let (f, at_n, bears) = places.found d n found in
            known.1 (f, member_at S n f at_n, bears),
        λ free.
            told
            ∙ false_from_ne_true (list_any lacking (node e).names) (λ t.
            let (d, named, test) = list_any_some lacking (node e).names t in
            let none = none_from (number_at table d) test in
            free d named
            ((are.members d).1
            ((e, member_at S i e ie, named), lacks_borne node S table d places none))),
      )

  -- the table has a digest where the survivors have it
  same_place : (d : List ℕ) → place d ≡ place_in node S d
  same_place d = by (place d) refl
    where
      -- whether an entry has the digest
      bears : T → Bool
      bears e = bytes_eq (node e).digest d

      by : (o : Option ℕ) → place d ≡ o → o ≡ place_in node S d
      by None is =
          sym (found_none bears S 0 (λ j e je t.
          places.lacks d j is (e, je, (bytes_eq-Decides (node e).digest d).0 t)))
      by (Some p) is =
          let (f, at_p, same) = places.found d p is in
          ap (λ n. Some n) (omega arith)
          ∙ sym (found_first bears S 0 p f at_p ((bytes_eq-Decides (node f).digest d).1 same) (λ j e je t.
          one_place node S j p e f single je at_p ((bytes_eq-Decides (node e).digest d).0 t ∙ sym same)))

  -- the links of all survivors are those of the names
  pub links_are_right : AreLinks node S links
  links_are_right = record {
    in_order = linked ∙ ap (λ at. map (λ e. links_by at (node e).names) S) (λ i d. same_place d i);
    arrows = record {
      descends = descends;
      inside = λ i p c. let (_, f, _, at_p, _) = arrow_cases i p c in (f, at_p);
      arrows = λ i p e f ie pf. (
        λ c.
            let (g, at_p, names) = arrow_at i p e ie c in
            let one : g ≡ f = same_Some g f (sym at_p ∙ pf) in
            subst (λ g. Names node e g) one names,
        arrow_from i p e f ie pf,
      );
      gaps_shown = gaps_shown;
    };
  }
