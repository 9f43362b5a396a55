-- The graph with an appended entry more.
use Rattle.live_auditor.proofs.Imports
use Imports.{[], all_pairs_push, AllPairs, ap, AreForks, AreMissing, AreParents, ArePlaces, AreStrays, arith, ascending}
use Imports.{nat_tests}
use Imports.{ascending_ascending, Bool, bytes_eq, bytes_eq-Decides, cases_Bool, cond, cons_option, Contains}
use Imports.{Contains-append_cases, Contains-append_left, Contains-append_right, Contains-ascending}
use Imports.{Contains-ascending_cases, Contains-filter, Contains-filter_cases, Contains-get_or, Contains-head}
use Imports.{Contains-later, Contains-push, Contains-push_cases, EntryGraph, false, false_from_ne_true, filter, gaps}
use Imports.{gaps_are_unique, get_or, grown, has_digest, has_digest_from, has_digest_of, HasNoDigestTwice}
use Imports.{HasOnePlaceEach, inl, inr, is_none, is_stray, is_stray_from, is_stray_of, IsAppended, IsBorneIn}
use Imports.{IsDistinct, IsDistinct-from_apart, IsFork, IsGaps, IsGraphOfGiven, IsLower, IsNamedIn, IsNew, IsStray}
use Imports.{length, length-append, link_to, Links, links_are_right, links_by, links_of, List, list_any, map, map_push}
use Imports.{member_at, Names, nat_list_eq_equiv, Node, not, number_at, one_place, Option, place_in, position-Some}
use Imports.{position_from, position_from-zero, refl, single_push, slice_get-get_or, Some, stamp_rises, sym, true}
use Imports.{true≢false, ℕ, ◌++◌, ◌+◌, ◌<◌, ◌==◌, ◌||◌, ◌↔◌, ◌∙◌, ◌∷◌, ◌≡◌}

-- ---- places of digests

-- functions that agree on the elements of a list map it to the same
map_same : {X Y : Type 0} (f g : X → Y) (xs : List X) → ((x : X) → Contains xs x → f x ≡ g x) →
    map f xs ≡ map g xs
map_same f g [] same = refl
map_same f g (x ∷ xs) same =
    let rest = map_same f g xs (λ y has. same y (Contains-later x xs y has)) in
    λ k. same x (Contains-head x xs) k ∷ rest k

-- the links are the same where the names have the same places
same_by_names : (at other : List ℕ → Option ℕ) (names : List (List ℕ)) →
    ((d : List ℕ) → Contains names d → at d ≡ other d) → links_by at names ≡ links_by other names
same_by_names at other [] same = refl
same_by_names at other (d ∷ names) same =
    let here = same d (Contains-head d names) in
    let rest = same_by_names at other names (λ c has. same c (Contains-later d names c has)) in
    λ k. record { parents = cons_option (here k) (rest k).parents; ragged = is_none (here k) || (rest k).ragged }

-- some are left of a list exactly if one passes
any_left : {X : Type 0} (test : X → Bool) (xs : List X) → not (length (filter test xs) == 0) ≡ list_any test xs
any_left test [] = refl
any_left test (x ∷ xs) = grind (arith, nat_tests, any_left test xs)

-- one more that doesn't pass changes no place
place_before : {X : Type 0} (test : X → Bool) (xs : List X) (n : ℕ) (x : X) → test x ≡ false →
    position_from test n (xs ++ x ∷ []) ≡ position_from test n xs
place_before test [] n x fails = rw fails
place_before test (y ∷ xs) n x fails = rw (place_before test xs (n + 1) x fails)

-- what is mapped has the places that it had
pub place_mapped : {X Y : Type 0} (f : X → Y) (test : Y → Bool) (n : ℕ) (xs : List X) →
    position_from test n (map f xs) ≡ position_from (λ x. test (f x)) n xs
place_mapped f test n [] = refl
place_mapped f test n (x ∷ xs) = rw (place_mapped f test (n + 1) xs)

-- nothing has a place exactly if nothing passes
none_placed : {X : Type 0} (test : X → Bool) (n : ℕ) (xs : List X) →
    is_none (position_from test n xs) ≡ not (list_any test xs)
none_placed test n [] = refl
none_placed test n (x ∷ xs) = grind (arith, nat_tests, none_placed test (n + 1) xs)

-- where each digest has one place, no two are the same
pub distinct_from : (digests : List (List ℕ)) → HasOnePlaceEach digests → IsDistinct bytes_eq digests
distinct_from digests once =
    IsDistinct-from_apart bytes_eq digests (λ i j d low within.
    let a = get_or digests i d in
    let b = get_or digests j d in
    let here = slice_get-get_or digests i d (omega (arith, low, within)) in
    let there = slice_get-get_or digests j d within in
    grind (arith, here, there, once i j b, (bytes_eq-Decides a b).0))

module _ {T : Type 0} (node : T → Node) where
  -- a digest has no place among entries exactly if none has it
  placeless : (S : List T) (d : List ℕ) → (is_none (place_in node S d) ≡ true) ↔ (IsBorneIn node S d → ⊥)
  placeless S d =
      let told = none_placed (λ e. bytes_eq (node e).digest d) 0 S in (
        λ none borne. true≢false (sym none ∙ told ∙ ap not (has_digest_of node S d borne)),
        λ none. told ∙ ap not (false_from_ne_true (has_digest node S d) (λ t. none (has_digest_from node S d t))),
      )

  -- each digest with its place
  abbrev table_from : ℕ → List T → List (List ℕ × ℕ)
  table_from n [] = []
  table_from n (e ∷ es) = ((node e).digest, n) ∷ table_from (n + 1) es

  -- the table has the places
  number_is : (d : List ℕ) (n : ℕ) (es : List T) →
      number_at (table_from n es) d ≡ position_from (λ e. bytes_eq (node e).digest d) n es
  number_is d n [] = refl
  number_is d n (e ∷ es) = λ k. cond (nat_list_eq_equiv.symm d (node e).digest k) (Some n) (number_is d (n + 1) es k)

  -- and no others; e is what a list has past its end
  are_places : (S : List T) (e : T) → ArePlaces node S (table_from 0 S)
  are_places S e = record {
    found = λ d p is.
        let test : T → Bool = λ f. bytes_eq (node f).digest d in
        let (within, bears, _) =
        position-Some test S p e (position_from-zero test S ∙ sym (number_is d 0 S) ∙ is) in
        (get_or S p e, slice_get-get_or S p e within, (bytes_eq-Decides (node (get_or S p e)).digest d).0 bears);
    lacks = λ d p none (f, stands, bears).
        (placeless S d).0 (ap is_none (sym (number_is d 0 S) ∙ none)) (f, member_at S p f stands, bears);
  }

-- ---- the graph

module _ {T : Type 0} (node : T → Node) (given : List T) (graph : EntryGraph T)
    (is : IsGraphOfGiven node given graph) (single : HasNoDigestTwice node graph.survivors) (e : T)
    (new : IsNew node given e) (appended : IsAppended node given graph e) where
  -- the survivors
  abbrev S : List T
  S = graph.survivors

  -- the entries and this one, and the survivors and this one
  abbrev more : List T
  more = given ++ e ∷ []

  abbrev next : List T
  next = S ++ e ∷ []

  -- the gaps are those of the survivors
  gaps_are : IsGaps node S graph.gaps
  gaps_are = (gaps_are_unique node S graph.gaps).0 is.kept.gaps

  -- no survivor has the digest
  not_borne : IsBorneIn node S (node e).digest → ⊥
  not_borne (f, has, same) = new f ((is.members f).0 has).0 same

  -- none names it
  not_named : (x : T) → Contains S x → Names node x e → ⊥
  not_named x has names = appended.closes_none ((gaps_are.members (node e).digest).1 ((x, has, names), not_borne))

  -- nor does one of the grown survivors
  unnamed : (x : T) → Contains next x → Names node x e → ⊥
  unnamed x has names = grind (arith, Contains-push_cases S e x has, not_named x, appended.not_itself)

  -- the others are strays as before: one that names it and survived until now would be a survivor
  -- that names it
  stray_before : (x : T) → Contains given x → IsStray node more x → IsStray node given x
  stray_before x has (g, there, names, late) = elim (Contains-push_cases given e g there) [
    | inl old ↦ (g, old, names, late)
    | inr same ↦ elim (cases_Bool (is_stray node given x)) [
      | inl found ↦ is_stray_from node given x found
      | inr none ↦
          (let sound = λ (stray : IsStray node given x). true≢false (sym (is_stray_of node given x stray) ∙ none) in
          absurd (not_named x ((is.members x).1 (has, sound)) (rw same names)))
    ]
  ]

  stray_after : (x : T) → IsStray node given x → IsStray node more x
  stray_after x (g, there, names, late) = (g, Contains-append_left given (e ∷ []) g there, names, late)

  -- and it is none
  itself_no_stray : IsStray node more e → ⊥
  itself_no_stray (g, there, names, late) =
      grind (arith, Contains-push_cases given e g there, appended.latest g, appended.not_itself)

  -- so the survivors are those before and it
  members_grown : (x : T) → Contains next x ↔ (Contains more x × (¬ IsStray node more x))
  members_grown x = (
    λ has. elim (Contains-push_cases S e x has) [
      | inl old ↦
          (let (there, sound) = (is.members x).0 old in
          (Contains-append_left given (e ∷ []) x there, λ stray. sound (stray_before x there stray)))
      | inr same ↦ rw (← same) (Contains-push given e, itself_no_stray)
    ],
    λ (there, sound).
        elim (Contains-push_cases given e x there) [
          | inl old ↦
              Contains-append_left S (e ∷ []) x ((is.members x).1 (old, λ stray. sound (stray_after x stray)))
          | inr same ↦ rw (← same) (Contains-push S e)
        ],
  )

  -- the strays are those before
  strays_grown : AreStrays node more graph.strays
  strays_grown = record {
    rises = is.strays.rises;
    members = λ d. (
      λ has.
          let (x, there, stray, same) = (is.strays.members d).0 has in
          (x, Contains-append_left given (e ∷ []) x there, stray_after x stray, same),
      λ (x, there, stray, same).
          elim (Contains-push_cases given e x there) [
            | inl old ↦ (is.strays.members d).1 (x, old, stray_before x old stray, same)
            | inr last ↦ absurd (itself_no_stray (rw (← last) at stray))
          ],
    );
  }

  -- the forks are those before
  fork_before : (m n : ℕ) → IsFork node next m n → IsFork node S m n
  fork_before m n (f, g, has, also, differ, fm, fn, gm, gn) =
      elim (Contains-push_cases S e f has) [
        | inl old ↦ elim (Contains-push_cases S e g also) [
          | inl older ↦ (f, g, old, older, differ, fm, fn, gm, gn)
          | inr last ↦ absurd (appended.no_fork f old (cc) (cc))
        ]
        | inr last ↦ elim (Contains-push_cases S e g also) [
          | inl old ↦ absurd (appended.no_fork g old (cc) (cc))
          | inr twice ↦ absurd (differ (sym last ∙ twice))
        ]
      ]

  forks_grown : AreForks node next graph.forks
  forks_grown = record {
    rises = is.kept.forks.rises;
    members = λ m n. (
      λ has.
          let (f, g, a, b, differ, fm, fn, gm, gn) = (is.kept.forks.members m n).0 has in
          (f, g, Contains-append_left S (e ∷ []) f a, Contains-append_left S (e ∷ []) g b, differ, fm, fn, gm, gn),
      λ fork. (is.kept.forks.members m n).1 (fork_before m n fork),
    );
  }

  -- what they name has the place that it had
  place_kept : (x : T) (d : List ℕ) → Contains next x → Contains (node x).names d →
      place_in node next d ≡ place_in node S d
  place_kept x d has names =
      place_before (λ f. bytes_eq (node f).digest d) S 0 e (false_from_ne_true (bytes_eq (node e).digest d) (λ t.
      unnamed x has (rw ((bytes_eq-Decides (node e).digest d).0 t) names)))

  -- and where no survivor had it, none has it
  unborne : (d : List ℕ) → IsNamedIn node next d → (IsBorneIn node S d → ⊥) → IsBorneIn node next d → ⊥
  unborne d (x, there, names) none (y, has, same) =
      let older : Contains S y → ⊥ = λ old. none (y, old, same) in
      grind (arith, Contains-push_cases S e y has, older, unnamed x there)

  module _ (parents : List ℕ) (are : AreParents node S e parents) (missing : List (List ℕ))
      (are_missing : AreMissing node S e missing) where
    -- what is missing is named, and no survivor has it
    lack : (d : List ℕ) → Contains missing d ↔ (Contains (node e).names d × (IsBorneIn node S d → ⊥))
    lack d =
        let lacking : List ℕ → Bool = λ c. is_none (place_in node S c) in (
          λ has.
              let (named, none) = Contains-filter_cases lacking (node e).names d (rw are_missing at has) in
              (named, (placeless node S d).0 none),
          λ (named, none).
              rw are_missing (Contains-filter lacking (node e).names d named ((placeless node S d).1 none)),
        )

    -- the gaps stay gaps, and what is missing is one; there are no others
    gaps_grown : ascending (graph.gaps ++ missing) ≡ gaps node next
    gaps_grown = (gaps_are_unique node next (ascending (graph.gaps ++ missing))).1 (record {
      rises = ascending_ascending (graph.gaps ++ missing);
      members = λ d. (
        λ has. elim (Contains-append_cases graph.gaps missing d
            (Contains-ascending_cases (graph.gaps ++ missing) d has)) [
              | inl old ↦
                  (let ((x, there, names), none) = (gaps_are.members d).0 old in
                  let named : IsNamedIn node next d = (x, Contains-append_left S (e ∷ []) x there, names) in
                  (named, unborne d named none))
              | inr lacked ↦
                  (let (names, none) = (lack d).0 lacked in
                  let named : IsNamedIn node next d = (e, Contains-push S e, names) in
                  (named, unborne d named none))
            ],
        λ ((x, there, names), none).
            let before : IsBorneIn node S d → ⊥ =
            λ (y, has, same). none (y, Contains-append_left S (e ∷ []) y has, same) in
            Contains-ascending (graph.gaps ++ missing) d (elim (Contains-push_cases S e x there) [
              | inl old ↦ Contains-append_left graph.gaps missing d ((gaps_are.members d).1 ((x, old, names), before))
              | inr last ↦ Contains-append_right graph.gaps missing d ((lack d).1 (rw last names, before))
            ]),
      );
    })

    -- each digest with its place
    abbrev table : List (List ℕ × ℕ)
    table = table_from node 0 next

    -- what is linked, with the last one, are the links of the names
    in_order : graph.links ++ link_to parents missing ∷ [] ≡ links_of node table next
    in_order =
        let old : T → Links = λ x. links_by (place_in node S) (node x).names in
        let ragged = ap (λ (ds : List (List ℕ)). not (length ds == 0)) are_missing
        ∙ any_left (λ d. is_none (place_in node S d)) (node e).names in
        let last : link_to parents missing ≡ old e = λ k. record { parents = are k; ragged = ragged k } in
        rw (last, is.kept.linked.in_order, ← map_push old S e)
        (map_same old (λ x. links_by (number_at table) (node x).names) next (λ x has.
        same_by_names (place_in node S) (number_at table) (node x).names (λ d names.
        sym (number_is node d 0 next ∙ place_kept x d has names))))

    -- the survivors go by stamp and digest
    numbered : AllPairs (IsLower node) next
    numbered = all_pairs_push (IsLower node) S e is.kept.numbered (λ k d low.
        inl (appended.latest (get_or S k d) ((is.members (get_or S k d)).0 (Contains-get_or S k d low)).0))

    -- the grown graph is that of the entries and this one
    pub is_grown : length S < 16384 → IsGraphOfGiven node more (grown graph e parents missing)
    is_grown room =
        let once = single_push node S e single not_borne in
        record {
          kept = record {
            few = omega (arith, length-append S (e ∷ []), room);
            numbered = numbered;
            single = λ i j x here there. one_place node next i j x x once here there refl;
            linked = links_are_right node next table (grown graph e parents missing).links once numbered
                (λ x y has also. stamp_rises node more x y ((members_grown x).0 has).1 ((members_grown y).0 also).0)
                (are_places node next e) in_order;
            gaps = gaps_grown;
            forks = forks_grown;
          };
          members = members_grown;
          strays = strays_grown;
        }
