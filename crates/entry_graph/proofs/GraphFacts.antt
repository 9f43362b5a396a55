-- The graph of distinct entries from its parts.
use Rattle.entry_graph.proofs.Imports.{[], AllPairs, ap, AreForks, AreLinks, AreStrays, arith, Bool, cond}
use Rattle.entry_graph.proofs.Imports.{Contains-permutation, EntryGraph, false, filter, gaps, HasNoDigestTwice}
use Rattle.entry_graph.proofs.Imports.{is_stray, IsEntryGraph, IsGraphOfGiven, IsLower, IsPermutation}
use Rattle.entry_graph.proofs.Imports.{IsPermutation-sym, length, length_permutation, List, Node, not, refl, subst}
use Rattle.entry_graph.proofs.Imports.{survivors, survivors_are_no_strays, sym, true, ◌∷◌, ◌≡◌, ◌≤◌}
use Rattle.entry_graph.proofs.{NumberFacts.single_moved, Places.one_place, Places.single_filter}

-- a part isn't longer than the whole
filter_shorter : {X : Type 0} (p : X → Bool) (xs : List X) → length (filter p xs) ≤ length xs
filter_shorter p [] = omega arith
filter_shorter p (x ∷ xs) =
    let rest = filter_shorter p xs in
    elim (p x) as (λ b. length (cond b (x ∷ filter p xs) (filter p xs)) ≤ length (x ∷ xs))
    [ true ↦ omega (arith, rest) | false ↦ omega (arith, rest) ]

module _ {T : Type 0} (node : T → Node) where
  -- survivors in any order have no digest twice
  pub survivors_single : (given S : List T) → HasNoDigestTwice node given → survivors node given ≡ S
      → HasNoDigestTwice node S
  survivors_single given S single is =
      subst (λ es. HasNoDigestTwice node es) is (single_filter node (λ e. not (is_stray node given e)) given single)

  -- there are no more survivors than entries
  pub survivors_few : (given found S : List T) → found ≡ survivors node given → IsPermutation found S
      → length given ≤ 16384 → length S ≤ 16384
  survivors_few given found S is moved few =
      let moved_length : length S ≡ length found = length_permutation found S moved in
      let found_length : length found ≡ length (survivors node given) = ap length is in
      let shorter : length (survivors node given) ≤ length given =
      filter_shorter (λ e. not (is_stray node given e)) given in
      omega arith

  -- what holds of the graph's parts
  pub parts_are_right : (given found : List T) (graph : EntryGraph T) → HasNoDigestTwice node given
      → length given ≤ 16384 → found ≡ survivors node given → IsPermutation found graph.survivors
      → AllPairs (IsLower node) graph.survivors → AreLinks node graph.survivors graph.links
      → graph.gaps ≡ gaps node graph.survivors
      → AreForks node graph.survivors graph.forks → IsEntryGraph node graph
  parts_are_right given found graph single few is moved numbered linked gaps_are forks =
      let all_single : HasNoDigestTwice node graph.survivors =
      single_moved node found graph.survivors moved (survivors_single given found single (sym is)) in
      record {
        few = survivors_few given found graph.survivors is moved few;
        numbered = numbered;
        single = λ i j e ie je. one_place node graph.survivors i j e e all_single ie je refl;
        linked = linked;
        gaps = gaps_are;
        forks = forks;
      }

  -- a graph of the survivors, with the strays of the given entries, is the graph of what was given
  pub graph_is_right : (given found : List T) (graph : EntryGraph T) → found ≡ survivors node given
      → IsPermutation found graph.survivors → AreStrays node given graph.strays → IsEntryGraph node graph
      → IsGraphOfGiven node given graph
  graph_is_right given found graph is moved strays kept =
      let same : IsPermutation (survivors node given) graph.survivors =
      subst (λ es. IsPermutation es graph.survivors) is moved in
      record {
        kept = kept;
        members = λ e. (
          λ has. (survivors_are_no_strays node given e).0
              (Contains-permutation graph.survivors (survivors node given) e
              (IsPermutation-sym (survivors node given) graph.survivors same) has),
          λ sound. Contains-permutation (survivors node given) graph.survivors e same
              ((survivors_are_no_strays node given e).1 sound),
        );
        strays = strays;
      }
