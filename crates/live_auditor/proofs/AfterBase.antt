-- Entries that are put after those of a base.
use Rattle.live_auditor.proofs.Imports
use Imports.{[], ap, append-nil, append_assoc, AreGiven, AreJudged, arith, ascending, at_image}
use Imports.{filter_all, list_all_each, nat_tests}
use Imports.{bytes_eq, CanFollow, Contains, Contains-append_left, Contains-append_right, Contains-map}
use Imports.{Contains-permutation, Contains-push_cases, distinct, drop, EntryGraph, Err, filter, filter_drops}
use Imports.{filter_map, FollowOf, from_stamp, get_or_from_slice_get, grown, HasOnePlaceEach, IfOk, IfSome}
use Imports.{is_among, is_none, IsApartBy, IsAppended, IsFollowed, IsGraphed, IsGraphOfGiven, IsGrowth, IsNew}
use Imports.{IsPermutation, IsPermutation-append_right, IsPermutation-filter_both, IsPermutation-sym}
use Imports.{IsPermutation-trans, IsPushed, IsSummed, kept_of, kept_with, le-ltb, length, length-append}
use Imports.{length-map, link_to, List, list_all, list_any_of, lower, map_push, member_at, nat_le}
use Imports.{nat_lt, node_of_sealed, nodes_by, None, not, Ok, one_link_each, Option, place_among, place_in, Post, refl}
use Imports.{Result, Row, row_of, RuleTree, SealedEntry, slice_get, slice_get_within, Some, Summed, SurvivorsKept, sym}
use Imports.{Tail, take, take-append-drop, take_at, taken_more, true, true≢false, ℕ, ◌&&◌, ◌++◌, ◌+◌, ◌<◌, ◌==◌, ◌↔◌}
use Imports.{◌∙◌, ◌∷◌, ◌≡◌, ◌≤◌}
use Rattle.live_auditor.proofs.Additions.{apart_more, given_lower, in_lower}
use Rattle.live_auditor.proofs.Grown.{distinct_from, is_grown, place_mapped}
use Rattle.live_auditor.proofs.OneSummary.{graph_moved, same_distinct, sealed_apart}

-- ---- an appended entry more: what is kept, and what is said then

module _ {machines : List Post} {given : List SealedEntry} {graph : EntryGraph SealedEntry} {gaps : List (List ℕ)}
    {kept : SurvivorsKept} (is : IsGraphed machines given graph gaps kept) (e : SealedEntry)
    (new : IsNew node_of_sealed given e)
    (highest : (f : SealedEntry) → Contains given f → f.entry.stamp < e.entry.stamp) {parents : List ℕ}
    {missing : List (List ℕ)} (apart : IsApartBy gaps kept.digests kept.rows e parents missing) where
  -- a survivor is given
  is_given : (f : SealedEntry) (i : ℕ) → slice_get graph.survivors i ≡ Some f → Contains given f
  is_given f i here = ((is.graphed.members f).0 (member_at graph.survivors i f here)).0

  -- each digest that is kept has one place
  once : HasOnePlaceEach kept.digests
  once i j d here there =
      let digest : SealedEntry → List ℕ = λ f. f.digest in
      let (f, at_f, is_f) = at_image digest graph.survivors i d (rw is.survivors.digests at here) in
      let (g, at_g, is_g) = at_image digest graph.survivors j d (rw is.survivors.digests at there) in
      let one = is.apart f g (is_given f i at_f) (is_given g j at_g) (is_f ∙ sym is_g) in
      is.graphed.kept.single i j g (rw one at at_f) at_g

  -- it is that of the survivor that has it
  same_place : (d : List ℕ) → place_among kept.digests d ≡ place_in node_of_sealed graph.survivors d
  same_place d =
      rw is.survivors.digests
      (place_mapped (λ (f : SealedEntry). f.digest) (λ c. bytes_eq c d) 0 graph.survivors)

  -- the entry is appended
  is_appended : IsAppended node_of_sealed given graph e
  is_appended = record {
    latest = highest;
    closes_none = λ has. true≢false (sym ((is_among gaps e.digest).1 (rw is.are_gaps has)) ∙ apart.closes_none);
    not_itself = λ has. true≢false (sym ((is_among e.entry.names e.digest).1 has) ∙ apart.not_itself);
    no_fork = λ f has maker number.
        let row = row_of machines f in
        let test = λ (r : Row). (r.maker == e.entry.maker) && (r.number == e.entry.number) in
        let there : Contains kept.rows row =
        rw is.survivors.rows (Contains-map (row_of machines) graph.survivors f has) in
        let passes : test row ≡ true = grind (arith, nat_tests) in
        true≢false (sym (list_any_of test kept.rows row there passes) ∙ apart.no_fork);
  }

  -- the graph with it is that of all
  is_next : IsGraphOfGiven node_of_sealed (given ++ e ∷ []) (grown graph e parents missing)
  is_next =
      let finds = apart.finds once in
      is_grown node_of_sealed given graph is.graphed (rw is.survivors.digests at (distinct_from kept.digests once)) e
      new is_appended parents (finds.places ∙ ap (λ at. filter_map at e.entry.names) (λ k d. same_place d k)) missing
      (finds.others ∙ ap (λ (at : List ℕ → Option ℕ). filter (λ d. is_none (at d)) e.entry.names)
      (λ k d. same_place d k))
      (omega (
        arith,
        apart.few,
        ap length is.survivors.digests,
        length-map graph.survivors (λ (f : SealedEntry). f.digest),
      ))

  -- the graph of the entries and this one, and what is then kept of it
  graphed_next : (row : Row) → row ≡ row_of machines e →
      IsGraphed machines (given ++ e ∷ []) (grown graph e parents missing) (ascending (gaps ++ missing))
      (kept_with kept e.digest (kept.rows ++ row ∷ []) (link_to parents missing))
  graphed_next row same = record {
    apart = apart_more given e is.apart new;
    graphed = is_next;
    are_gaps = rw is.are_gaps;
    survivors = record {
      digests = rw (is.survivors.digests, map_push);
      rows = rw (same, is.survivors.rows, map_push);
      links = rw is.survivors.links;
    };
  }

-- ---- several entries

-- after the base alone there is no other
pub followed_none : {machines : List Post} (first : Summed) {bound : ℕ} {others : List SealedEntry} (tail : Tail) →
    kept_of tail.survivors ≡ kept_of first.survivors → tail.gaps.items ≡ first.summary.gaps → tail.above ≡ bound →
    (given : List SealedEntry) (graph : EntryGraph SealedEntry) →
    IsGraphed machines given graph first.summary.gaps (kept_of first.survivors) → CanFollow given others bound →
    IsFollowed machines given graph (kept_of first.survivors) [] tail
followed_none first tail held same above given graph is can = record {
  graph = graph;
  graphed = rw (append-nil, same, held) is;
  strays = refl;
  forks = refl;
  above = λ f has. rw above (can.below f (rw append-nil at has));
  rows = [];
  rows_are = rw append-nil (ap (λ (k : SurvivorsKept). k.rows) held);
  links = [];
  links_are = rw append-nil (ap (λ (k : SurvivorsKept). k.links) held);
}

module _ {machines : List Post} {given : List SealedEntry} {first : EntryGraph SealedEntry} {before : SurvivorsKept}
    {bound : ℕ} {others : List SealedEntry} (can : CanFollow given others bound) (i : ℕ) {e : SealedEntry} {row : Row}
    {tail next : Tail} (pushed : IsPushed tail e row next)
    (is : IsFollowed machines given first before (take i others) tail) (stands : slice_get others i ≡ Some e)
    (same : row ≡ row_of machines e) where
  -- those so far
  abbrev xs : List SealedEntry
  xs = given ++ take i others

  -- each has a lower stamp than the next
  lower_stamp : (f : SealedEntry) → Contains xs f → f.entry.stamp < e.entry.stamp
  lower_stamp f has = omega (arith, is.above f has, pushed.latest)

  -- so the next has another digest
  is_new : IsNew node_of_sealed xs e
  is_new g has digest =
      let among = rw (append_assoc, take-append-drop) at (Contains-append_left xs (drop i others) g has) in
      let one = can.apart g e among (Contains-append_right given others e (member_at others i e stands)) digest in
      omega (arith, lower_stamp g has, ap (λ (f : SealedEntry). f.entry.stamp) one)

  -- those so far and the next
  together : given ++ take (i + 1) others ≡ xs ++ e ∷ []
  together =
      let here = sym (get_or_from_slice_get others i e e stands) in
      rw (taken_more others i e (slice_get_within others i e stands) here, append_assoc)

  -- the graph of them has the next as its last survivor
  pub followed_more : IsFollowed machines given first before (take (i + 1) others) next
  followed_more = record {
    graph = grown is.graph e pushed.parents pushed.missing;
    graphed = rw (together, pushed.gaps, pushed.kept)
        (graphed_next is.graphed e is_new lower_stamp pushed.apart row same);
    strays = is.strays;
    forks = is.forks;
    above = λ f has.
        let cases = Contains-push_cases xs e f (rw together at has) in
        grind (arith, cases, lower_stamp f, pushed.above);
    rows = is.rows ++ row ∷ [];
    rows_are = rw (ap (λ (k : SurvivorsKept). k.rows) pushed.kept, is.rows_are, append_assoc);
    links = is.links ++ link_to pushed.parents pushed.missing ∷ [];
    links_are = rw (ap (λ (k : SurvivorsKept). k.links) pushed.kept, is.links_are, append_assoc);
  }

-- a number is no lower, or lower
no_lower : (m n : ℕ) → nat_le n m ≡ not (nat_lt m n)
no_lower m n = grind (arith, nat_tests)

module _ {machines : List Post} {trees : List RuleTree} {entries : List SealedEntry} (below : ℕ)
    (given : AreGiven machines entries) (first : Summed)
    (base : IsSummed machines trees (lower below entries) first.summary (kept_of first.survivors))
    (later : List SealedEntry) (sorted : IsPermutation (from_stamp below entries) later) where
  -- the first entries
  abbrev B : List SealedEntry
  B = lower below entries

  -- the first and the later ones are all
  moved : IsPermutation entries (B ++ later)
  moved =
      IsPermutation-trans entries (B ++ from_stamp below entries) (B ++ later)
      (IsPermutation-filter_both (λ e. nat_lt e.entry.stamp below) (λ e. nat_le below e.entry.stamp)
      (λ e. no_lower e.entry.stamp below) entries)
      (IsPermutation-append_right B (from_stamp below entries) later sorted)

  -- so they have the same entries
  same : (f : SealedEntry) → Contains (B ++ later) f ↔ Contains entries f
  same f = (
    Contains-permutation (B ++ later) entries f (IsPermutation-sym entries (B ++ later) moved),
    Contains-permutation entries (B ++ later) f moved,
  )

  -- so they can follow
  can_follow : CanFollow B later below
  can_follow = record {
    below = λ f has. (in_lower entries below f has).1;
    apart = λ f g has also. given.apart f g ((same f).0 has) ((same g).0 also);
  }

  -- what is kept of the first entries is read off their graph
  first_graphed : IsGraphed machines B base.after.graph first.summary.gaps (kept_of first.survivors)
  first_graphed =
      let apart = (given_lower entries below given).apart in
      record {
        apart = apart;
        graphed =
            graph_moved (distinct node_of_sealed B) B (same_distinct B apart) base.after.graph base.after.graphed.2;
        are_gaps = base.after.gaps;
        survivors = base.survivors;
      }

  module _ (tail : Tail) (follow : FollowOf machines below first later tail) where
    -- the graph of all
    is : IsFollowed machines B base.after.graph (kept_of first.survivors) later tail
    is = follow B base.after.graph first_graphed can_follow

    -- there is a link for each of its survivors
    linked_each : length tail.survivors.links.items ≡ length is.graph.survivors
    linked_each =
        ap length is.graphed.survivors.links
        ∙ one_link_each node_of_sealed is.graph.survivors is.graph.links is.graphed.graphed.kept.linked

    -- how many survivors were first
    abbrev count : ℕ
    count = length first.survivors.links.items

    -- they have as many rows
    counted : length first.survivors.rows.items ≡ count
    counted =
        let graph = base.after.graph in
        let each = one_link_each node_of_sealed graph.survivors graph.links base.after.graphed.2.kept.linked in
        rw (base.survivors.rows, base.survivors.links, each, length-map)

    -- so the later survivors can be judged by the verdicts on the first
    pub tail_growth : IsGrowth tail.survivors.rows.items tail.survivors.links.items count trees first.summary.verdicts
    tail_growth = record {
      falls = rw is.graphed.survivors.links is.graphed.graphed.kept.linked.arrows.descends;
      one_each = rw (is.graphed.survivors.rows, length-map) (sym linked_each);
      few = omega (arith, linked_each, is.graphed.graphed.kept.few);
      first = omega (arith, ap length is.links_are, length-append first.survivors.links.items is.links);
      judged =
          rw (
            is.rows_are,
            take_at first.survivors.rows.items is.rows count counted,
            is.links_are,
            take_at first.survivors.links.items is.links count refl,
            base.survivors.rows,
            base.survivors.links,
          )
          base.after.judged;
    }

    -- what is said by verdicts on all rows is said of all entries
    pub tail_summed : (summed : Summed) → summed.summary ≡ record {
      survivors = length tail.survivors.links.items;
      gaps = tail.gaps.items;
      strays = first.summary.strays;
      forks = first.summary.forks;
      verdicts = summed.summary.verdicts;
    } → AreJudged tail.survivors.rows.items (nodes_by tail.survivors.links.items) trees summed.summary.verdicts →
        kept_of summed.survivors ≡ kept_of tail.survivors →
        IsSummed machines trees entries summed.summary (kept_of summed.survivors)
    tail_summed summed says judged held = record {
      after = record {
        graph = is.graph;
        graphed = sealed_apart given (graph_moved (B ++ later) entries same is.graph is.graphed.graphed);
        survivors = rw says linked_each;
        gaps = rw says is.graphed.are_gaps;
        strays = rw says (base.after.strays ∙ sym is.strays);
        forks = rw says (base.after.forks ∙ sym is.forks);
        judged = rw (← is.graphed.survivors.rows, ← is.graphed.survivors.links) judged;
      };
      survivors = rw held is.graphed.survivors;
    }

-- what three clauses say of what is found, taken together
pub three_said : {X E : Type 0} {P Q R S : X → Type 0} (r : Result (Option X) E) →
    ((x : X) → P x → Q x → R x → S x) → IfOk r (λ o. IfSome o P) → IfOk r (λ o. IfSome o Q) →
    IfOk r (λ o. IfSome o R) → IfOk r (λ o. IfSome o S)
three_said (Ok (Some x)) both p q r = both x p q r
three_said (Ok None) both p q r = tt
three_said (Err fault) both p q r = tt

-- where all stamps are lower those with lower stamps are all
pub lower_all : (below : ℕ) (entries : List SealedEntry) →
    list_all (λ (f : SealedEntry). nat_lt f.entry.stamp below) entries ≡ true → lower below entries ≡ entries
lower_all below entries all =
    let low = λ (f : SealedEntry). nat_lt f.entry.stamp below in filter_all low entries (list_all_each low entries all)

-- of those with lower stamps those with still lower ones are those of all
pub lower_lower : (low below : ℕ) (entries : List SealedEntry) → low ≤ below →
    lower low (lower below entries) ≡ lower low entries
lower_lower low below [] under = refl
lower_lower low below (e ∷ es) under = grind (arith, nat_tests, lower_lower low below es under)

-- an entry that isn't below leaves those that are
pub lower_more : (below : ℕ) (added : List SealedEntry) (e : SealedEntry) → below ≤ e.entry.stamp →
    lower below (added ++ e ∷ []) ≡ lower below added
lower_more below added e past =
    filter_drops (λ (g : SealedEntry). nat_lt g.entry.stamp below) added e (le-ltb e.entry.stamp below past)
