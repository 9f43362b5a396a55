-- The three values are the ancestors by walks, and so what holds in every completion.
use Rattle.entry_order.proofs.Completions.{before_among_survivors, before_in_completion}
use Rattle.entry_order.proofs.Imports.{[], All-contains, All-contains_itself, and_from, and_parts, ap, arith, Bool}
use Rattle.entry_order.proofs.Imports.{bytes_eq, cases_lt, Completion, cond, Contains, Contains-filter}
use Rattle.entry_order.proofs.Imports.{Contains-filter_cases, eq-eqb, eqb-true, false, false_from_ne_true, false≢true}
use Rattle.entry_order.proofs.Imports.{filter, gaps, get_or_from_slice_get, in_numbers, inl, inr, is_among, IsGraphOf}
use Rattle.entry_order.proofs.Imports.{IsPath, IsStray, IsWhole, length, List, list_any, list_any_of, list_any_some}
use Rattle.entry_order.proofs.Imports.{member_at, Names, names_digest, names_digest_from, names_digest_of, NamesNoGap}
use Rattle.entry_order.proofs.Imports.{Node, None, not, not-true, not_from_false, numbers, one_at, Option, path_over}
use Rattle.entry_order.proofs.Imports.{place_of, Precedes, refl, slice_get, slice_get_within, Some, stamp_rises, suc}
use Rattle.entry_order.proofs.Imports.{survivors_are_no_strays, sym, true, true≢false, zero, ℕ, ◌++◌, ◌==◌, ◌↔◌, ◌∙◌}
use Rattle.entry_order.proofs.Imports.{◌∷◌, ◌≡◌, ◌≤◌}
use Rattle.entry_order.specs.Ancestors.{before, Descends, is_whole, IsAncestor, IsWalk, reaches}
use Rattle.entry_order.specs.Settled.{GraphsAreExact, OrderIsSettled, SurvivorsHaveAGraph}
use Rattle.entry_order.specs.declared.three.Three.{Three, TheVariants.False, TheVariants.True, TheVariants.Unknown}
use Rattle.std.proofs.lemmas.Bool.{or_cases, or_left, or_right}
use Rattle.std.proofs.lemmas.List.{Elements.All-weaker, Sums.AllPass-from_list_all, Sums.list_all-from_AllPass}
use Rattle.std.specs.List.{list_all, Sorted.IsNonDecreasingBy}

-- a test that passes all members passes each
pub list_all_each : {X : Type 0} (p : X → Bool) (xs : List X) → list_all p xs ≡ true → (x : X) → Contains xs x →
    p x ≡ true
list_all_each p xs e x c = All-contains (λ u. p u ≡ true) xs x (AllPass-from_list_all p xs e) c

-- where each passes, all do
pub list_all_from_each : {X : Type 0} (p : X → Bool) (xs : List X) → ((x : X) → Contains xs x → p x ≡ true) →
    list_all p xs ≡ true
list_all_from_each p xs each =
    list_all-from_AllPass p xs (All-weaker (Contains xs) (λ u. p u ≡ true) each xs (All-contains_itself xs))

module _ (parents : ℕ → List ℕ) where
  -- what is reached is an ancestor
  pub ancestor_from_reaches : (n y x : ℕ) → reaches parents n y x ≡ true → IsAncestor parents y x
  ancestor_from_reaches zero y x e = absurd (true≢false (sym e))
  ancestor_from_reaches (suc n) y x e =
      let (z, arrow, test) = list_any_some _ (parents x) e in
      elim (or_cases (z == y) (reaches parents n y z) test) [
        | inl here ↦ ([], rw (eqb-true z y here) at arrow)
        | inr further ↦ let (zs, walk) = ancestor_from_reaches n y z further in (z ∷ zs, (arrow, walk))
      ]

  module _ (descends : Descends parents) where
    -- an ancestor is reached in no more arrows than the place's number
    pub reaches_from_walk : (n y x : ℕ) (zs : List ℕ) → x ≤ n → IsWalk parents x zs y → reaches parents n y x ≡ true
    reaches_from_walk zero y x [] l w = absurd (let d = descends x y w in omega arith)
    reaches_from_walk zero y x (z ∷ zs) l w = absurd (let d = descends x z w.0 in omega arith)
    reaches_from_walk (suc n) y x [] l w = list_any_of _ (parents x) y w (or_left _ _ (eq-eqb y y refl))
    reaches_from_walk (suc n) y x (z ∷ zs) l (arrow, walk) =
        let d = descends x z arrow in
        list_any_of _ (parents x) z arrow (or_right (z == y) _ (reaches_from_walk n y z zs (omega arith) walk))

    module _ (ragged : ℕ → Bool) where
      -- a whole place isn't ragged
      pub clean_itself : (n x : ℕ) → is_whole parents ragged n x ≡ true → ragged x ≡ false
      clean_itself zero x e = not-true (ragged x) e
      clean_itself (suc n) x e = not-true (ragged x) (and_parts (not (ragged x)) _ e).0

      -- neither x nor an ancestor is ragged
      abbrev pub IsClean : ℕ → Type 0
      IsClean x = (ragged x ≡ false) × ((y : ℕ) → IsAncestor parents y x → ragged y ≡ false)

      -- a parent of a whole place is whole
      whole_parent : (n x z : ℕ) → x ≤ n → is_whole parents ragged n x ≡ true → Contains (parents x) z →
          (m : ℕ) × (z ≤ m) × (is_whole parents ragged m z ≡ true)
      whole_parent zero x z l e arrow = absurd (omega (arith, descends x z arrow))
      whole_parent (suc n) x z l e arrow =
          let d = descends x z arrow in
          (n, omega arith, list_all_each _ (parents x) (and_parts (not (ragged x)) _ e).1 z arrow)

      -- no ancestor of a place that is whole is ragged
      pub clean_ancestor : (n x : ℕ) → x ≤ n → is_whole parents ragged n x ≡ true → (y : ℕ) (zs : List ℕ) →
          IsWalk parents x zs y → ragged y ≡ false
      clean_ancestor n x l e y [] w = let (m, _, whole) = whole_parent n x y l e w in clean_itself m y whole
      clean_ancestor n x l e y (z ∷ zs) (arrow, walk) =
          let (m, below, whole) = whole_parent n x z l e arrow in clean_ancestor m z below whole y zs walk

      -- a place without a ragged ancestor is whole
      pub is_whole_from_clean : (n x : ℕ) → IsClean x → is_whole parents ragged n x ≡ true
      is_whole_from_clean zero x (not_ragged, _) = not_from_false (ragged x) not_ragged
      is_whole_from_clean (suc n) x (not_ragged, none_above) =
          and_from (not (ragged x)) _ (not_from_false (ragged x) not_ragged) (list_all_from_each _ (parents x)
          (λ z c. is_whole_from_clean n z (none_above z ([], c), λ y (zs, walk). none_above y (z ∷ zs, (c, walk)))))

-- ---- places and entries

-- a walk with one arrow more at its far end
pub walk_on : (parents : ℕ → List ℕ) (x : ℕ) (zs : List ℕ) (y z : ℕ) → IsWalk parents x zs y → Contains (parents y) z →
    IsWalk parents x (zs ++ y ∷ []) z
walk_on parents x [] y z w c = (w, c)
walk_on parents x (v ∷ zs) y z w c = (w.0, walk_on parents v zs y z w.1 c)

module _ {T : Type 0} (node : T → Node) (machines : ℕ) (S : List T) (parents : ℕ → List ℕ) (ragged : ℕ → Bool)
    (graph : IsGraphOf node S parents ragged) where
  -- a walk through places is a path through their entries
  path_from_walk : (x y : ℕ) (zs : List ℕ) (e f : T) → slice_get S x ≡ Some e → slice_get S y ≡ Some f →
      IsWalk parents x zs y → (gs : List T) × IsPath node S f gs e
  path_from_walk x y [] e f ex fy w = ([], (graph.arrows x y e f ex fy).0 w)
  path_from_walk x y (z ∷ zs) e f ex fy (arrow, walk) =
      let (g, gz) = graph.inside x z arrow in
      let (gs, path) = path_from_walk z y zs g f gz fy walk in
      (gs ++ g ∷ [], path_over node S f gs g [] e path (member_at S z g gz) ((graph.arrows x z e g ex gz).0 arrow))

  -- and a path is a walk
  walk_from_path : (x y : ℕ) (e f : T) (gs : List T) → slice_get S x ≡ Some e → slice_get S y ≡ Some f →
      IsPath node S f gs e → IsAncestor parents y x
  walk_from_path x y e f [] ex fy n = ([], (graph.arrows x y e f ex fy).1 n)
  walk_from_path x y e f (g ∷ gs) ex fy (there, names, path) =
      let (z, gz) = place_of S g there in
      let (zs, walk) = walk_from_path x z e g gs ex gz path in
      (zs ++ z ∷ [], walk_on parents x zs z y walk ((graph.arrows z y g f gz fy).1 names))

  module _ (y x : ℕ) (f e : T) (fy : slice_get S y ≡ Some f) (ex : slice_get S x ≡ Some e) where
    -- an entry whose place and its ancestors aren't ragged is whole
    whole_from_clean : IsClean parents graph.descends ragged x → IsWhole node S e
    whole_from_clean clean = record {
      itself = (graph.gaps_shown x e ex).0 clean.0;
      ancestors = λ g (there, _, gs, path). let (z, gz) = place_of S g there in
          (graph.gaps_shown z g gz).0 (clean.1 z (walk_from_path x z e g gs ex gz path));
    }

    -- an ancestor is a survivor's place
    is_inside : (z : ℕ) (zs : List ℕ) (u : ℕ) → IsWalk parents u zs z → (g : T) × (slice_get S z ≡ Some g)
    is_inside z [] u w = graph.inside u z w
    is_inside z (v ∷ zs) u w = is_inside z zs v w.1

    -- the place of a whole entry and its ancestors aren't ragged
    clean_from_whole : IsWhole node S e → IsClean parents graph.descends ragged x
    clean_from_whole whole = (
      (graph.gaps_shown x e ex).1 whole.itself,
      λ z (zs, walk). let (g, gz) = is_inside z zs x walk in
          let (gs, path) = path_from_walk x z zs e g ex gz walk in
          (graph.gaps_shown z g gz).1 (whole.ancestors g (member_at S z g gz, member_at S x e ex, gs, path)),
    )

    -- a place that is reached is that of an entry that precedes
    pub precedes_from_reaches : reaches parents x y x ≡ true → Precedes node S f e
    precedes_from_reaches r =
        let (zs, walk) = ancestor_from_reaches parents x y x r in
        let (gs, path) = path_from_walk x y zs e f ex fy walk in
        (member_at S y f fy, member_at S x e ex, gs, path)

    -- the place of an entry that precedes is reached
    pub reaches_from_precedes : Precedes node S f e → reaches parents x y x ≡ true
    reaches_from_precedes (_, _, gs, path) =
        let (zs, walk) = walk_from_path x y e f gs ex fy path in
        reaches_from_walk parents graph.descends x y x zs (omega arith) walk

    -- where the graph finds x whole, it is
    pub whole_from_test : is_whole parents ragged x x ≡ true → IsWhole node S e
    whole_from_test ec = whole_from_clean (
      clean_itself parents graph.descends ragged x x ec,
      λ z a. clean_ancestor parents graph.descends ragged x x (omega arith) ec z a.0 a.1,
    )

    -- where x is whole, the graph finds it so
    pub whole_test_from : IsWhole node S e → is_whole parents ragged x x ≡ true
    whole_test_from whole = is_whole_from_clean parents graph.descends ragged x x (clean_from_whole whole)

    -- what each of the three values says
    abbrev Says : Three → Type 0
    Says value =
        (value ≡ True → (G : List T) → Completion node machines S G → Precedes node G f e)
        × (value ≡ False → (G : List T) → Completion node machines S G → ¬ (Precedes node G f e))
        × (value ≡ Unknown → ¬ (IsWhole node S e))

    -- the graph's value says so
    pub settled : Says (before parents ragged y x)
    settled = by (reaches parents x y x) refl (is_whole parents ragged x x) refl
      where
        by : (r : Bool) → reaches parents x y x ≡ r → (c : Bool) → is_whole parents ragged x x ≡ c →
            Says (cond r True (cond c False Unknown))
        by true er c ec =
            (λ _ G h. before_in_completion node S machines G h f e (precedes_from_reaches er), λ o. cc, λ o. cc)
        by false er true ec = (
          λ o. cc,
          λ _ G h p. false≢true (sym er ∙ reaches_from_precedes
              (before_among_survivors node S machines G h f e (member_at S x e ex) (whole_from_test ec) p)),
          λ o. cc,
        )
        by false er false ec = (λ o. cc, λ o. cc, λ _ whole. false≢true (sym ec ∙ whole_test_from whole))

-- the order is settled of any survivors and their graph
pub order_is_settled : {T : Type 0} (node : T → Node) → OrderIsSettled node
order_is_settled node = settled node

-- what a graph of the survivors computes is what the definitions say
pub graphs_are_exact : {T : Type 0} (node : T → Node) → GraphsAreExact node
graphs_are_exact node S parents ragged graph y x f e fy ex = (
  (
    precedes_from_reaches node 0 S parents ragged graph y x f e fy ex,
    reaches_from_precedes node 0 S parents ragged graph y x f e fy ex,
  ),
  (
    whole_from_test node 0 S parents ragged graph y x f e fy ex,
    whole_test_from node 0 S parents ragged graph y x f e fy ex,
  ),
)

-- ---- survivors that are sorted by stamp have a graph whose nodes are their places

module _ {T : Type 0} (node : T → Node) (S : List T) where
  -- whether the entry at one place, if there is one, names that at another
  abbrev names_both : Option T → Option T → Bool
  names_both (Some e) (Some f) = names_digest node e (node f).digest
  names_both _ _ = false

  -- the places of the entries that the one at a place names
  abbrev parents_of : ℕ → List ℕ
  parents_of i = filter (λ p. names_both (slice_get S i) (slice_get S p)) (numbers (length S))

  -- whether the digest is a gap
  abbrev is_gap : List ℕ → Bool
  is_gap d = list_any (λ c. bytes_eq c d) (gaps node S)

  -- whether the entry, if there is one, names a gap
  abbrev is_ragged : Option T → Bool
  is_ragged None = false
  is_ragged (Some e) = list_any is_gap (node e).names

  -- whether the entry at the place does
  abbrev ragged_of : ℕ → Bool
  ragged_of i = is_ragged (slice_get S i)

  -- where one names the other both are there
  both_cases : (o q : Option T) → names_both o q ≡ true →
      (e : T) × (f : T) × (o ≡ Some e) × (q ≡ Some f) × Names node e f
  both_cases None q t = absurd (true≢false (sym t))
  both_cases (Some e) None t = absurd (true≢false (sym t))
  both_cases (Some e) (Some f) t = (e, f, refl, refl, names_digest_from node e (node f).digest t)

  -- a parent is the place of an entry that is named
  arrow_cases : (i p : ℕ) → Contains (parents_of i) p →
      (e : T) × (f : T) × (slice_get S i ≡ Some e) × (slice_get S p ≡ Some f) × Names node e f
  arrow_cases i p c = both_cases (slice_get S i) (slice_get S p) (Contains-filter_cases _ (numbers (length S)) p c).1

  -- and each such place is a parent
  arrow_from : (i p : ℕ) (e f : T) → slice_get S i ≡ Some e → slice_get S p ≡ Some f → Names node e f →
      Contains (parents_of i) p
  arrow_from i p e f ie pf n =
      Contains-filter _ (numbers (length S)) p (in_numbers (length S) p (slice_get_within S p f pf))
      (rw (ie, pf) (names_digest_of node e (node f).digest n))

  -- where places go by stamps, what an entry names is below it
  descends : IsNonDecreasingBy (λ e. (node e).stamp) S → ((e : T) → Contains S e → ¬ (IsStray node S e)) →
      Descends parents_of
  descends sorted sound i p c =
      let (e, f, at_i, at_p, names) = arrow_cases i p c in
      let up = stamp_rises node S e f (sound e (member_at S i e at_i)) (member_at S p f at_p) names in
      elim (cases_lt p i) [
        | inl l ↦ l
        | inr le ↦
            let s = rw (get_or_from_slice_get S i e e at_i, get_or_from_slice_get S p f e at_p) at
            (sorted i p e le (slice_get_within S p f at_p)) in absurd (omega arith)
      ]

  -- a place isn't ragged exactly when its entry names no gap
  gaps_shown : (i : ℕ) (e : T) → slice_get S i ≡ Some e → (ragged_of i ≡ false) ↔ NamesNoGap node S e
  gaps_shown i e ie = (
    λ clean d named gap.
        let t = list_any_of is_gap (node e).names d named ((is_among (gaps node S) d).1 gap) in
        true≢false (sym t ∙ sym (ap is_ragged ie) ∙ clean),
    λ free. ap is_ragged ie ∙ false_from_ne_true _ (λ t.
        let (d, named, gap) = list_any_some is_gap (node e).names t in free d named ((is_among (gaps node S) d).0 gap)),
  )

-- the parents and the ragged nodes of survivors that are sorted
pub survivors_have_a_graph : {T : Type 0} (node : T → Node) → SurvivorsHaveAGraph node
survivors_have_a_graph {T} node S sorted kept = (
  parents_of node S,
  ragged_of node S,
  record {
    descends = descends node S sorted sound;
    inside = λ i p c. let (_, f, _, at_p, _) = arrow_cases node S i p c in (f, at_p);
    arrows = λ i p e f ie pf. (
      λ c.
          let (g, h, at_i, at_p, names) = arrow_cases node S i p c in
          rw (one_at S i e g ie at_i, one_at S p f h pf at_p) names,
      arrow_from node S i p e f ie pf,
    );
    gaps_shown = gaps_shown node S;
  },
)
  where
    sound : (e : T) → Contains S e → ¬ (IsStray node S e)
    sound e c = ((survivors_are_no_strays node S e).0 (rw kept c)).1
