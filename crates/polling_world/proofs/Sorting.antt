-- Ranked steps, once they are sorted by rank, are the steps of the merged order.
use Rattle.polling_world.proofs.Imports.{[], ap, apart_from_distinct, AreRanked, arith, below, Bool, bytes_eq}
use Rattle.polling_world.proofs.Imports.{bytes_eq-Decides, Contains, Contains-permutation, false, get_or, is_lt}
use Rattle.polling_world.proofs.Imports.{IsDistinct, IsDistinct-IsPermutation, IsDistinct-tail, IsInSortOrder}
use Rattle.polling_world.proofs.Imports.{IsMergedOf, IsPermutation, IsPermutation-keeps, IsPermutation-map}
use Rattle.polling_world.proofs.Imports.{IsPermutation-refl, IsPermutation-swap, IsPermutation-sym, IsPermutation-trans}
use Rattle.polling_world.proofs.Imports.{IsSortedBy, IsSortedByKey, length, length-map, Less, List, map, map-set}
use Rattle.polling_world.proofs.Imports.{nat_cmp, nat_list_cmp_total, nat_list_eq_equiv, Node, PlacedEvent, ranked_step}
use Rattle.polling_world.proofs.Imports.{RankedStep, ranks_by, refl, set, slice_cmp, sort_key, sorted_far, step_of}
use Rattle.polling_world.proofs.Imports.{subst, suc, swap, sym, true≢false, World, ℕ, ◌+◌, ◌∙◌, ◌∷◌, ◌≡◌}
use Rattle.std.proofs.Math.ListN.{get_or-map}

-- ---- what moves under a function

module _ {X Y : Type 0} (f : X → Y) where
  -- two elements change places under a function
  map-swap : (xs : List X) (i j : ℕ) → map f (swap xs i j) ≡ swap (map f xs) i j
  map-swap [] i j = refl
  map-swap (d ∷ xs) i j =
      let a = get_or (d ∷ xs) j d in
      let b = get_or (d ∷ xs) i d in
      map-set f (set (d ∷ xs) i a) j b
      ∙ ap (λ l. set l j (f b)) (map-set f (d ∷ xs) i a)
      ∙ (λ k. set (set (map f (d ∷ xs)) i (sym (get_or-map f (d ∷ xs) j d) k)) j (sym (get_or-map f (d ∷ xs) i d) k))

  -- what is the images in another order is the images of the elements in another order
  moved_after : (xs : List X) (ys : List Y) → IsPermutation (map f xs) ys →
      (zs : List X) × IsPermutation xs zs × (map f zs ≡ ys)
  moved_after xs ys moved =
      IsPermutation-keeps (map f xs) (λ l. (zs : List X) × IsPermutation xs zs × (map f zs ≡ l))
      (xs, IsPermutation-refl xs, refl)
      (λ l i j il jl (zs, permuted, are).
      let long : length zs ≡ length l = sym (length-map zs f) ∙ ap length are in (
        swap zs i j,
        IsPermutation-trans xs zs (swap zs i j) permuted
            (IsPermutation-swap zs (swap zs i j) i j (omega arith) (omega arith) refl),
        map-swap zs i j ∙ ap (λ k. swap k i j) are,
      ))
      ys moved

-- ---- what rises

-- the rank by which a step is sorted
abbrev pub rank_of : RankedStep → List ℕ
rank_of r = r.rank

-- what is sorted is so without its first
sorted_rest : {X : Type 0} (lt : X → X → Bool) (x : X) (xs : List X) → IsSortedBy lt (x ∷ xs) → IsSortedBy lt xs
sorted_rest lt x xs sorted k d low within =
    let next : suc k + 1 ≡ suc (k + 1) = omega arith in
    subst (λ (n : ℕ). lt (get_or (x ∷ xs) n d) (get_or (x ∷ xs) (suc k) d) ≡ false) next
    (sorted (suc k) d (omega arith) (omega arith))

-- the order of ranked steps, by their ranks
abbrev lower : RankedStep → RankedStep → Bool
lower a b = is_lt (slice_cmp nat_cmp (rank_of a) (rank_of b))

module _ {T : Type 0} (node : T → Node) where
  -- of sorted events of which no two have one rank the first is lower than each later one
  first_lower : (x : PlacedEvent T) (xs : List (PlacedEvent T)) (y : PlacedEvent T) → Contains xs y →
      IsDistinct bytes_eq (map sort_key (x ∷ xs)) → IsSortedBy lower (map (ranked_step node) (x ∷ xs)) →
      slice_cmp nat_cmp (sort_key x) (sort_key y) ≡ Less
  first_lower x xs y (k, l, at) once sorted =
      let list = map (ranked_step node) (x ∷ xs) in
      let long : length (map (ranked_step node) xs) ≡ length xs = length-map xs (ranked_step node) in
      let ranks : length (map sort_key xs) ≡ length xs = length-map xs sort_key in
      let there : get_or (map (ranked_step node) xs) k (ranked_step node y) ≡ ranked_step node y =
      get_or-map (ranked_step node) xs k y ∙ ap (ranked_step node) at in
      let far : lower (get_or (map (ranked_step node) xs) k (ranked_step node y)) (ranked_step node x) ≡ false =
      sorted_far lower (ranks_by nat_list_cmp_total rank_of) list sorted 0 (suc k) (ranked_step node y) (omega arith)
      (omega arith) in
      let other : bytes_eq (sort_key x) (get_or (map sort_key xs) k (sort_key y)) ≡ false =
      apart_from_distinct bytes_eq (map sort_key (x ∷ xs)) 0 (suc k) (sort_key y) once (omega arith) (omega arith) in
      below (sort_key x) (sort_key y) (ap (λ r. lower r (ranked_step node x)) (sym there) ∙ far)
      (λ same. true≢false
      (sym ((bytes_eq-Decides (sort_key x) (sort_key y)).1 same)
      ∙ ap (bytes_eq (sort_key x)) (sym (get_or-map sort_key xs k y ∙ ap sort_key at)) ∙ other))

  -- so they rise
  rises : (xs : List (PlacedEvent T)) → IsDistinct bytes_eq (map sort_key xs) →
      IsSortedBy lower (map (ranked_step node) xs) → IsInSortOrder xs
  rises [] once sorted = tt
  rises (x ∷ xs) once sorted = (
    λ y c. first_lower x xs y c once sorted,
    rises xs (IsDistinct-tail bytes_eq (sort_key x) (map sort_key xs) once)
        (sorted_rest lower (ranked_step node x) (map (ranked_step node) xs) sorted),
  )

  -- the steps of ranked steps
  steps_after : (xs : List (PlacedEvent T)) →
      map (λ (r : RankedStep). r.step) (map (ranked_step node) xs) ≡ map (λ x. step_of node x.machine x.event) xs
  steps_after [] = refl
  steps_after (x ∷ xs) = ap (λ steps. step_of node x.machine x.event ∷ steps) (steps_after xs)

  -- ranked steps of a world's events, sorted, are the steps of its merged order
  pub merged_from : (w : World T) (ranked sorted : List RankedStep) → AreRanked node w ranked →
      IsPermutation ranked sorted → IsSortedByKey rank_of (slice_cmp nat_cmp) sorted →
      (xs : List (PlacedEvent T)) × IsMergedOf node w xs
      × (map (λ (r : RankedStep). r.step) sorted ≡ map (λ x. step_of node x.machine x.event) xs)
  merged_from w ranked sorted of moved rising =
      let (xs, permuted, are) = moved_after (ranked_step node) of.xs sorted
      (subst (λ (l : List RankedStep). IsPermutation l sorted) of.are moved) in (
        xs,
        record {
          sorted = rises xs
              (IsDistinct-IsPermutation bytes_eq nat_list_eq_equiv.symm (map sort_key of.xs) (map sort_key xs)
              (IsPermutation-map sort_key of.xs xs permuted) of.once)
              (subst (IsSortedBy lower) (sym are) rising);
          events = λ x. (
            λ c. (of.events x).0 (Contains-permutation xs of.xs x (IsPermutation-sym of.xs xs permuted) c),
            λ e. Contains-permutation of.xs xs x permuted ((of.events x).1 e),
          );
        },
        ap (map (λ (s : RankedStep). s.step)) (sym are) ∙ steps_after xs,
      )
