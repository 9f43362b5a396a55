-- The rows of the first nodes of a graph, and those with one node more.
use Rattle.entry_order.specs.Ancestors.{is_whole, reaches}
use Rattle.precedence.proofs.Steps.{all_below, any_below, reaches_by_parents, whole_by_parents}
use Rattle.precedence.specs.{Bits.has_bit, Bits.row_has, Graph.Graph}
use Rattle.precedence.specs.inside.Words.{HasItsWords, words_below}
use Rattle.std.proofs.Common.{[], ap, arith, Bool, false, get_or, inl, inr, length, length-append, List, subst, sym, ℕ}
use Rattle.std.proofs.Common.{◌++◌, ◌+◌, ◌-◌, ◌<◌, ◌∙◌, ◌∷◌, ◌≡◌}
use Rattle.std.proofs.{Math.Seq.get_or-append_right, lemmas.Bool.cases_lt, lemmas.List.get_or_append_left}
use Rattle.std.specs.List.{All, list_all, list_any}
use Rattle.std.specs.Prelude.{not, slice_index_or, ◌&&◌, ◌==◌, ◌||◌}

-- each of these rows is that of its node
pub record HasRows (graph : Graph) (rows : List (List ℕ)) (wholes : List Bool) : Type 0 where
  -- each row has as many words as it needs
  pub words : HasItsWords rows
  -- the parents of each node are below it
  pub descends : (x : ℕ) → x < length rows → All (λ z. z < x) (graph.parents x)
  -- the row of a node has the bits of its ancestors
  pub bits : (x y : ℕ) → x < length rows → row_has rows x y ≡ reaches graph.parents x y x
  -- its flag says whether it is whole
  pub settled : (x : ℕ) → x < length rows →
      slice_index_or wholes x false ≡ is_whole graph.parents graph.ragged x x

module _ {X : Type 0} (xs : List X) (x d : X) where
  -- the last member is what was added
  last_of : get_or (xs ++ x ∷ []) (length xs) d ≡ x
  last_of =
      let front : length xs - length xs ≡ 0 = omega arith in
      get_or-append_right xs (x ∷ []) (length xs) d (omega arith) ∙ ap (λ i. get_or (x ∷ []) i d) front

  -- what holds of each member and of one more
  each_or_last : (P : ℕ → X → Type 0) →
      ((i : ℕ) → i < length xs → P i (get_or xs i d)) → P (length xs) x →
      (i : ℕ) → i < length (xs ++ x ∷ []) → P i (get_or (xs ++ x ∷ []) i d)
  each_or_last P each last i l =
      elim (cases_lt i (length xs)) [
        | inl low ↦ subst (P i) (sym (get_or_append_left xs (x ∷ []) d i low)) (each i low)
        | inr high ↦
            let is : length xs ≡ i = omega (arith, length-append xs (x ∷ [])) in
            subst (λ (j : ℕ). P j (get_or (xs ++ x ∷ []) j d)) is (subst (P (length xs)) (sym last_of) last)
      ]

-- the rows so far, and what was made for the node that comes next
module _ (graph : Graph) (rows : List (List ℕ)) (wholes : List Bool) (have : HasRows graph rows wholes)
    (even : length wholes ≡ length rows) (row : List ℕ) (whole : Bool)
    (long : length row ≡ words_below (length rows))
    (below : All (λ z. z < length rows) (graph.parents (length rows)))
    (bits : (y : ℕ) → has_bit row y
    ≡ list_any (λ z. (z == y) || row_has rows z y) (graph.parents (length rows)))
    (clean : whole ≡ (not (graph.ragged (length rows))
    && list_all (λ z. slice_index_or wholes z false) (graph.parents (length rows)))) where
  -- its parents are below it too
  descends : (x : ℕ) → x < length rows + 1 → All (λ z. z < x) (graph.parents x)
  descends x l =
      elim (cases_lt x (length rows)) [
        | inl low ↦ have.descends x low
        | inr high ↦
            let is : length rows ≡ x = omega arith in
            subst (λ (n : ℕ). All (λ z. z < n) (graph.parents n)) is below
      ]

  -- its row has its ancestors
  last_bits : (y : ℕ) → has_bit row y ≡ reaches graph.parents (length rows) y (length rows)
  last_bits y =
      bits y
      ∙ any_below (λ z. (z == y) || row_has rows z y) (λ z. (z == y) || reaches graph.parents z y z) (length rows)
      (λ z l. ap (λ t. (z == y) || t) (have.bits z y l)) (graph.parents (length rows)) below
      ∙ sym (reaches_by_parents graph.parents (length rows + 1) descends (length rows) y (omega arith))

  -- its flag says whether it is whole
  last_whole : whole ≡ is_whole graph.parents graph.ragged (length rows) (length rows)
  last_whole =
      clean
      ∙ ap (λ t. not (graph.ragged (length rows)) && t)
      (all_below (λ z. slice_index_or wholes z false) (λ z. is_whole graph.parents graph.ragged z z)
      (length rows) have.settled (graph.parents (length rows)) below)
      ∙ sym (whole_by_parents graph.parents (length rows + 1) descends graph.ragged (length rows) (omega arith))

  -- one node more has its row
  pub one_more : HasRows graph (rows ++ row ∷ []) (wholes ++ whole ∷ [])
  one_more = record {
    words = each_or_last rows row [] (λ x r. length r ≡ words_below x) have.words long;
    descends = λ x l. descends x (omega (arith, length-append rows (row ∷ [])));
    bits = λ x y l.
        each_or_last rows row [] (λ i r. has_bit r y ≡ reaches graph.parents i y i)
        (λ i low. have.bits i y low) (last_bits y) x l;
    settled = λ x l.
        each_or_last wholes whole false (λ i w. w ≡ is_whole graph.parents graph.ragged i i)
        (λ i low. have.settled i (omega arith))
        (subst (λ (n : ℕ). whole ≡ is_whole graph.parents graph.ragged n n) (sym even) last_whole) x
        (omega (arith, length-append rows (row ∷ []), length-append wholes (whole ∷ [])));
  }

-- one node more has its row, where what was read, passed and pushed has names of its own
pub next_node : (graph : Graph) (rows : List (List ℕ)) (wholes : List Bool) → HasRows graph rows wholes →
    (n : ℕ) → length rows ≡ n → length wholes ≡ n →
    (parents : List ℕ) → parents ≡ graph.parents n → All (λ z. z < n) parents →
    (seen : List (List ℕ)) → seen ≡ rows → (row : List ℕ) →
    ((y : ℕ) → has_bit row y ≡ list_any (λ z. (z == y) || row_has seen z y) parents) →
    length row ≡ words_below (length seen) →
    (seen_wholes : List Bool) → seen_wholes ≡ wholes →
    (ragged : Bool) → ragged ≡ graph.ragged n → (whole : Bool) →
    whole ≡ (not ragged && list_all (λ z. slice_index_or seen_wholes z false) parents) →
    HasRows graph (rows ++ row ∷ []) (wholes ++ whole ∷ [])
next_node graph rows wholes have n many even parents are below seen same row bits long
    seen_wholes same_wholes ragged is whole clean =
    let at : n ≡ length rows = sym many in
    let theirs : parents ≡ graph.parents (length rows) = are ∙ ap graph.parents at in
    one_more graph rows wholes have (omega arith) row whole
    (long ∙ ap (λ (rs : List (List ℕ)). words_below (length rs)) same)
    (subst (λ (m : ℕ). All (λ z. z < m) (graph.parents (length rows))) at
    (subst (All (λ z. z < n)) theirs below))
    (λ y. bits y ∙ ap (λ (rs : List (List ℕ)). list_any (λ z. (z == y) || row_has rs z y) parents) same
    ∙ ap (list_any (λ z. (z == y) || row_has rows z y)) theirs)
    (clean ∙ ap (λ (ws : List Bool). not ragged && list_all (λ z. slice_index_or ws z false) parents) same_wholes
    ∙ ap (λ (ps : List ℕ). not ragged && list_all (λ z. slice_index_or wholes z false) ps) theirs
    ∙ ap (λ b. not b && list_all (λ z. slice_index_or wholes z false) (graph.parents (length rows)))
    (is ∙ ap graph.ragged at))
