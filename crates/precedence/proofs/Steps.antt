-- What a node's ancestors are, by its parents'.
use Rattle.entry_order.specs.Ancestors.{is_whole, reaches}
use Rattle.std.proofs.Common.{[], ap, arith, Bool, List, refl, suc, sym, zero, ℕ, ◌<◌, ◌∙◌, ◌∷◌, ◌≡◌, ◌≤◌}
use Rattle.std.proofs.{Math.Bool.and-true, lemmas.List.Elements.All-head, lemmas.List.Elements.All-tail}
use Rattle.std.specs.{List.All, List.list_all, List.list_any, Prelude.not, Prelude.◌&&◌, Prelude.◌==◌, Prelude.◌||◌}

-- two tests that agree below n find the same in a list of numbers below n
pub any_below : (p q : ℕ → Bool) (n : ℕ) → ((z : ℕ) → z < n → p z ≡ q z) →
    (zs : List ℕ) → All (λ z. z < n) zs → list_any p zs ≡ list_any q zs
any_below p q n same [] all = refl
any_below p q n same (z ∷ zs) all =
    ap (λ b. b || list_any p zs) (same z (All-head (λ z. z < n) z zs all))
    ∙ ap (λ b. q z || b) (any_below p q n same zs (All-tail (λ z. z < n) z zs all))

-- two tests that agree below n hold alike of all numbers in a list of numbers below n
pub all_below : (p q : ℕ → Bool) (n : ℕ) → ((z : ℕ) → z < n → p z ≡ q z) →
    (zs : List ℕ) → All (λ z. z < n) zs → list_all p zs ≡ list_all q zs
all_below p q n same [] all = refl
all_below p q n same (z ∷ zs) all =
    ap (λ b. b && list_all p zs) (same z (All-head (λ z. z < n) z zs all))
    ∙ ap (λ b. q z && b) (all_below p q n same zs (All-tail (λ z. z < n) z zs all))

-- no numbers are below 0
none_of : (x : ℕ) → x ≤ zero → (zs : List ℕ) → All (λ z. z < x) zs → zs ≡ []
none_of x least [] all = refl
none_of x least (z ∷ zs) all = absurd (let h = All-head (λ z. z < x) z zs all in omega arith)

module _ (parents : ℕ → List ℕ) (count : ℕ)
    (descends : (x : ℕ) → x < count → All (λ z. z < x) (parents x)) where
  -- whether y is the node z or reached from it by n arrows
  abbrev step : ℕ → ℕ → ℕ → Bool
  step n y z = (z == y) || reaches parents n y z

  -- more arrows than a node's number reach no more
  same_reach : (n m x y : ℕ) → x ≤ n → x ≤ m → x < count → reaches parents n y x ≡ reaches parents m y x
  same_reach zero zero x y a b node = refl
  same_reach zero (suc m) x y a b node =
      sym (ap (list_any (step m y)) (none_of x (omega arith) (parents x) (descends x node)))
  same_reach (suc n) zero x y a b node =
      ap (list_any (step n y)) (none_of x (omega arith) (parents x) (descends x node))
  same_reach (suc n) (suc m) x y a b node =
      any_below (step n y) (step m y) x
      (λ z l. ap (λ t. (z == y) || t) (same_reach n m z y (omega arith) (omega arith) (omega arith)))
      (parents x) (descends x node)

  -- an ancestor is a parent or an ancestor of one
  pub reaches_by_parents : (x y : ℕ) → x < count →
      reaches parents x y x ≡ list_any (λ z. (z == y) || reaches parents z y z) (parents x)
  reaches_by_parents x y node =
      same_reach x (suc x) x y (omega arith) (omega arith) node
      ∙ any_below (step x y) (λ z. (z == y) || reaches parents z y z) x
      (λ z l. ap (λ t. (z == y) || t) (same_reach x z z y (omega arith) (omega arith) (omega arith)))
      (parents x) (descends x node)

  module _ (ragged : ℕ → Bool) where
    -- nor do they find more that is ragged
    same_whole : (n m x : ℕ) → x ≤ n → x ≤ m → x < count →
        is_whole parents ragged n x ≡ is_whole parents ragged m x
    same_whole zero zero x a b node = refl
    same_whole zero (suc m) x a b node =
        sym (and-true (not (ragged x)))
        ∙ sym (ap (λ zs. not (ragged x) && list_all (λ z. is_whole parents ragged m z) zs)
        (none_of x (omega arith) (parents x) (descends x node)))
    same_whole (suc n) zero x a b node =
        ap (λ zs. not (ragged x) && list_all (λ z. is_whole parents ragged n z) zs)
        (none_of x (omega arith) (parents x) (descends x node))
        ∙ and-true (not (ragged x))
    same_whole (suc n) (suc m) x a b node =
        ap (λ t. not (ragged x) && t)
        (all_below (λ z. is_whole parents ragged n z) (λ z. is_whole parents ragged m z) x
        (λ z l. same_whole n m z (omega arith) (omega arith) (omega arith)) (parents x) (descends x node))

    -- a node is whole that isn't ragged and whose parents are whole
    pub whole_by_parents : (x : ℕ) → x < count →
        is_whole parents ragged x x ≡ (not (ragged x) && list_all (λ z. is_whole parents ragged z z) (parents x))
    whole_by_parents x node =
        same_whole x (suc x) x (omega arith) (omega arith) node
        ∙ ap (λ t. not (ragged x) && t)
        (all_below (λ z. is_whole parents ragged x z) (λ z. is_whole parents ragged z z) x
        (λ z l. same_whole x z z (omega arith) (omega arith) (omega arith)) (parents x) (descends x node))
