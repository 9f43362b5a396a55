-- Texts of pieces, one piece more.
use Rattle.auditor.proofs.Imports.{[], append-nil, append_assoc, arith, flat_map, flat_map-append, get_or, get_or-map}
use Rattle.auditor.proofs.Imports.{get_or-zip, length, length-map, length-zip, List, map, take, take_all, take_more}
use Rattle.auditor.proofs.Imports.{zip, ℕ, ◌++◌, ◌+◌, ◌<◌, ◌∷◌, ◌≡◌, ◌≤◌}

-- the text of the first items and of the next one is that of one item more
pub piece_more : {A : Type 0} (f : A → List ℕ) (xs : List A) (i : ℕ) (x d : A) (start now new : List ℕ) →
    i < length xs → x ≡ get_or xs i d → now ≡ start ++ flat_map f (take i xs) → new ≡ now ++ f x →
    new ≡ start ++ flat_map f (take (i + 1) xs)
piece_more f xs i x d start now new within is so_far written =
    cc (
      take_more xs i d within,
      flat_map-append f (take i xs) (get_or xs i d ∷ []),
      append-nil (f x),
      append_assoc start (flat_map f (take i xs)) (f x),
    )

-- as many pairs as items
length-pairs : {A B C : Type 0} (v : A → B) (xs : List A) (ys : List C) → length xs ≡ length ys →
    length (zip (map v xs) ys) ≡ length xs
length-pairs v xs ys same = omega (arith, length-zip (map v xs) ys, length-map xs v, same)

-- the text so far of pairs, whose first members are what `v` makes of items, grows by that of the
-- next pair
pub pair_more : {A B C : Type 0} (v : A → B) (f : B × C → List ℕ) (xs : List A) (ys : List C) (i : ℕ) (x : A) (y : C)
    (start now new : List ℕ) → length xs ≡ length ys → i < length xs → x ≡ get_or xs i x → y ≡ get_or ys i y →
    now ≡ start ++ flat_map f (take i (zip (map v xs) ys)) → new ≡ now ++ f (v x, y) →
    new ≡ start ++ flat_map f (take (i + 1) (zip (map v xs) ys))
pair_more v f xs ys i x y start now new same within is also so_far written =
    let at : (v x, y) ≡ get_or (zip (map v xs) ys) i (v x, y) =
    cc (
      get_or-map v xs i x (v x) within,
      get_or-zip (map v xs) ys i (v x, y) (omega (arith, length-map xs v)) (omega arith),
    ) in
    piece_more f (zip (map v xs) ys) i (v x, y) (v x, y) start now new
    (omega (arith, length-pairs v xs ys same)) at so_far written

-- the text of all pairs
pub pairs_all : {A B C : Type 0} (v : A → B) (f : B × C → List ℕ) (xs : List A) (ys : List C) (i : ℕ)
    (start now : List ℕ) → length xs ≡ length ys → length xs ≤ i →
    now ≡ start ++ flat_map f (take i (zip (map v xs) ys)) → now ≡ start ++ flat_map f (zip (map v xs) ys)
pairs_all v f xs ys i start now same past so_far =
    rw (take_all i (zip (map v xs) ys) (omega (arith, length-pairs v xs ys same))) at so_far
