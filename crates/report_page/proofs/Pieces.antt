-- Lists made piece by piece.
use Rattle.report_page.proofs.Imports.{◌≡◌, ◌∙◌, ℕ, zero, suc, ◌+◌, ◌<◌, ◌≤◌, List, [], ◌∷◌, ◌++◌, length, take}
use Rattle.report_page.proofs.Imports.{get_or, map, ap, sym, append_assoc, append-nil, arith, flat_map, zip}
use Rattle.report_page.proofs.Imports.{range_with_len, flat_map-append, take_more, take_all, get_or-map, length-map}
use Rattle.report_page.proofs.Imports.{length-zip, get_or-zip, map-range_with_len_more}

range_last : (a n : ℕ) → range_with_len a (suc n) ≡ range_with_len a n ++ (a + n) ∷ []
range_last a zero = let same : a ≡ a + 0 = omega arith in ap (λ k. k ∷ []) same
range_last a (suc n) =
    let same : a + 1 + n ≡ a + suc n = omega arith in
    ap (λ l. a ∷ l) (range_last (a + 1) n ∙ ap (λ k. range_with_len (a + 1) n ++ k ∷ []) same)

-- one place more
pub range_more : (n : ℕ) → range_with_len 0 (n + 1) ≡ range_with_len 0 n ++ n ∷ []
range_more n =
    let on : n + 1 ≡ suc n = omega arith in
    let at : 0 + n ≡ n = omega arith in
    ap (range_with_len 0) on ∙ range_last 0 n ∙ ap (λ k. range_with_len 0 n ++ k ∷ []) at

-- the pieces of the first items and of the next one are those of one item more
pub piece_more : {A B : Type 0} (f : A → List B) (xs : List A) (i : ℕ) (x d : A) (start now new : List B) →
    i < length xs → x ≡ get_or xs i d → now ≡ start ++ flat_map f (take i xs) → new ≡ now ++ f x →
    new ≡ start ++ flat_map f (take (i + 1) xs)
piece_more {A} {B} f xs i x d start now new within is so_far written =
    let grown : flat_map f (take (i + 1) xs) ≡ flat_map f (take i xs) ++ f x =
    ap (flat_map f) (take_more xs i d within) ∙ flat_map-append f (take i xs) (get_or xs i d ∷ [])
    ∙ ap (λ (l : List B). flat_map f (take i xs) ++ l) (append-nil (f (get_or xs i d)))
    ∙ ap (λ (y : A). flat_map f (take i xs) ++ f y) (sym is) in
    written ∙ ap (λ (t : List B). t ++ f x) so_far ∙ append_assoc start (flat_map f (take i xs)) (f x)
    ∙ ap (λ (t : List B). start ++ t) (sym grown)

-- the pieces of the first places and of the next one are those of one place more
pub place_more : {B : Type 0} (f : ℕ → List B) (i : ℕ) (start now new : List B) →
    now ≡ start ++ flat_map f (range_with_len 0 i) → new ≡ now ++ f i →
    new ≡ start ++ flat_map f (range_with_len 0 (i + 1))
place_more {B} f i start now new so_far written =
    let grown : flat_map f (range_with_len 0 (i + 1)) ≡ flat_map f (range_with_len 0 i) ++ f i =
    ap (flat_map f) (range_more i) ∙ flat_map-append f (range_with_len 0 i) (i ∷ [])
    ∙ ap (λ (l : List B). flat_map f (range_with_len 0 i) ++ l) (append-nil (f i)) in
    written ∙ ap (λ (t : List B). t ++ f i) so_far ∙ append_assoc start (flat_map f (range_with_len 0 i)) (f i)
    ∙ ap (λ (t : List B). start ++ t) (sym grown)

-- the items of the first places and that of the next one are those of one place more
pub item_more : {B : Type 0} (f : ℕ → B) (i : ℕ) (start now new : List B) →
    now ≡ start ++ map f (range_with_len 0 i) → new ≡ now ++ f i ∷ [] →
    new ≡ start ++ map f (range_with_len 0 (i + 1))
item_more {B} f i start now new so_far written =
    let at : 0 + i ≡ i = omega arith in
    written ∙ ap (λ (t : List B). t ++ f i ∷ []) so_far ∙ append_assoc start (map f (range_with_len 0 i)) (f i ∷ [])
    ∙ ap (λ (t : List B). start ++ t) (sym (map-range_with_len_more f 0 i i at))

-- as many pairs as items
length-pairs : {A B C : Type 0} (v : A → B) (xs : List A) (ys : List C) → length xs ≡ length ys →
    length (zip (map v xs) ys) ≡ length xs
length-pairs v xs ys same = omega (arith, length-zip (map v xs) ys, length-map xs v, same)

-- the pieces so far of pairs, whose first members are what `v` makes of items, grow by those of the
-- next pair
pub pair_more : {A B C D : Type 0} (v : A → B) (f : B × C → List D) (xs : List A) (ys : List C) (i : ℕ) (x : A) (y : C)
    (start now new : List D) → length xs ≡ length ys → i < length xs → x ≡ get_or xs i x → y ≡ get_or ys i y →
    now ≡ start ++ flat_map f (take i (zip (map v xs) ys)) → new ≡ now ++ f (v x, y) →
    new ≡ start ++ flat_map f (take (i + 1) (zip (map v xs) ys))
pair_more {A} {B} {C} {D} v f xs ys i x y start now new same within is also so_far written =
    piece_more f (zip (map v xs) ys) i (v x, y) (v x, y) start now new
    (omega (arith, length-pairs v xs ys same)) at so_far written
  where
    -- what `v` makes of the item at a place, beside its partner, is the pair at that place
    at : (v x, y) ≡ get_or (zip (map v xs) ys) i (v x, y)
    at = ap (λ (a : B). (a, y)) (ap v is ∙ sym (get_or-map v xs i x (v x) within))
        ∙ ap (λ (b : C). (get_or (map v xs) i (v x), b)) also
        ∙ sym (get_or-zip (map v xs) ys i (v x, y) (omega (arith, length-map xs v)) (omega arith))

-- the pieces of all pairs
pub pairs_all : {A B C D : Type 0} (v : A → B) (f : B × C → List D) (xs : List A) (ys : List C) (i : ℕ)
    (start now : List D) → length xs ≡ length ys → length xs ≤ i →
    now ≡ start ++ flat_map f (take i (zip (map v xs) ys)) → now ≡ start ++ flat_map f (zip (map v xs) ys)
pairs_all {A} {B} {C} {D} v f xs ys i start now same past so_far =
    so_far ∙ ap (λ (ps : List (B × C)). start ++ flat_map f ps)
    (take_all i (zip (map v xs) ys) (omega (arith, length-pairs v xs ys same)))
