-- Items of a list by where it parts.
use Rattle.election_script.proofs.Imports.{[], All, All-append, All-contains, All-nil, All-take, all_pairs_push}
use Rattle.election_script.proofs.Imports.{AllPairs, Any, ap, arith, flat_map, get_or, get_or-append_seam}
use Rattle.election_script.proofs.Imports.{get_or_append_left, get_or_default, length, length-append, List, refl, suc}
use Rattle.election_script.proofs.Imports.{sym, take_at, ◌++◌, ◌∙◌, ◌∷◌, ◌≡◌, ◌≢◌}

-- what holds of all items holds of the one in the middle
pub middle : {X : Type 0} (P : X → Type 0) (xs a b : List X) (x : X) → xs ≡ a ++ x ∷ b → All P xs → P x
middle P xs a b x is all =
    let size = length-append a (x ∷ b) in
    All-contains P (a ++ x ∷ b) x (rw is at all) (length a, omega (arith, size), get_or-append_seam a x b x)

-- what holds of all items holds of those in front
pub all_in_front : {X : Type 0} (P : X → Type 0) (xs a b : List X) → xs ≡ a ++ b → All P xs → All P a
all_in_front P xs a b is all = rw (is, take_at a b (length a) refl) at (All-take P (length a) xs all)

-- an item that differs from all others in some way differs so from those in front of it
pub fresh : {X V : Type 0} (v : X → V) (xs a b : List X) (x : X) → xs ≡ a ++ x ∷ b →
    AllPairs (λ (y z : X). v y ≢ v z) xs → Any (λ (y : X). v y ≡ v x) a → ⊥
fresh v xs a b x is distinct (k, y, within, at, same) =
    let size = length-append a (x ∷ b) in
    (rw is at distinct) k (length a) y within (omega (arith, size))
    (ap v (get_or_append_left a (x ∷ b) y k within ∙ at) ∙ same ∙ sym (ap v (get_or-append_seam a x b y)))

-- and one that differs so from all others may come after them
pub fresh_push : {X V : Type 0} (v : X → V) (xs : List X) (x : X) → AllPairs (λ (y z : X). v y ≢ v z) xs →
    (Any (λ (y : X). v y ≡ v x) xs → ⊥) → AllPairs (λ (y z : X). v y ≢ v z) (xs ++ x ∷ [])
fresh_push v xs x distinct new =
    all_pairs_push (λ y z. v y ≢ v z) xs x distinct
    (λ k y below same. new (k, get_or xs k y, below, get_or_default xs k _ _ below, same))

-- of no items no two are the same in some way
pub no_pairs : {X V : Type 0} (v : X → V) → AllPairs (λ (y z : X). v y ≢ v z) []
no_pairs v = λ i j d below within. absurd (omega arith)

-- what holds of each item of each piece holds of the pieces end to end
pub all_pieces : {X A : Type 0} (P : A → Type 0) (f : X → List A) (xs : List X) → All (λ x. All P (f x)) xs
    → All P (flat_map f xs)
all_pieces P f [] h = All-nil P
all_pieces P f (x ∷ xs) h =
    All-append P (f x) (flat_map f xs) (h 0 x (omega arith)) (all_pieces P f xs (λ k d g. h (suc k) d (omega arith)))
