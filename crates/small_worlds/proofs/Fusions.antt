-- Worlds as vectors: a machine changed in its place, and its history.
use Rattle.entry_order.specs.World.{history, Machine, with_machine}
use Rattle.std.proofs.Common.{[], ap, arith, List, map, refl, ◌∷◌, ◌≡◌}
use Rattle.std.specs.Prelude.{length, slice_index_or, slice_set, suc, zero, ℕ, ◌<◌, ◌≤◌}

-- a machine changed in its place, and past the end
pub with_machine_at : {T : Type 0} (m : ℕ) (change : Machine T → Machine T) (w : List (Machine T))
    (d b : Machine T) → m < length w → b ≡ change (slice_index_or w m d) → slice_set w m b ≡ with_machine m change w
with_machine_at m change [] d b l e = absurd (omega arith)
with_machine_at zero change (c ∷ w) d b l e = ap (λ a. a ∷ w) e
with_machine_at (suc m) change (c ∷ w) d b l e = ap (λ v. c ∷ v) (with_machine_at m change w d b (omega arith) e)

-- no machine is past the end
pub with_machine_past : {T : Type 0} (m : ℕ) (change : Machine T → Machine T) (w : List (Machine T)) →
    length w ≤ m → with_machine m change w ≡ w
with_machine_past m change [] l = refl
with_machine_past zero change (a ∷ w) l = absurd (omega arith)
with_machine_past (suc m) change (a ∷ w) l = ap (λ v. a ∷ v) (with_machine_past m change w (omega arith))

-- what the steps of a world use
pub ruleset changes = (with_machine_past)

-- the history of a machine of the world
pub history_at : {T : Type 0} (w : List (Machine T)) (m : ℕ) (d : Machine T) → m < length w →
    history w m ≡ (slice_index_or w m d).history
history_at [] m d l = absurd (omega arith)
history_at (a ∷ w) zero d l = refl
history_at (a ∷ w) (suc m) d l = history_at w m d (omega arith)

-- a list mapped to itself
pub map_same : {X : Type 0} (xs : List X) → map (λ x. x) xs ≡ xs
map_same [] = refl
map_same (x ∷ xs) = ap (λ ys. x ∷ ys) (map_same xs)
