-- Lists that grow by a place at a time.
use Rattle.entangled_picture.proofs.Imports.{[], arith, map-range_with_len_more, range_with_len, suc, ℕ, ◌++◌, ◌+◌, ◌-◌}
use Rattle.entangled_picture.proofs.Imports.{◌<◌, ◌∷◌, ◌≡◌}
use Rattle.std.proofs.lemmas.{Grind.common_steps, List.map-id, List.map_more, List.FromFn.length-range_with_len}
use Rattle.std.proofs.lemmas.Option.{gets}

-- the places up to one, with one more behind
pub range_more : (n : ℕ) → range_with_len 0 (n + 1) ≡ range_with_len 0 n ++ n ∷ []
range_more n = simp map-id at (map-range_with_len_more (λ (k : ℕ). k) 0 n n (omega arith))

-- the places from one on, with the first apart
pub range_from : (i n : ℕ) → i < n → range_with_len i (n - i) ≡ i ∷ range_with_len (i + 1) (n - (i + 1))
range_from i n less = let more : n - i ≡ suc (n - (i + 1)) = omega arith in rw more

-- what loops over places and items need
pub ruleset growing = (common_steps, range_more, range_from, map_more, gets, length-range_with_len)
