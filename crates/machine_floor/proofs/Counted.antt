-- How many actions a script has, counted machine by machine.
use Rattle.machine_floor.proofs.Imports.{◌≡◌, ℕ, ◌+◌, ◌<◌, ◌≤◌, List, [], ◌∷◌, length, sym, ap, ◌∙◌, arith, get_or}
use Rattle.machine_floor.proofs.Imports.{drop, length-append, take, flat_map-append, append-nil, take-append-drop}
use Rattle.machine_floor.proofs.Imports.{take_more, flat_map}

module _ {X A : Type 0} (f : X → List A) (xs : List X) (i : ℕ) where
  -- one machine more
  pub counted_more : (x : X) → i < length xs → x ≡ get_or xs i x →
      length (flat_map f (take (i + 1) xs)) ≡ length (flat_map f (take i xs)) + length (f x)
  counted_more x lt is =
      let all = ap (λ l. length (flat_map f l)) (take_more xs i x lt)
      ∙ ap length (flat_map-append f (take i xs) (get_or xs i x ∷ [])) in
      let both = length-append (flat_map f (take i xs)) (flat_map f (get_or xs i x ∷ [])) in
      let one : length (flat_map f (get_or xs i x ∷ [])) ≡ length (f x) =
      ap length (append-nil (f (get_or xs i x))) ∙ ap (λ y. length (f y)) (sym is) in
      omega arith

  -- the first machines have no more than all
  pub counted_few : length (flat_map f (take i xs)) ≤ length (flat_map f xs)
  counted_few =
      let all = ap (λ l. length (flat_map f l)) (sym (take-append-drop i xs))
      ∙ ap length (flat_map-append f (take i xs) (drop i xs)) in
      let both = length-append (flat_map f (take i xs)) (flat_map f (drop i xs)) in
      omega arith
