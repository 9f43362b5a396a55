-- What a read gives once the file was looked for.
use Rattle.hall_outside.proofs.Imports.{[], ap, GivesPart, List, Moments, None, Now, Option, option_map, refl, subst, ℕ}
use Rattle.hall_outside.proofs.Imports.{◌∷◌, ◌≡◌}

-- where no file has the name, the answer that there is none is right
pub none_there : (ws : Moments) (name : List ℕ) (at : ℕ) (into : List ℕ) → Now ws (λ w. w.at name ≡ None)
    → GivesPart ws name at into into None
none_there [] name at into free = (refl, tt)
none_there (w ∷ ws) name at into free = (refl, ap (option_map (λ i. (w.node i).bytes)) free)

-- where no moment came in between, what a read gave is of the moments before
pub given_since : (ws mid : Moments) (name : List ℕ) (at : ℕ) (old new : List ℕ) (given : Option ℕ) → mid ≡ ws
    → GivesPart mid name at old new given → GivesPart ws name at old new given
given_since ws mid name at old new given same is = subst (λ m. GivesPart m name at old new given) same is
