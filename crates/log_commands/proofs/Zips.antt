-- What holds of two lists place by place.
use Rattle.log_commands.proofs.Imports.{[], AllZip, List, ◌∷◌}

-- so does what follows from it at each place
pub zip_weaker : {A B : Type 0} (P Q : A → B → Type 0) → ((x : A) (y : B) → P x y → Q x y) → (xs : List A)
    (ys : List B) → AllZip P xs ys → AllZip Q xs ys
zip_weaker P Q step [] [] all = tt
zip_weaker P Q step (x ∷ xs) (y ∷ ys) (first, all) = (step x y first, zip_weaker P Q step xs ys all)
zip_weaker P Q step xs ys all = absurd all
