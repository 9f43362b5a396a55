-- What a try for a new file comes to.
use Rattle.std.specs.Prelude.{◌≡◌, ℕ, List, Option, Some, None}
use Rattle.folder_calls.specs.World.{Moments, Now, Goes, IsClear, Creates}

-- the name stands for the file of this number, where the folder is exposed
abbrev pub IsUnder : List ℕ → ℕ → Moments → Type 0
IsUnder name i ws = Now ws (λ w. w.at name ≡ Some i)

-- a file was created, or nothing is changed but what stands under the name
abbrev pub IsTried : List ℕ → Moments → Moments → Option ℕ → Type 0
IsTried name old new None = Goes (IsClear name) old new
IsTried name old new (Some i) = Creates name old new i
