-- What a file may be begun over.
use Rattle.std.specs.Prelude.{◌≡◌, ◌⊎◌, ℕ, List, Option, None, Some}
use Rattle.folder_calls.specs.World.{FolderMoment}
use Rattle.hall_outside.specs.declared.stores.Taken.{Taken}
use Rattle.hall_outside.specs.declared.stores.Taken.TheVariants.{Absent, Bytes}
use Rattle.hall_outside.specs.declared.refusals.Standing.{Standing}
use Rattle.hall_outside.specs.Replacing.{MayReplace}

-- nothing has the name, or what was found under it may be replaced
abbrev pub MayBegin : List ℕ → FolderMoment → Type 0
MayBegin name w = (w.at name ≡ None) ⊎ ((i : ℕ) × (standing : Standing) × (w.at name ≡ Some i)
    × ((w.node i).regular ≡ standing.is_regular) × MayReplace standing)

-- what a read took, by what the folder gave
abbrev pub taken_of : Option ℕ → Taken
taken_of None = Absent
taken_of (Some n) = Bytes n
