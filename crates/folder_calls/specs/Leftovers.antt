-- What is left under the names that files have until they are put in place.
use Rattle.std.specs.Prelude.{◌≡◌, ◌⊎◌, ℕ, ◌≤◌, true, ⊤, List, [], ◌∷◌, length, take, None, Result, Ok, Err, string_bytes}
use Rattle.folder_calls.specs.World.{FolderMoment}
use Rattle.folder_calls.specs.Placing.{is_other}
use Rattle.folder_calls.specs.declared.begun.Begun.{Begun}
use Rattle.folder_calls.specs.declared.placing.Stopped.{Stopped}

-- nothing stands under the other name of any of these files, unless the name's removal failed
abbrev pub AreGone : (List ℕ → Type 0) → List Begun → FolderMoment → Type 0
AreGone removal_failed [] w = ⊤
AreGone removal_failed (b ∷ bs) w =
    ((w.at (string_bytes b.other_name) ≡ None) ⊎ removal_failed (string_bytes b.other_name)) × AreGone removal_failed bs w

-- these files were renamed: nothing stands under their other names
abbrev pub AreRenamed : List Begun → FolderMoment → Type 0
AreRenamed [] w = ⊤
AreRenamed (b ∷ bs) w = (is_other (string_bytes b.other_name) ≡ true) × (w.at (string_bytes b.other_name) ≡ None)
    × AreRenamed bs w

-- so many of these files, the first ones, were renamed
abbrev pub AreFirstRenamed : ℕ → List Begun → FolderMoment → Type 0
AreFirstRenamed n bs w = (n ≤ length bs) × AreRenamed (take n bs) w

-- all of these files were renamed, or as many as the failure says
abbrev pub IsRenaming : {T : Type 0} → Result T Stopped → List Begun → FolderMoment → Type 0
IsRenaming (Ok done) bs w = AreRenamed bs w
IsRenaming (Err stopped) bs w = AreFirstRenamed stopped.renamed bs w
