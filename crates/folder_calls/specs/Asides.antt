-- What the functions need that put a set in place.
use Rattle.std.specs.Prelude.{◌≡◌, ◌⊎◌, ℕ, false, ⊤, List, [], ◌∷◌, Option, None, string_bytes}
use Rattle.std.specs.Str.{bytes_eq}
use Rattle.folder_calls.specs.World.{FolderMoment, Leaves}
use Rattle.folder_calls.specs.Placing.{is_other, view}
use Rattle.folder_calls.specs.declared.begun.Begun.{Begun}

-- A later moment at which a crash leaves no more than at the first, or nothing under the mark's name,
-- and the same is in place but for the mark.
pub record IsSetAside (mark : Begun) (first w : FolderMoment) : Type 0 where
  pub leaves : (name : List ℕ) (content : Option (List ℕ)) → is_other name ≡ false → Leaves w name content
      → Leaves first name content ⊎ ((name ≡ string_bytes mark.name) × (content ≡ None))
  pub shows : (name : List ℕ) → bytes_eq name (string_bytes mark.name) ≡ false → view [] w name ≡ view [] first name
  pub bytes : (i : ℕ) → (w.node i).bytes ≡ (first.node i).bytes

-- no file of these is written under this name
abbrev pub AreElsewhere : List ℕ → List Begun → Type 0
AreElsewhere aside [] = ⊤
AreElsewhere aside (b ∷ bs) = (bytes_eq (string_bytes b.other_name) aside ≡ false) × AreElsewhere aside bs
