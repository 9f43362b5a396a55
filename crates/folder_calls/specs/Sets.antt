-- Files that belong together: of a set the first file is the mark, as a roster, which says which others
-- there are. It is taken away first and put in place last.
use Rattle.std.specs.Prelude.{◌≡◌, ◌⊎◌, ℕ, Bool, true, false, ⊤, List, [], ◌∷◌, Option, Some, None, string_bytes}
use Rattle.folder_calls.specs.World.{FolderMoment, Leaves}
use Rattle.folder_calls.specs.Placing.{is_other, view, IsNewContent, AreOld, AreInPlace, IsOldOrNew}
use Rattle.folder_calls.specs.declared.begun.Begun.{Begun}

-- a crash leaves nothing under the name
abbrev pub IsGone : List ℕ → FolderMoment → Type 0
IsGone name w = (content : Option (List ℕ)) → Leaves w name content → content ≡ None

-- the set is old: a crash leaves of each file what one at the first moment might have left, and of the
-- mark that or nothing
pub record IsOldSet (mark : Begun) (rest : List Begun) (first w : FolderMoment) : Type 0 where
  pub others : AreOld rest first w
  pub own : (content : Option (List ℕ)) → Leaves w (string_bytes mark.name) content
      → Leaves first (string_bytes mark.name) content ⊎ (content ≡ None)

-- the set is new: a crash leaves the new bytes of each file, and of the mark these or nothing
pub record IsNewSet (mark : Begun) (rest : List Begun) (first w : FolderMoment) : Type 0 where
  pub others : AreInPlace rest first w
  pub own : (content : Option (List ℕ)) → Leaves w (string_bytes mark.name) content
      → (content ≡ Some (first.node mark.number).bytes) ⊎ (content ≡ None)

-- A moment since the first one, at which a set is put in place. A crash leaves under each name what one
-- at the first moment might have left, or the new bytes, or nothing under the mark's name. The set is
-- old, or new, or has no mark. The store shows the same files, and no file's bytes changed.
pub record IsWholeSet (mark : Begun) (rest : List Begun) (first w : FolderMoment) : Type 0 where
  pub leaves : (name : List ℕ) (content : Option (List ℕ)) → is_other name ≡ false → Leaves w name content
      → Leaves first name content ⊎ (IsNewContent (mark ∷ rest) first name content
      ⊎ ((name ≡ string_bytes mark.name) × (content ≡ None)))
  pub whole : IsOldSet mark rest first w ⊎ (IsNewSet mark rest first w ⊎ IsGone (string_bytes mark.name) w)
  pub shows : (name : List ℕ) → view (mark ∷ rest) w name ≡ view (mark ∷ rest) first name
  pub bytes : (i : ℕ) → (w.node i).bytes ≡ (first.node i).bytes

-- The law of sets: where a crash leaves a mark, it leaves all others old, or all others new.
abbrev pub IsNeverMixed : Type 0
IsNeverMixed = (mark : Begun) (rest : List Begun) (first w : FolderMoment) → IsWholeSet mark rest first w
    → (bytes : List ℕ) → Leaves w (string_bytes mark.name) (Some bytes)
    → AreOld rest first w ⊎ AreInPlace rest first w

-- several files, of which the first is a mark, are a set
abbrev pub marks_set : List Begun → Bool
marks_set [] = false
marks_set (b ∷ []) = false
marks_set (b ∷ x ∷ xs) = b.is_mark

-- the first of these files is the mark of the others
abbrev pub IsWholeOf : List Begun → FolderMoment → FolderMoment → Type 0
IsWholeOf [] first w = ⊤
IsWholeOf (mark ∷ rest) first w = IsWholeSet mark rest first w

-- A moment since the first one, at which files are put in place: a set whole, and others in their order.
pub record IsPlacing (begun : List Begun) (first w : FolderMoment) : Type 0 where
  pub files : marks_set begun ≡ false → IsOldOrNew begun first w
  pub set : marks_set begun ≡ true → IsWholeOf begun first w
  pub shows : (name : List ℕ) → view begun w name ≡ view begun first name
