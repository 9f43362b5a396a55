-- Files that are put in place together: each name has its old or its new bytes at each moment.
use Rattle.std.specs.Prelude.{◌≡◌, ◌⊎◌, ℕ, Bool, true, false, ⊤, IsTrue, if◌then◌else◌, List, [], ◌∷◌, take, Option, Some, None, option_map, string_bytes, codes, nat_eq}
use Rattle.std.specs.Str.{bytes_eq}
use Rattle.folder_calls.specs.World.{FolderMoment, Moments, Among, Leaves}
use Rattle.folder_calls.specs.declared.begun.Begun.{Begun}

-- what follows the last slash, of which `part` begins after the last one so far
abbrev pub after_last : List ℕ → List ℕ → List ℕ
after_last part [] = part
after_last part (c ∷ cs) = if nat_eq c 47 then after_last cs cs else after_last part cs

-- a name that files have until they are put in place: its last part begins so
abbrev pub is_other : List ℕ → Bool
is_other name = bytes_eq (take 12 (after_last name name)) (codes ".auditorium-")

-- the files as the store shows them: those that were begun, and else those that are in place
abbrev pub view : List Begun → FolderMoment → List ℕ → Option (List ℕ)
view [] w name = if is_other name then None else option_map (λ i. (w.node i).bytes) (w.at name)
view (b ∷ bs) w name = if bytes_eq name (string_bytes b.name) then Some (w.node b.number).bytes else view bs w name

-- these are the bytes of a file that was begun under this name
abbrev pub IsNewContent : List Begun → FolderMoment → List ℕ → Option (List ℕ) → Type 0
IsNewContent [] w name content = ⊥
IsNewContent (b ∷ bs) w name content =
    ((string_bytes b.name ≡ name) × (content ≡ Some (w.node b.number).bytes)) ⊎ IsNewContent bs w name content

-- a crash leaves the new bytes of the file, and nothing else
abbrev pub IsInPlace : Begun → FolderMoment → FolderMoment → Type 0
IsInPlace b first w = (content : Option (List ℕ)) → Leaves w (string_bytes b.name) content
    → content ≡ Some (first.node b.number).bytes

-- all are placed
abbrev pub AreInPlace : List Begun → FolderMoment → FolderMoment → Type 0
AreInPlace [] first w = ⊤
AreInPlace (b ∷ bs) first w = IsInPlace b first w × AreInPlace bs first w

-- a crash leaves of each what one at the first moment might have left
abbrev pub AreOld : List Begun → FolderMoment → FolderMoment → Type 0
AreOld [] first w = ⊤
AreOld (b ∷ bs) first w = ((content : Option (List ℕ)) → Leaves w (string_bytes b.name) content
    → Leaves first (string_bytes b.name) content) × AreOld bs first w

-- some of them are in place, one is on its way, and those after it are old
abbrev pub IsInOrder : List Begun → FolderMoment → FolderMoment → Type 0
IsInOrder [] first w = ⊤
IsInOrder (b ∷ bs) first w = (IsInPlace b first w × IsInOrder bs first w) ⊎ AreOld bs first w

-- A moment since the first one, at which the files that were begun are put in place. A crash leaves
-- under each name what one at the first moment might have left, or the new bytes, and of the files in
-- their order. The store shows the same files, and no file's bytes changed.
pub record IsOldOrNew (begun : List Begun) (first w : FolderMoment) : Type 0 where
  pub leaves : (name : List ℕ) (content : Option (List ℕ)) → is_other name ≡ false
      → Leaves w name content → Leaves first name content ⊎ IsNewContent begun first name content
  pub order : IsInOrder begun first w
  pub shows : (name : List ℕ) → view begun w name ≡ view begun first name
  pub bytes : (i : ℕ) → (w.node i).bytes ≡ (first.node i).bytes

-- no other file that was begun has one of its names
abbrev pub IsApart : Begun → List Begun → Type 0
IsApart b [] = ⊤
IsApart b (x ∷ xs) = (bytes_eq (string_bytes x.name) (string_bytes b.name) ≡ false)
    × (bytes_eq (string_bytes x.other_name) (string_bytes b.other_name) ≡ false) × IsApart b xs

-- the file stands under its other name
pub record StandsBegun (b : Begun) (w : FolderMoment) : Type 0 where
  pub stands : w.at (string_bytes b.other_name) ≡ Some b.number
  pub other : is_other (string_bytes b.other_name) ≡ true
  pub name : is_other (string_bytes b.name) ≡ false

-- each stands under its other name, and no two have the same name
abbrev pub AreBegun : List Begun → FolderMoment → Type 0
AreBegun [] w = ⊤
AreBegun (b ∷ bs) w = StandsBegun b w × IsApart b bs × AreBegun bs w

-- the bytes of each are on the disk
abbrev pub AreFlushed : List Begun → FolderMoment → Type 0
AreFlushed [] w = ⊤
AreFlushed (b ∷ bs) w = IsTrue (w.node b.number).flushed × AreFlushed bs w

-- one more file stands under its other name, beside these, and its bytes are on the disk
abbrev pub StandsReady : Begun → List Begun → FolderMoment → Type 0
StandsReady b bs w = AreBegun (b ∷ bs) w × AreFlushed (b ∷ []) w

-- All are in place: a crash leaves their new bytes, and what the store shows is what is there.
pub record AllInPlace (begun : List Begun) (first w : FolderMoment) : Type 0 where
  pub placed : AreInPlace begun first w
  pub shows : (name : List ℕ) → view [] w name ≡ view begun first name

-- A later moment that differs in what was flushed: more of what stands is on the disk.
pub record IsFlushedMore (first w : FolderMoment) : Type 0 where
  pub at : (name : List ℕ) → w.at name ≡ first.at name
  pub before : (name : List ℕ) → w.before name ≡ first.before name
  pub bytes : (i : ℕ) → (w.node i).bytes ≡ (first.node i).bytes
  pub flushed : (i : ℕ) → IsTrue (first.node i).flushed → IsTrue (w.node i).flushed

-- A later moment at which a crash leaves no more than at the first, and the same is in place.
pub record IsFewer (first w : FolderMoment) : Type 0 where
  pub leaves : (name : List ℕ) (content : Option (List ℕ)) → is_other name ≡ false
      → Leaves w name content → Leaves first name content
  pub shows : (name : List ℕ) → view [] w name ≡ view [] first name
  pub bytes : (i : ℕ) → (w.node i).bytes ≡ (first.node i).bytes

-- each is written under a name that is kept for that
abbrev pub HaveOtherNames : List Begun → Type 0
HaveOtherNames [] = ⊤
HaveOtherNames (b ∷ bs) = (is_other (string_bytes b.other_name) ≡ true) × HaveOtherNames bs

-- the number of the file that was begun under this name
abbrev pub number_of : List Begun → List ℕ → Option ℕ
number_of [] name = None
number_of (b ∷ bs) name = if bytes_eq (string_bytes b.name) name then Some b.number else number_of bs name

-- no other file that was begun has this number
abbrev pub IsUnshared : ℕ → List Begun → Type 0
IsUnshared i [] = ⊤
IsUnshared i (b ∷ bs) = (nat_eq b.number i ≡ false) × IsUnshared i bs

-- no name but other ones stands for a file that was begun
abbrev pub AreOwn : List Begun → FolderMoment → Type 0
AreOwn [] w = ⊤
AreOwn (b ∷ bs) w = ((name : List ℕ) → is_other name ≡ false → Among (w.at name ∷ w.before name) (Some b.number) → ⊥)
    × IsUnshared b.number bs × AreOwn bs w

-- the files that were begun stand ready
pub record StandsInOrder (begun : List Begun) (w : FolderMoment) : Type 0 where
  pub stand : AreBegun begun w
  pub own : AreOwn begun w

-- the files as the store shows them, where the folder is exposed
abbrev pub shown_files : List Begun → Moments → Option (List ℕ → Option (List ℕ))
shown_files begun [] = None
shown_files begun (w ∷ ws) = Some (view begun w)

-- The law of two calls, as of an office's number and of the signature after it: once a file is placed, and
-- no more is left under its name since, a crash at any moment of a later call that puts another file in
-- place leaves the file's new bytes, and nothing else.
abbrev pub IsPlacedFirst : Type 0
IsPlacedFirst = (number signature : Begun) (first mid start w : FolderMoment) → is_other (string_bytes number.name) ≡ false
    → bytes_eq (string_bytes number.name) (string_bytes signature.name) ≡ false
    → AllInPlace (number ∷ []) first mid
    → ((content : Option (List ℕ)) → Leaves start (string_bytes number.name) content
    → Leaves mid (string_bytes number.name) content)
    → IsOldOrNew (signature ∷ []) start w → IsInPlace number first w
