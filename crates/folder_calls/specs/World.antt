-- A folder as the system has it, moment after moment, and what a crash may leave of it.
use Rattle.std.specs.Prelude.{◌≡◌, ◌↔◌, ◌⊎◌, ℕ, ◌≤◌, Bool, true, false, ⊤, if◌then◌else◌, IsTrue, List, [], ◌∷◌, ◌++◌, length, take}
use Rattle.std.specs.Prelude.{drop, Option, Some, None, IsSomeAnd, option_map, nat_eq}
use Rattle.std.specs.Str.{bytes_eq}
use Rattle.folder_calls.specs.declared.folder.Found.{Found}

-- what the disk has under a number: its bytes, whether all of them are on the disk itself, and whether
-- it is a regular file (no folder, link, pipe or device)
pub record Inode : Type 0 where
  pub bytes : List ℕ
  pub flushed : Bool
  pub regular : Bool

-- one moment: the number under each name; what stood there before, since the name was last flushed;
-- and what the disk has under each number
pub record FolderMoment : Type 0 where
  pub at : List ℕ → Option ℕ
  pub before : List ℕ → List (Option ℕ)
  pub node : ℕ → Inode

-- one of the list is this
abbrev pub Among : List (Option ℕ) → Option ℕ → Type 0
Among [] entry = ⊥
Among (x ∷ xs) entry = (entry ≡ x) ⊎ Among xs entry

-- The contents that a crash may leave of an entry: nothing of none; of a file its bytes, if they were
-- flushed, and any bytes if they weren't (POSIX.1-2017, fsync()).
abbrev pub MayHold : FolderMoment → Option ℕ → Option (List ℕ) → Type 0
MayHold w None content = content ≡ None
MayHold w (Some i) content = IsSomeAnd content (λ bytes. IsTrue (w.node i).flushed → bytes ≡ (w.node i).bytes)

-- A crash at this moment may leave this under the name: nothing, or these bytes. The name shows what
-- stands there or anything that stood there since it was flushed, each name for itself.
abbrev pub Leaves : FolderMoment → List ℕ → Option (List ℕ) → Type 0
Leaves w name content = (entry : Option ℕ) × Among (w.at name ∷ w.before name) entry × MayHold w entry content

-- a function that is changed at one name
abbrev pub set : {A : Type 0} → (List ℕ → A) → List ℕ → A → List ℕ → A
set f name x other = if bytes_eq other name then x else f other

-- a function that is changed at one number
abbrev pub set_node : (ℕ → Inode) → ℕ → Inode → ℕ → Inode
set_node f i x j = if nat_eq j i then x else f j

-- the name stands for another entry from now on, and a crash may bring the earlier ones back
abbrev pub stands : List ℕ → Option ℕ → FolderMoment → FolderMoment
stands name entry w = record w {
  at = set w.at name entry;
  before = set w.before name (w.at name ∷ w.before name);
}

-- the name stands for nothing (POSIX.1-2017, unlink())
abbrev pub removed : List ℕ → FolderMoment → FolderMoment
removed name w = stands name None w

-- the file of the first name has the second, the file that had the second has that name no longer, and
-- the first name stands for nothing (POSIX.1-2017, rename())
abbrev pub renamed : List ℕ → List ℕ → FolderMoment → FolderMoment
renamed from to w = stands to (w.at from) (stands from None w)

-- the name is on the disk (POSIX.1-2017, fsync(), of its folder)
abbrev pub name_flushed : List ℕ → FolderMoment → FolderMoment
name_flushed name w = record w { before = set w.before name [] }

-- the bytes are on the disk (POSIX.1-2017, fsync())
abbrev pub file_flushed : ℕ → FolderMoment → FolderMoment
file_flushed i w = record w { node = set_node w.node i (record (w.node i) { flushed = true }) }

-- the file has these bytes, which are not on the disk
abbrev pub holding : ℕ → List ℕ → FolderMoment → FolderMoment
holding i bytes w = record w {
  node = set_node w.node i (record (w.node i) { bytes = bytes; flushed = false });
}

-- these bytes are at the file's end, too (POSIX.1-2017, write(), with O_APPEND)
abbrev pub longer_by : ℕ → List ℕ → FolderMoment → FolderMoment
longer_by i bytes w = holding i ((w.node i).bytes ++ bytes) w

-- the file has no bytes (POSIX.1-2017, ftruncate())
abbrev pub emptied : ℕ → FolderMoment → FolderMoment
emptied i w = holding i [] w

-- an empty file of this number has the name (POSIX.1-2017, open(), with O_CREAT and O_EXCL)
abbrev pub created : List ℕ → ℕ → FolderMoment → FolderMoment
created name i w = record (stands name (Some i) w) {
  node = set_node w.node i (record { bytes = []; flushed = false; regular = true });
}

-- no name stands for this number, also not after a crash
abbrev pub IsUnused : ℕ → FolderMoment → Type 0
IsUnused i w = (name : List ℕ) → Among (w.at name ∷ w.before name) (Some i) → ⊥

-- the moments so far, the newest first: none where the folder exposes nothing
abbrev pub Moments : Type 0
Moments = List FolderMoment

-- one moment more
abbrev pub does : (FolderMoment → FolderMoment) → Moments → Moments
does step [] = []
does step (w ∷ ws) = step w ∷ w ∷ ws

-- a call that succeeds did it; one that fails did it or did nothing
abbrev pub Does : (FolderMoment → FolderMoment) → Bool → Moments → Moments → Type 0
Does step true old new = new ≡ does step old
Does step false old new = (new ≡ old) ⊎ (new ≡ does step old)

-- this holds now, where the folder is exposed
abbrev pub Now : Moments → (FolderMoment → Type 0) → Type 0
Now [] P = ⊤
Now (w ∷ ws) P = P w

-- each moment since then has P
pub data Since (P : FolderMoment → Type 0) (start : Moments) : Moments → Type 0 where
  none_since : Since P start start
  one_more : (w : FolderMoment) (ws : Moments) → P w → Since P start ws → Since P start (w ∷ ws)

-- Each moment since then has this to do with the one then. A folder that exposes nothing goes on so.
abbrev pub Goes : (FolderMoment → FolderMoment → Type 0) → Moments → Moments → Type 0
Goes R [] new = new ≡ []
Goes R (first ∷ earlier) new = Since (R first) (first ∷ earlier) new

-- Nothing is changed but what stands under this name: each other one stands for the same file, which has
-- the same bytes.
pub record IsClear (other : List ℕ) (first w : FolderMoment) : Type 0 where
  pub at : (name : List ℕ) → (name ≡ other → ⊥) → w.at name ≡ first.at name
  pub before : (name : List ℕ) → (name ≡ other → ⊥) → w.before name ≡ first.before name
  pub node : (name : List ℕ) (i : ℕ) → (name ≡ other → ⊥) → Among (first.at name ∷ first.before name) (Some i)
      → w.node i ≡ first.node i

-- What a call made that found no file of this name: one with a number of its own. `None` says that it
-- found one, and made none.
abbrev pub Makes : List ℕ → Moments → Moments → Option ℕ → Type 0
Makes name old new None = new ≡ old
Makes name old new (Some i) = (new ≡ does (created name i) old) × Now old (IsUnused i)

-- A file that is created gets a number of its own, once the name is free: until then nothing is changed
-- but what stands under the name.
pub record Creates (name : List ℕ) (old new : Moments) (i : ℕ) : Type 0 where
  pub mid : Moments
  pub clears : Goes (IsClear name) old mid
  pub did : new ≡ does (created name i) mid
  pub fresh : Now mid (IsUnused i)

-- the files that stand under names, where the folder is exposed
abbrev pub in_place : Moments → Option (List ℕ → Option (List ℕ))
in_place [] = None
in_place (w ∷ ws) = Some (λ name. option_map (λ i. (w.node i).bytes) (w.at name))

-- what was found under a name: nothing, or something that is a regular file or isn't (POSIX.1-2017,
-- lstat())
abbrev pub IsLookedUp : List ℕ → Option Found → FolderMoment → Type 0
IsLookedUp name None w = w.at name ≡ None
IsLookedUp name (Some found) w = (i : ℕ) × (w.at name ≡ Some i) × ((w.node i).regular ≡ found.is_regular)

-- the part is the file's bytes from `at` on, and is empty exactly at the file's end and past it
abbrev pub IsPieceFrom : ℕ → List ℕ → List ℕ → Type 0
IsPieceFrom at part file =
    (part ≡ take (length part) (drop at file)) × ((length part ≡ 0) ↔ (length file ≤ at))

-- this holds of the file of that name, which may be absent, where the folder is exposed
abbrev pub OnName : Moments → List ℕ → (Option (List ℕ) → Type 0) → Type 0
OnName [] name P = ⊤
OnName (w ∷ ws) name P = P (option_map (λ i. (w.node i).bytes) (w.at name))

-- what a read gave: that there is no such file, or so many of its bytes (POSIX.1-2017, pread())
abbrev pub GivesPart : Moments → List ℕ → ℕ → List ℕ → List ℕ → Option ℕ → Type 0
GivesPart ws name at old new None = (new ≡ old) × OnName ws name (λ file. file ≡ None)
GivesPart ws name at old new (Some n) = (n ≤ length old) × (drop n new ≡ drop n old)
    × OnName ws name (λ file. IsSomeAnd file (IsPieceFrom at (take n new)))
