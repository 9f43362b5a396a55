-- Files in a list: finding one, setting one, reading one.
use Rattle.hall_outside.proofs.Imports.{[], ap, apart_names, arith, at_drop_more, Bytes, bytes_eq, cases_Bool, cond}
use Rattle.hall_outside.proofs.Imports.{content_of, drop, drop_at, false, File, file_appended, file_set, Files, fun_ext}
use Rattle.hall_outside.proofs.Imports.{get_or, inl, inr, IsPlaceOf, IsTaken, length, length-drop, length-take-le, List}
use Rattle.hall_outside.proofs.Imports.{min, None, not_same, Option, pair_of, refl, set, Some, stored, suc, sym, take}
use Rattle.hall_outside.proofs.Imports.{take_at, true, zero, ℕ, ⊎_elim, ◌++◌, ◌+◌, ◌-◌, ◌<◌, ◌∙◌, ◌∷◌, ◌≡◌, ◌≤◌, ◌⊎◌}
pub use Rattle.folder_calls.proofs.Steps.{eq_self, same_name}

-- a name is another one, or isn't
pub compared : (a b : List ℕ) → (a ≡ b) ⊎ (bytes_eq a b ≡ false)
compared a b = ⊎_elim (λ is. inl (same_name a b is)) (λ differs. inr differs) (cases_Bool (bytes_eq a b))

-- names are compared either way
pub flip : (a b : List ℕ) → bytes_eq a b ≡ bytes_eq b a
flip a b = ⊎_elim (λ is. rw is refl)
    (λ differs. differs ∙ sym (not_same b a (λ is. apart_names a b differs (sym is)))) (compared a b)

-- the file that was set last is the one that is there
pub set_again : (files : Files) (name first last other : List ℕ)
    → file_set (file_set files name first) name last other ≡ file_set files name last other
set_again files name first last other = ⊎_elim (λ is. rw is refl) (λ is. rw is refl) (cases_Bool (bytes_eq other name))

-- behind a file with another name, what is set of the rest is set of all
pub set_behind : (here name other : List ℕ) (x y new old : Option (List ℕ)) → bytes_eq here name ≡ false
    → new ≡ cond (bytes_eq other name) y old
    → cond (bytes_eq other here) x new ≡ cond (bytes_eq other name) y (cond (bytes_eq other here) x old)
set_behind here name other x y new old differs rest = ⊎_elim
    (λ is. cc (eq_self here))
    (λ apart. rw apart rest)
    (compared other here)

-- the files from a place on are the one there and those after it
at_drop : (files : List File) (i : ℕ) (file : File) → i < length files → file ≡ get_or files i file
    → drop i files ≡ file ∷ drop (i + 1) files
at_drop files i file h is = at_drop_more (λ fs. fs) files i file h ∙ ap (λ f. f ∷ drop (i + 1) files) (sym is)

-- one step of the search
pub searched : (files : List File) (name : List ℕ) (i : ℕ) (file : File) → i < length files → file ≡ get_or files i file
    → bytes_eq (pair_of file).0 name ≡ false
    → content_of (stored (drop i files)) name ≡ content_of (stored files) name
    → ((j : ℕ) → IsPlaceOf (stored (drop i files)) name j → IsPlaceOf (stored files) name (i + j))
    → (content_of (stored (drop (i + 1) files)) name ≡ content_of (stored files) name)
    × ((j : ℕ) → IsPlaceOf (stored (drop (i + 1) files)) name j → IsPlaceOf (stored files) name (i + 1 + j))
searched files name i file h is differs content place = let first = at_drop files i file h is in (
  rw (first, differs) at content,
  λ j k. let more : i + 1 + j ≡ i + suc j = omega arith in rw more ((rw first at (place (suc j))) (differs, k)),
)

-- where the search ends
pub found : (files : List File) (name : List ℕ) (i : ℕ) (file : File) → i < length files → file ≡ get_or files i file
    → bytes_eq (pair_of file).0 name ≡ true
    → ((j : ℕ) → IsPlaceOf (stored (drop i files)) name j → IsPlaceOf (stored files) name (i + j))
    → IsPlaceOf (stored files) name i
found files name i file h is same place =
    let here : i + 0 ≡ i = omega arith in rw here at ((rw (at_drop files i file h is) at (place 0)) same)

-- the content of a file that was read
pub content_is : (files : List File) (name : List ℕ) (i : ℕ) (file : File) → IsPlaceOf (stored files) name i
    → file ≡ get_or files i file → content_of (stored files) name ≡ Some file.bytes.items
content_is [] name i file h is = absurd h
content_is (first ∷ files) name zero file h is = rw (h, is) refl
content_is (first ∷ files) name (suc i) file h is = rw h.0 (content_is files name i file h.1 is)

-- a file that is written
pub file_set_at : (files : List File) (name bytes : List ℕ) (i : ℕ) (old new : File)
    → IsPlaceOf (stored files) name i → old ≡ get_or files i old
    → (pair_of new).0 ≡ (pair_of old).0 → new.bytes.items ≡ bytes
    → content_of (stored (set files i new)) ≡ file_set (content_of (stored files)) name bytes
file_set_at files name bytes i old new h is same e = fun_ext (λ other. each files i h is other)
  where
    each : (files : List File) (i : ℕ) → IsPlaceOf (stored files) name i → old ≡ get_or files i old → (other : List ℕ)
        → content_of (stored (set files i new)) other ≡ file_set (content_of (stored files)) name bytes other
    each [] i h is other = absurd h
    each (file ∷ files) zero h is other = rw (
      same,
      is,
      same_name (pair_of file).0 name h,
      flip name other,
      e,
    ) (sym (set_again (content_of (stored files)) name file.bytes.items bytes other))
    each (file ∷ files) (suc i) h is other = rw (flip (pair_of file).0 other)
        (set_behind (pair_of file).0 name other _ _ _ _ h.0 (each files i h.1 is other))

-- a file that is put after the others is set
pub file_added : (files : List File) (new : File) (name bytes : List ℕ) → content_of (stored files) name ≡ None
    → (pair_of new).0 ≡ name → new.bytes.items ≡ bytes
    → content_of (stored (files ++ new ∷ [])) ≡ file_set (content_of (stored files)) name bytes
file_added files new name bytes h n e = fun_ext (λ other. each files h other)
  where
    each : (files : List File) → content_of (stored files) name ≡ None → (other : List ℕ)
        → content_of (stored (files ++ new ∷ [])) other ≡ file_set (content_of (stored files)) name bytes other
    each [] h other = rw (n, e, flip name other) refl
    each (file ∷ files) h other = ⊎_elim
        (λ is. cc)
        (λ differs. rw (flip (pair_of file).0 other) (set_behind (pair_of file).0 name other _ _ _ _ differs
        (each files (rw differs at h) other)))
        (cases_Bool (bytes_eq (pair_of file).0 name))

-- a piece that is put after a file's bytes is appended to the file
pub appended_at : (files : List File) (name piece : List ℕ) (i : ℕ) (old new : File)
    → IsPlaceOf (stored files) name i → old ≡ get_or files i old
    → (pair_of new).0 ≡ (pair_of old).0 → new.bytes.items ≡ old.bytes.items ++ piece
    → content_of (stored (set files i new)) ≡ file_appended (content_of (stored files)) name piece
appended_at files name piece i old new h is same e =
    rw (content_is files name i old h is) (file_set_at files name (old.bytes.items ++ piece) i old new h is same e)

-- a read at or past the end
pub taken_none : (files : Files) (name bytes into : List ℕ) (at : ℕ) → files name ≡ Some bytes → length bytes ≤ at
    → IsTaken (Some files) name at into into (Bytes 0)
taken_none files name bytes into at e past = (omega arith, refl, rw e (refl, ((λ _. past), (λ _. refl))))

-- a read before the end
pub taken_some : (files : Files) (name bytes into copied : List ℕ) (at room count : ℕ) → files name ≡ Some bytes
    → at < length bytes → count ≡ min (length bytes - at) room
    → 0 < room → room ≤ length into → copied ≡ take count (drop at bytes)
    → IsTaken (Some files) name at into (copied ++ drop count into) (Bytes count)
taken_some files name bytes into copied at room count e before is some fits copy =
    let rest : count ≤ length (drop at bytes) = omega (arith, length-drop at bytes) in
    let long : length copied ≡ count = ap length copy ∙ length-take-le count (drop at bytes) rest in (
      omega arith,
      drop_at copied (drop count into) count long,
      rw (e, take_at copied (drop count into) count long, long) (
        copy,
        ((λ none. absurd (omega arith)), (λ past. absurd (omega arith))),
      ),
    )
