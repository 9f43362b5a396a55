-- Bytes appended, and files set, part by part.
use Rattle.hall_outside.proofs.{FileLists.eq_self, FileLists.set_again, Imports.ap, Imports.append_assoc}
use Rattle.hall_outside.proofs.Imports.{appended, drop, file_appended, file_set, Files, fun_ext, List, None, Option}
use Rattle.hall_outside.proofs.Imports.{refl, Some, take, take-add, with_appended, with_file, ℕ, ◌++◌, ◌+◌, ◌≡◌}

-- a front of the bytes and the next part of them, appended to what was written before
pub appended_more : (written mid new : Option (List ℕ)) (bytes piece : List ℕ) (at n : ℕ) → piece ≡ drop at bytes
    → mid ≡ appended written (take at bytes) → new ≡ appended mid (take n piece)
    → new ≡ appended written (take (at + n) bytes)
appended_more None mid new bytes piece at n p m e = rw (e, m) refl
appended_more (Some before) mid new bytes piece at n p m e =
    rw (e, m, p, take-add at n bytes) (ap Some (append_assoc before (take at bytes) (take n (drop at bytes))))

-- a piece after a file that was just set is part of what was set
appended_set : (files : Files) (name bytes piece : List ℕ)
    → file_appended (file_set files name bytes) name piece ≡ file_set files name (bytes ++ piece)
appended_set files name bytes piece = rw (eq_self name) (fun_ext (set_again files name bytes (bytes ++ piece)))

-- the next part of the bytes, appended, leaves the file set to as many more of them
pub put_more : (files mid new : Option Files) (name bytes piece : List ℕ) (at n : ℕ) → piece ≡ drop at bytes
    → mid ≡ with_file files name (take at bytes) → new ≡ with_appended mid name (take n piece)
    → new ≡ with_file files name (take (at + n) bytes)
put_more None mid new name bytes piece at n p m e = rw (e, m) refl
put_more (Some files) mid new name bytes piece at n p m e =
    rw (e, m, p, take-add at n bytes) (ap Some (appended_set files name (take at bytes) (take n (drop at bytes))))
