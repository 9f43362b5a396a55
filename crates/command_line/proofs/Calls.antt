-- The calls by which files are put.
use Rattle.command_line.proofs.Imports.{[], ap, drop, drop_more, Failed, Files, get_or, inl, inr, List, PlacesAll}
use Rattle.command_line.proofs.Imports.{PutsAll, PutsFile, refl, Result, SetsSome, StoreGhosts, subst, sym, with_file}
use Rattle.command_line.proofs.Imports.{with_files, ℕ, ◌+◌, ◌<◌, ◌∙◌, ◌∷◌, ◌≡◌}
use Rattle.std.proofs.Common.{Bool, false, length, Option, true}

-- the rest of the files begins with the one at its place
rest_from : (files : List (List ℕ × List ℕ)) (i : ℕ) (file : List ℕ × List ℕ) → i < length files →
    file ≡ get_or files i file → file ∷ drop (i + 1) files ≡ drop i files
rest_from files i file within is = ap (λ f. f ∷ drop (i + 1) files) is ∙ sym (drop_more files i file within)

-- the calls for a file's name and bytes are those for the file
pub as_put : {S : Type 0} (create : List ℕ → S → Bool → S → Type 0)
    (append : List ℕ → S → List ℕ → Result ℕ Failed → S → Type 0) (old mid : S) (file : List ℕ × List ℕ)
    (name bytes : List ℕ) (done ok : Bool) → name ≡ file.0 → bytes ≡ file.1 → done ≡ ok →
    PutsFile (create name) (append name) old bytes done mid → PutsFile (create file.0) (append file.0) old file.1 ok mid
as_put {S} create append old mid (its_name, its_bytes) name bytes done ok same_name same_bytes same put =
    let P : List ℕ → Type 0 = λ n. PutsFile (create n) (append n) old bytes done mid in
    let Q : List ℕ → Type 0 = λ bs. PutsFile (create its_name) (append its_name) old bs done mid in
    let R : Bool → Type 0 = λ b. PutsFile (create its_name) (append its_name) old its_bytes b mid in
    subst R same (subst Q same_bytes (subst P same_name put))

-- the file at this place is put, and then the rest
pub put_next : {S : Type 0} (of : StoreGhosts S) (old mid end : S) (files : List (List ℕ × List ℕ)) (i : ℕ)
    (file : List ℕ × List ℕ) (ok : Bool) → i < length files → file ≡ get_or files i file →
    PutsFile (of.creates file.0) (of.appends file.0) old file.1 true mid → PutsAll of mid (drop (i + 1) files) ok end →
    PutsAll of old (drop i files) ok end
put_next {S} of old mid end files i file ok within is put rest =
    let P : List (List ℕ × List ℕ) → Type 0 = λ fs. PutsAll of old fs ok end in
    subst P (rest_from files i file within is) (inr (mid, put, rest))

-- the file at this place isn't put whole, so no later one is
pub put_fails : {S : Type 0} (of : StoreGhosts S) (old end : S) (files : List (List ℕ × List ℕ)) (i : ℕ)
    (file : List ℕ × List ℕ) → i < length files → file ≡ get_or files i file →
    PutsFile (of.creates file.0) (of.appends file.0) old file.1 false end → PutsAll of old (drop i files) false end
put_fails {S} of old end files i file within is put =
    let P : List (List ℕ × List ℕ) → Type 0 = λ fs. PutsAll of old fs false end in
    subst P (rest_from files i file within is) (inl (put, refl))

-- the file at this place set, and then the rest, are the files from its place on
pub set_next : (old mid : Option Files) (files : List (List ℕ × List ℕ)) (i : ℕ) (file : List ℕ × List ℕ) →
    i < length files → file ≡ get_or files i file → mid ≡ with_file old file.0 file.1 →
    with_files mid (drop (i + 1) files) ≡ with_files old (drop i files)
set_next old mid files i file within is set =
    ap (λ (m : Option Files). with_files m (drop (i + 1) files)) set
    ∙ ap (with_files old) (rest_from files i file within is)

-- files are set up to some place where the first of them is set, and the ones after it up to that
-- place
pub some_next : (old mid new : Option Files) (files : List (List ℕ × List ℕ)) (i : ℕ) (file : List ℕ × List ℕ) →
    i < length files → file ≡ get_or files i file → mid ≡ with_file old file.0 file.1 →
    SetsSome mid (drop (i + 1) files) new → SetsSome old (drop i files) new
some_next old mid new files i file within is set rest =
    let P : List (List ℕ × List ℕ) → Type 0 = λ fs. SetsSome old fs new in
    let Q : Option Files → Type 0 = λ m. SetsSome m (drop (i + 1) files) new in
    subst P (rest_from files i file within is) (inr (subst Q set rest))

-- where there are no files, no call is made
pub none_placed : {S : Type 0} (of : StoreGhosts S) (now : S) (files : List (List ℕ × List ℕ)) → length files ≡ 0 →
    PlacesAll of now files true now
none_placed of now [] none = (refl, refl)
none_placed of now (file ∷ files) none = absurd (let no : ⊥ = cc in no)

-- where one isn't put whole, they aren't placed
pub not_placed : {S : Type 0} (of : StoreGhosts S) (old new : S) (files : List (List ℕ × List ℕ)) →
    PutsAll of old files false new → PlacesAll of old files false new
not_placed of old new [] (same, done) = absurd (let no : false ≡ true = done in cc)
not_placed of old new (file ∷ files) put = inl (put, refl)

-- where there are some, they are put, and the last call says that they are all
pub placed : {S : Type 0} (of : StoreGhosts S) (old mid new : S) (files : List (List ℕ × List ℕ)) (ok : Bool) →
    (length files ≡ 0 → ⊥) → PutsAll of old files true mid → of.finishes mid ok new → PlacesAll of old files ok new
placed of old mid new [] ok some put done = absurd (some refl)
placed of old mid new (file ∷ files) ok some put done = inr (mid, put, done)
