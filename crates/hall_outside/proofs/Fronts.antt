-- Reading a file piece by piece, where the store exposes its files.
use Rattle.hall_outside.proofs.Imports.{[], ap, arith, Failed, FileFault, Files, IsPartFrom, IsSomeAnd, length}
use Rattle.hall_outside.proofs.Imports.{length-append, length-take, List, None, OnFile, Option, ReadsOn, refl, Result}
use Rattle.hall_outside.proofs.Imports.{Some, sym, take, take-add, take_all, Taken, ℕ, ◌++◌, ◌+◌, ◌<◌, ◌∙◌, ◌≡◌}

-- the reads that are still to come, after these bytes, complete those from the start on
abbrev pub GoesOn : {S : Type 0} → (ℕ → ℕ → S → Result Taken Failed → List ℕ → S → Type 0) → ℕ → S → List ℕ → S
    → Type 0
GoesOn {S} read limit start before now = (found : Result (List ℕ) FileFault) (end : S)
    → ReadsOn read 65536 limit before now found end → ReadsOn read 65536 limit [] start found end

-- the bytes are the front of the file, and none where there is no file
abbrev pub IsFront : List ℕ → Option (List ℕ) → Type 0
IsFront bytes None = bytes ≡ []
IsFront bytes (Some file) = bytes ≡ take (length bytes) file

-- what a read says of a file that the store exposes
abbrev pub IsReadFrom : List ℕ → List ℕ → Option (List ℕ) → Type 0
IsReadFrom bytes part file = IsSomeAnd file (IsPartFrom (length bytes) part)

-- a front of a file and the part that was read after it are a front
pub front_more : (bytes part : List ℕ) (file : Option (List ℕ)) → IsFront bytes file → IsReadFrom bytes part file
    → IsFront (bytes ++ part) file
front_more bytes part None front read = absurd read
front_more bytes part (Some file) front read =
    ap (λ bs. bs ++ part) front ∙ ap (λ p. take (length bytes) file ++ p) read.0
    ∙ sym (take-add (length bytes) (length part) file) ∙ ap (λ k. take k file) (sym (length-append bytes part))

-- where nothing more is read the front is the whole file
pub whole_front : (bytes : List ℕ) (file : Option (List ℕ)) → IsFront bytes file → IsReadFrom bytes [] file
    → file ≡ Some bytes
whole_front bytes None front read = absurd read
whole_front bytes (Some file) front read = ap Some (sym (front ∙ take_all (length bytes) file (read.1.0 refl)))

-- where front and part are over a limit the file is
pub long_front : (bytes part : List ℕ) (limit : ℕ) → limit < length bytes + length part → (file : Option (List ℕ))
    → IsFront bytes file → IsReadFrom bytes part file → IsSomeAnd file (λ whole. limit < length whole)
long_front bytes part limit long None front read = absurd read
long_front bytes part limit long (Some file) front read =
    let same = ap length (front_more bytes part (Some file) front read) in
    omega (arith, same, length-take (length (bytes ++ part)) file, length-append bytes part)

-- what holds of any file holds of the named one, also where the store doesn't expose it
pub any_file : {P : Option (List ℕ) → Type 0} (files : Option Files) (name : List ℕ)
    → ((file : Option (List ℕ)) → P file) → OnFile files name P
any_file None name all = tt
any_file (Some files) name all = all (files name)

-- what follows of the named file from two facts of it
pub from_both : {P Q R : Option (List ℕ) → Type 0} (files : Option Files) (name : List ℕ)
    → ((file : Option (List ℕ)) → P file → Q file → R file) → OnFile files name P → OnFile files name Q
    → OnFile files name R
from_both None name follows first second = tt
from_both (Some files) name follows first second = follows (files name) first second
