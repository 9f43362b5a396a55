-- Files that are read one after another.
use Rattle.hall_outside.specs.declared.reading.FileFault.TheVariants as file
use Rattle.office_commands.proofs.Imports.{[], Answer, ap, arith, AtLast, Err, FileThen, GivesBytes, inl, inr}
use Rattle.office_commands.proofs.Imports.{IsCarriedOut, IsFileRefused, IsReadFrom, IsReadFromFile, List, None, Ok}
use Rattle.office_commands.proofs.Imports.{on_one, OnOneFile, OrRefused, read_last, refl, Refusal, Result, StoreGhosts}
use Rattle.office_commands.proofs.Imports.{subst, sym, too_long, ℕ, ◌∙◌, ◌∷◌, ◌≡◌}
use Rattle.std.proofs.Common.{Option, Some}

-- a file that is too long is refused as too long
pub long_bytes : (limit : ℕ) (name : List ℕ) (this : Option (List ℕ)) → IsFileRefused limit file.TooLong this →
    GivesBytes limit name this (Err (too_long name))
long_bytes limit name None is = absurd is
long_bytes limit name (Some bytes) is = inl (is, refl)

-- a file gives one answer
pub one_bytes : (limit : ℕ) (name : List ℕ) (this : Option (List ℕ)) (p q : Result (List ℕ) Refusal) →
    GivesBytes limit name this p → GivesBytes limit name this q → p ≡ q
one_bytes limit name None p q x y = x ∙ sym y
one_bytes limit name (Some bytes) p q (inl (long, e)) (inl (also, f)) = e ∙ sym f
one_bytes limit name (Some bytes) p q (inl (long, e)) (inr (short, f)) = absurd (omega arith)
one_bytes limit name (Some bytes) p q (inr (short, e)) (inl (long, f)) = absurd (omega arith)
one_bytes limit name (Some bytes) p q (inr (short, e)) (inr (also, f)) = e ∙ sym f

-- several files, read one after another, give one answer where each step has one
pub one_of_files : {A B : Type 0} (First : Option (List ℕ) → Result A Refusal → Type 0)
    (Next : A → List (Option (List ℕ)) → Result B Refusal → Type 0) →
    ((this : Option (List ℕ)) (p q : Result A Refusal) → First this p → First this q → p ≡ q) →
    ((found : A) (files : List (Option (List ℕ))) (p q : Result B Refusal) → Next found files p →
    Next found files q → p ≡ q) →
    (files : List (Option (List ℕ))) (p q : Result B Refusal) → FileThen First Next files p →
    FileThen First Next files q → p ≡ q
one_of_files First Next one next [] p q x y = absurd x
one_of_files First Next one next (this ∷ files) p q (inl (a, is, n)) (inl (b, also, m)) =
    let whole : Ok a ≡ Ok b = one this (Ok a) (Ok b) is also in
    let same : a ≡ b = cc in
    next b files p q (subst (λ f. Next f files p) same n) m
one_of_files First Next one next (this ∷ files) p q (inl (a, is, n)) (inr (s, also, f)) =
    let no : Ok a ≡ Err s = one this (Ok a) (Err s) is also in cc
one_of_files First Next one next (this ∷ files) p q (inr (r, is, e)) (inl (b, also, m)) =
    let no : Err r ≡ Ok b = one this (Err r) (Ok b) is also in cc
one_of_files {A} {B} First Next one next (this ∷ files) p q (inr (r, is, e)) (inr (s, also, f)) =
    let whole : Err r ≡ Err s = one this (Err r) (Err s) is also in
    let same : r ≡ s = cc in
    e ∙ ap (λ (x : Refusal). Err x) same ∙ sym f

-- what was found with the last file is one answer
pub one_last : {B : Type 0} (found : B) (files : List (Option (List ℕ))) (p q : Result B Refusal) →
    AtLast found files p → AtLast found files q → p ≡ q
one_last found [] p q x y = x ∙ sym y
one_last found (this ∷ files) p q x y = absurd x

-- where files are accepted, what they give is done
pub read_completed : {T : Type 0} (Gives : Result T Refusal → Type 0) (IsFor : T → Answer → Type 0) (answer : Answer)
    (read : T) → ((p q : Result T Refusal) → Gives p → Gives q → p ≡ q) → Gives (Ok read) →
    ((found : T) → IsFor found answer → IsCarriedOut answer.status) → OrRefused Gives IsFor answer →
    IsCarriedOut answer.status
read_completed Gives IsFor answer read one given done (inl (refusal, gives, e)) =
    let no : Err refusal ≡ Ok read = one (Err refusal) (Ok read) gives given in cc
read_completed Gives IsFor answer read one given done (inr (found, gives, is)) = done found is

module _ {S A X B Y : Type 0} (of : StoreGhosts S) (value : A → X) (Gives : Option (List ℕ) → Result X Refusal → Type 0)
    (name : List ℕ) (other : B → Y) where
  -- the last file is read, and with what it gives this is found
  pub file_last : (make : X → Y) (old new : S) (found : A) (made : B) → other made ≡ make (value found)
      → IsReadFromFile of value name Gives old (Ok found) new
      → IsReadFrom of other (name ∷ []) (FileThen Gives (λ x. AtLast (make x))) old (Ok made) new
  file_last make old new found made is first =
      read_last of value (name ∷ []) (λ files answer. OnOneFile (λ file. Gives file answer) files) other
      (FileThen Gives (λ x. AtLast (make x))) old new found (Ok made) first
      (λ files long gives. on_one (λ file. Gives file (Ok (value found)))
      (λ fs. FileThen Gives (λ x. AtLast (make x)) fs (Ok (other made))) files
      (λ file has. inl (value found, has, ap (λ y. Ok y) is)) gives) tt tt
