-- What a failed write leaves of an answer's files and output.
use Rattle.std.proofs.Common.{Option}
use Rattle.command_line.proofs.Imports.{◌≡◌, ◌∙◌, ℕ, List, [], ◌∷◌, ◌++◌, take, drop, refl, sym, ap, subst, inl}
use Rattle.command_line.proofs.Imports.{inr, Result, Ok, Err, OnOk, OnErr, take-append-drop}
use Rattle.command_line.proofs.Imports.{IsErr, HasCause, HasRisen, Files, with_file, AppendsPrefix, Failed, Answer}
use Rattle.command_line.proofs.Imports.{Outside, with_files, SetsSome, IsCutShort}

-- all of the files are some of them
pub all_set : (old : Option Files) (files : List (List ℕ × List ℕ)) → SetsSome old files (with_files old files)
all_set old [] = refl
all_set old (file ∷ files) = inr (all_set (with_file old file.0 file.1) files)

-- what holds is so where a call failed
pub on_err : {T P : Type 0} (result : Result T Failed) → P → OnErr result P
on_err (Ok done) is = tt
on_err (Err failed) is = is

-- files set one after another are set as they are in one list
sets_joined : (old : Option Files) (xs ys : List (List ℕ × List ℕ)) →
    with_files old (xs ++ ys) ≡ with_files (with_files old xs) ys
sets_joined old [] ys = refl
sets_joined old (x ∷ xs) ys = sets_joined (with_file old x.0 x.1) xs ys

-- some of the first ones are some of all
some_first : (old new : Option Files) (xs ys : List (List ℕ × List ℕ)) → SetsSome old xs new →
    SetsSome old (xs ++ ys) new
some_first old new [] [] same = same
some_first old new [] (y ∷ ys) same = inl (inl same)
some_first old new (x ∷ xs) ys (inl part) = inl part
some_first old new (x ∷ xs) ys (inr some) = inr (some_first (with_file old x.0 x.1) new xs ys some)

-- and so are all of the first and some of the others
some_later : (old new : Option Files) (xs ys : List (List ℕ × List ℕ)) → SetsSome (with_files old xs) ys new →
    SetsSome old (xs ++ ys) new
some_later old new [] ys some = some
some_later old new (x ∷ xs) ys some = inr (some_later (with_file old x.0 x.1) new xs ys some)

module _ (old mid new : Option Files) (ahead : ℕ) (files : List (List ℕ × List ℕ)) where
  -- those that are ahead and the others are all
  pub all_in_turn : mid ≡ with_files old (take ahead files) → new ≡ with_files mid (drop ahead files) →
      new ≡ with_files old files
  all_in_turn first others =
      others ∙ ap (λ (m : Option Files). with_files m (drop ahead files)) first
      ∙ sym (sets_joined old (take ahead files) (drop ahead files))
      ∙ ap (with_files old) (take-append-drop ahead files)

  pub some_ahead : SetsSome old (take ahead files) new → SetsSome old files new
  some_ahead some =
      subst (λ (fs : List (List ℕ × List ℕ)). SetsSome old fs new) (take-append-drop ahead files)
      (some_first old new (take ahead files) (drop ahead files) some)

  some_of_others : mid ≡ with_files old (take ahead files) → SetsSome mid (drop ahead files) new →
      SetsSome old files new
  some_of_others first some =
      subst (λ (fs : List (List ℕ × List ℕ)). SetsSome old fs new) (take-append-drop ahead files)
      (some_later old new (take ahead files) (drop ahead files)
      (subst (λ (m : Option Files). SetsSome m (drop ahead files) new) first some))

  -- the same by whether the others failed
  pub all_where : {T : Type 0} (result : Result T Failed) → mid ≡ with_files old (take ahead files) →
      OnOk result (new ≡ with_files mid (drop ahead files)) → OnOk result (new ≡ with_files old files)
  all_where (Ok done) first others = all_in_turn first others
  all_where (Err failed) first others = tt

  pub some_where : {T : Type 0} (result : Result T Failed) → mid ≡ with_files old (take ahead files) →
      OnErr result (SetsSome mid (drop ahead files) new) → OnErr result (SetsSome old files new)
  some_where (Ok done) first some = tt
  some_where (Err failed) first some = some_of_others first some

-- a call that failed with all files set left some of them set
pub all_set_where : {T : Type 0} (result : Result T Failed) (old new : Option Files) (files : List (List ℕ × List ℕ))
    → new ≡ with_files old files → OnErr result (SetsSome old files new)
all_set_where (Ok done) old new files all = tt
all_set_where (Err failed) old new files all =
    let P : Option Files → Type 0 = λ now. SetsSome old files now in
    subst P (sym all) (all_set old files)

-- the output was cut short after all files
pub output_cut : (result : Result (Unit {0}) Failed) (answer : Answer) (old new : Outside)
    → new.files ≡ with_files old.files answer.files
    → OnErr result (AppendsPrefix old.output answer.output new.output)
    → HasCause old.output_faults new.output_faults (IsErr result)
    → OnErr result (IsCutShort answer old new)
output_cut (Ok done) answer old new files prefix cause = tt
output_cut (Err failed) answer old new files prefix cause =
    let risen : HasRisen old.output_faults new.output_faults = cause.only refl in
    let P : Option Files → Type 0 = λ now. SetsSome old.files answer.files now in
    record {
      cause = inr risen;
      files = subst P (sym files) (all_set old.files answer.files);
      output = prefix;
      all_files = λ none. files;
      no_output = λ none. absurd (none risen);
    }
