-- What holds of all files that are such as reads found them.
use Rattle.evidence.proofs.Imports.{[], append-nil, AreAsRead, AreRead, arith, FileRead, Files, found_file, length}
use Rattle.evidence.proofs.Imports.{length-append, length-map, List, map, nil_from_length, None, OnAllRead, OnExposed}
use Rattle.evidence.proofs.Imports.{OnOneFile, OnRead, OnReadFile, Option, refl, Some, StoreGhosts, ℕ, ◌++◌, ◌∙◌, ◌∷◌}
use Rattle.evidence.proofs.Imports.{◌≡◌}

-- what named files contain, where they are there
abbrev pub Contents : Type 0
Contents = List (Option (List ℕ))

-- what holds of one file holds of the list that has it alone
pub on_one : (P : Option (List ℕ) → Type 0) (R : Contents → Type 0) (files : Contents) →
    ((file : Option (List ℕ)) → P file → R (file ∷ [])) → OnOneFile P files → R files
on_one P R [] step holds = absurd holds
on_one P R (file ∷ []) step holds = step file holds
on_one P R (file ∷ other ∷ files) step holds = absurd holds

-- what holds of any list of one file holds of this one
pub of_one : (R : Contents → Type 0) (files : Contents) → length files ≡ 1 →
    ((file : Option (List ℕ)) → R (file ∷ [])) → R files
of_one R [] one step = absurd (omega (arith, one))
of_one R (file ∷ []) one step = step file
of_one R (file ∷ other ∷ files) one step = absurd (omega (arith, one))

-- what holds of one file, and with it of the others after it
pub one_first : (P : Option (List ℕ) → Type 0) (R : Contents → Type 0) (files rest : Contents) →
    ((file : Option (List ℕ)) → P file → R (file ∷ rest)) → OnOneFile P files → R (files ++ rest)
one_first P R files rest step holds = on_one P (λ fs. R (fs ++ rest)) files step holds

module _ {S : Type 0} (of : StoreGhosts S) where
  -- Files of two lists of names are files of each. Where they are as reads of the first and then others
  -- found them, the first are as the first reads found them, and the rest as the others did, if all of
  -- the first were read.
  parted : (names more : List (List ℕ)) (old mid : S) (reads others : List FileRead) (files : Contents) →
      AreRead of names old reads mid → length files ≡ length (names ++ more) → AreAsRead (reads ++ others) files →
      (first : Contents) × (rest : Contents) × (first ++ rest ≡ files) × (length first ≡ length names)
      × (length rest ≡ length more) × AreAsRead reads first × (length reads ≡ length names → AreAsRead others rest)
  parted [] more old mid [] others files read many are = ([], files, refl, refl, many, tt, λ all. are)
  parted [] more old mid (this ∷ reads) others files read many are = absurd read
  parted (name ∷ names) more old mid reads others [] read many are = absurd (omega (arith, many))
  parted (name ∷ names) more old mid [] others (file ∷ files) read many are =
      let (first, rest, is, these, those, _, _) = parted names more old mid [] [] files read (omega (arith, many)) tt in
      (file ∷ first, rest, cc is, omega (arith, these), those, tt, λ all. absurd (omega (arith, all)))
  parted (name ∷ names) more old mid (this ∷ reads) others (file ∷ files) (next, _, read) many (found, are) =
      let (first, rest, is, these, those, ours, left) =
      parted names more next mid reads others files read (omega (arith, many)) are in
      (file ∷ first, rest, cc is, omega (arith, these), those, (found, ours), λ all. left (omega (arith, all)))

  -- all of the first files were read, and then some of the others
  both_read : (names more : List (List ℕ)) (old mid new : S) (reads others : List FileRead) →
      AreRead of names old reads mid → length reads ≡ length names → AreRead of more mid others new →
      AreRead of (names ++ more) old (reads ++ others) new
  both_read [] more old mid new [] others first all next = rw first at next
  both_read [] more old mid new (this ∷ reads) others first all next = absurd first
  both_read (name ∷ names) more old mid new [] others first all next = absurd (omega (arith, all))
  both_read (name ∷ names) more old mid new (this ∷ reads) others (between, is, rest) all next =
      (between, is, both_read names more between mid new reads others rest (omega (arith, all)) next)

  -- further files are named, and aren't read
  still_read : (names more : List (List ℕ)) (old new : S) (reads : List FileRead) → AreRead of names old reads new →
      AreRead of (names ++ more) old reads new
  still_read names more old new [] read = read
  still_read [] more old new (this ∷ reads) read = absurd read
  still_read (name ∷ names) more old new (this ∷ reads) (mid, is, rest) =
      (mid, is, still_read names more mid new reads rest)

  -- where files are exposed, they are as they were found
  exposed_as_read : (at : Files) (names : List (List ℕ)) (old new : S) (reads : List FileRead) →
      of.files old ≡ Some at → AreRead of names old reads new → AreAsRead reads (map at names)
  exposed_as_read at names old new [] told read = tt
  exposed_as_read at [] old new (this ∷ reads) told read = absurd read
  exposed_as_read at (name ∷ names) old new (this ∷ reads) told (mid, is, rest) =
      (rw told at is.exposed, exposed_as_read at names mid new reads (is.unchanged ∙ told) rest)

  -- some files are such as these reads found them
  files_as_read : (names : List (List ℕ)) (old new : S) (reads : List FileRead) → AreRead of names old reads new →
      (files : Contents) × (length files ≡ length names) × AreAsRead reads files
  files_as_read names old new [] read = (map (λ name. None) names, length-map names (λ name. None), tt)
  files_as_read [] old new (this ∷ reads) read = absurd read
  files_as_read (name ∷ names) old new (this ∷ reads) (mid, is, rest) =
      let (file, found) = found_file this.limit this.found in
      let (files, many, are) = files_as_read names mid new reads rest in
      (file ∷ files, omega (arith, many), (found, are))

  -- what holds of all files as they were found holds of some
  pub some_as_read : (names : List (List ℕ)) (P : Contents → Type 0) (old new : S) → OnRead of names P old new →
      (files : Contents) × P files
  some_as_read names P old new on =
      let (files, many, are) = files_as_read names old new on.reads on.read in (files, on.holds files many are)

  -- what holds of all files as they were found holds of those that are exposed, and of some where
  -- none are
  pub on_exposed : (names : List (List ℕ)) (P : Contents → Type 0) (old new : S) → OnRead of names P old new →
      OnExposed (of.files old) names P
  on_exposed names P old new on = by (of.files old) refl
    where
      by : (told : Option Files) → of.files old ≡ told → OnExposed told names P
      by None is =
          let (files, many, are) = files_as_read names old new on.reads on.read in
          (files, many, on.holds files many are)
      by (Some at) is =
          on.holds (map at names) (length-map names at) (exposed_as_read at names old new on.reads is on.read)

  -- what follows of as many files as are named follows of those that were read
  pub on_weaker : (names : List (List ℕ)) (P Q : Contents → Type 0) (old new : S) →
      ((files : Contents) → length files ≡ length names → P files → Q files) → OnRead of names P old new →
      OnRead of names Q old new
  on_weaker names P Q old new step on = record {
    reads = on.reads;
    read = on.read;
    holds = λ files many are. step files many (on.holds files many are);
  }

  -- the same, where all of the files were read
  pub all_weaker : (names : List (List ℕ)) (P Q : Contents → Type 0) (old new : S) →
      ((files : Contents) → length files ≡ length names → P files → Q files) → OnAllRead of names P old new →
      OnAllRead of names Q old new
  unfolding on_weaker
  all_weaker names P Q old new step on = (on_weaker names P Q old new step on.0, on.1)

  -- All files of some names were read, and then files of more names: what follows of both is known of
  -- the files of all names, and all of them were read where all of the further ones were.
  pub all_then : (names more : List (List ℕ)) (P Q R : Contents → Type 0) (old mid new : S) →
      OnAllRead of names P old mid → (next : OnRead of more Q mid new) →
      ((files rest : Contents) → length files ≡ length names → length rest ≡ length more → P files → Q rest →
      R (files ++ rest)) →
      (on : OnRead of (names ++ more) R old new)
      × (length next.reads ≡ length more → length on.reads ≡ length (names ++ more))
  all_then names more P Q R old mid new (on, all) next join = (
    record {
      reads = on.reads ++ next.reads;
      read = both_read names more old mid new on.reads next.reads on.read all next.read;
      holds = λ files many are.
          let (first, rest, is, these, those, found, left) =
          parted names more old mid on.reads next.reads files on.read many are in
          rw is at (join first rest these those (on.holds first these found) (next.holds rest those (left all)));
    },
    λ too. omega (arith, length-append on.reads next.reads, length-append names more, all, too),
  )

  -- the reads end with some of the first names, and the files of the further names weren't read
  pub ends_early : (names more : List (List ℕ)) (P R : Contents → Type 0) (old new : S) →
      OnRead of names P old new →
      ((files rest : Contents) → length files ≡ length names → length rest ≡ length more → P files →
      R (files ++ rest)) →
      OnRead of (names ++ more) R old new
  ends_early names more P R old new on join = record {
    reads = on.reads;
    read = still_read names more old new on.reads on.read;
    holds = λ files many are.
        let (first, rest, is, these, those, found, _) =
        parted names more old new on.reads [] files on.read many (rw append-nil are) in
        rw is at (join first rest these those (on.holds first these found));
  }

  -- nothing was read, so the store is as it was, and what is known holds of any files
  pub none_read : (names : List (List ℕ)) (P : Contents → Type 0) (old : S) →
      ((files : Contents) → length files ≡ length names → P files) → OnRead of names P old old
  none_read names P old holds = record { reads = []; read = refl; holds = λ files many are. holds files many }

  -- where no file is named, all of them were read
  pub none_named : (P : Contents → Type 0) (old : S) → P [] → OnAllRead of [] P old old
  unfolding none_read
  none_named P old holds = (none_read [] P old (λ files many. rw (nil_from_length files many) holds), refl)

  -- one file was read
  pub one_read : (name : List ℕ) (limit : ℕ) (P : Option (List ℕ) → Type 0) (old new : S) →
      OnReadFile of name limit P old new → OnAllRead of (name ∷ []) (OnOneFile P) old new
  one_read name limit P old new (found, read, holds) =
      let this : FileRead = record { limit = limit; found = found } in (
        record {
          reads = this ∷ [];
          read = (new, read, refl);
          holds = λ files one are.
              of_one (λ fs. AreAsRead (this ∷ []) fs → OnOneFile P fs) files one (λ file is. holds file is.0) are;
        },
        refl,
      )
