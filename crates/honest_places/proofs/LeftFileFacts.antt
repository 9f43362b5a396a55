-- What the files that are left of an honest world's logs give.
use Rattle.honest_places.proofs.Imports
use Imports.{[], All-contains, All-head, All-tail, all_from_places, AllZip, ap, AreAllFilesOf, AreFilesOf, AreReadIn}
use Imports.{AreReadOf, arith, election_of, Err, GivesLogs, HaveAll, history, inl, inr, IsHonestWorld, IsLeftIn}
use Imports.{IsLogRefusal, IsReadIn, IsReadOf, IsSomeAnd, length, length-take, List, log_text, LogRead, max_machines}
use Imports.{member_at, None, Ok, Option, Post, refl, Refusal, SealedEntry, Some, World, ℕ, ◌∷◌, ◌≤◌}
use Rattle.honest_places.proofs.ReadLogs.{header_in, read_in, whole_in}
use Rattle.honest_places.proofs.{Lists.zip_left, Lists.zip_more, Lists.zip_right, ShortLogs.logs_are_short}
use Rattle.log_files.specs.LogFile.{IsSealedLogOf, max_bytes}
use Rattle.log_files.specs.declared.plain_log.LogFault.TheVariants as fault

-- what is left of a log of w is in the file
abbrev pub IsFileOf : World SealedEntry → Option (List ℕ) → Type 0
IsFileOf w file = IsSomeAnd file (IsLeftIn w)

module _ (posts : List Post) where
  -- the log is what the file is read as
  abbrev pub IsOfFile : Option (List ℕ) → LogRead → Type 0
  IsOfFile file log = IsSealedLogOf posts (election_of posts) log file

  -- the logs that the files give are of them, one after another
  pub given_each : (names : List (List ℕ)) (files : List (Option (List ℕ))) (logs : List LogRead) →
      GivesLogs posts (election_of posts) names files (Ok logs) → AllZip IsOfFile files logs
  given_each [] [] [] gives = tt
  given_each (name ∷ names) (file ∷ files) (log ∷ logs) gives = (gives.0, given_each names files logs gives.1)
  given_each names files logs gives = absurd gives

module _ (posts : List Post) (w : World SealedEntry) (honest : IsHonestWorld posts w) where
  -- each file is read as the events that are complete in it
  file_is_read : (file : Option (List ℕ)) (log : LogRead) → IsFileOf w file → IsOfFile posts file log →
      IsReadOf w file log
  file_is_read None log left said = absurd left
  file_is_read (Some bytes) log (m, below, left) said =
      let read = read_in posts w honest m below bytes left log said.1 in
      record { machine = m; bytes = bytes; there = below; has = refl; left = left; read = read }

  module _ (names : List (List ℕ)) (files : List (Option (List ℕ))) where
    -- file by file a log is read of what is left
    pub each_is_read : AreFilesOf w files → (logs : List LogRead) →
        GivesLogs posts (election_of posts) names files (Ok logs) → AreReadOf w files logs
    each_is_read left logs gives =
        zip_more (IsOfFile posts) (IsReadOf w) files logs (given_each posts names files logs gives)
        (λ file log there said. file_is_read file log (All-contains (IsFileOf w) files file left there) said)

    -- the logs that the files give are logs of the world
    pub files_are_read : AreFilesOf w files → (logs : List LogRead) →
        GivesLogs posts (election_of posts) names files (Ok logs) → AreReadIn w logs
    files_are_read left logs gives =
        all_from_places (IsReadIn w) logs (λ i log at.
        let each = each_is_read left logs gives in
        let (file, there, of) = zip_right (IsReadOf w) files logs each log (member_at logs i log at) in
        record { machine = of.machine; bytes = of.bytes; there = of.there; read = of.read })

    -- where each whole log is among the files, each is read whole
    pub files_have_all : AreAllFilesOf w files → (logs : List LogRead) →
        GivesLogs posts (election_of posts) names files (Ok logs) → HaveAll w logs
    files_have_all all logs gives m below =
        let (log, inside, said) = zip_left (IsOfFile posts) files logs (given_each posts names files logs gives)
        (Some (log_text m (history w m))) (all m below) in
        (log, inside, whole_in posts w honest m below log said.1)

  -- what is left of a log of an honest world is within the limit of a log's file, since the whole
  -- log is
  within_limit : (bytes : List ℕ) → IsLeftIn w bytes → length bytes ≤ max_bytes
  within_limit bytes (m, below, left) =
      let few : length w ≤ max_machines = rw honest.one_each honest.few_machines in
      let short = logs_are_short posts (election_of posts) w honest.orderly few honest.few_sent honest.valid m
      (omega (arith, below, few)) in
      omega (arith, short, ap length left.cut, length-take left.place (log_text m (history w m)))

  -- no file that is left of a log of an honest world is refused: it has a header, and isn't too long
  file_given : (name : List ℕ) (file : Option (List ℕ)) (refusal : Refusal) → IsFileOf w file →
      ¬ IsLogRefusal name file refusal
  file_given name None refusal left why = left
  file_given name (Some bytes) refusal left (fault.TooLong, why, told) =
      omega (arith, why, within_limit bytes left)
  file_given name (Some bytes) refusal (m, below, left) (fault.Header, why, told) =
      why.1 (header_in posts w honest m below bytes left)
  file_given name (Some bytes) refusal left (fault, why, told) = cc

  -- files that are left of the logs of an honest world are never refused
  pub files_are_given : (names : List (List ℕ)) (files : List (Option (List ℕ))) → AreFilesOf w files →
      (refusal : Refusal) → ¬ GivesLogs posts (election_of posts) names files (Err refusal)
  files_are_given [] (file ∷ files) left refusal gives = gives
  files_are_given (name ∷ names) (file ∷ files) left refusal (inl why) =
      file_given name file refusal (All-head (IsFileOf w) file files left) why
  files_are_given (name ∷ names) (file ∷ files) left refusal (inr (log, rest)) =
      files_are_given names files (All-tail (IsFileOf w) file files left) refusal rest
  files_are_given names files left refusal gives = gives

-- what files that are left of an honest world give
pub ruleset files_give = (files_are_read, each_is_read, files_are_given)
