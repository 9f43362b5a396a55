-- The makers of entries are machines.
use Rattle.auditor.proofs.Imports.{[], All, All-append, All-contains, All-map, All-nil, All-weaker, ap, AreForks}
use Rattle.auditor.proofs.Imports.{Contains-get_or, Contents, distinct_given, entries_of, entries_of_records}
use Rattle.auditor.proofs.Imports.{EntryGraph, get_or, GivesGraph, GivesLogs, HaveMakers, IsSealedLogOf, IsValid, Kept}
use Rattle.auditor.proofs.Imports.{length, List, log_is_valid, LogRead, node_of_sealed, None, Ok, Option, Post, refl}
use Rattle.auditor.proofs.Imports.{SealedEntry, Some, suc, ℕ, ◌<◌, ◌∷◌, ◌≡◌}

-- the entry's maker is one of the machines
abbrev HasMaker : List Post → SealedEntry → Type 0
HasMaker machines sealed = sealed.entry.maker < length machines

-- the makers of the forks are machines of the roster
pub forks_have_makers : (machines : List Post) (survivors : List SealedEntry) (forks : List (ℕ × ℕ)) →
    HaveMakers machines survivors → AreForks node_of_sealed survivors forks →
    All (λ (fork : ℕ × ℕ). fork.0 < length machines) forks
forks_have_makers machines survivors forks makers are = λ k d within.
    let fork : ℕ × ℕ = get_or forks k d in
    let (e, f, has, also, differ, maker, number, other, twice) =
    (are.members fork.0 fork.1).0 (Contains-get_or forks k d within) in
    rw maker at (All-contains (HasMaker machines) survivors e makers has)

-- the survivors of entries of machines are of machines
pub survivors_have_makers : (machines : List Post) (given : List SealedEntry) (graph : EntryGraph SealedEntry) →
    HaveMakers machines given → GivesGraph given (Ok graph) → HaveMakers machines graph.survivors
survivors_have_makers machines given graph makers gives = λ k d within.
    let e : SealedEntry = get_or graph.survivors k d in
    let kept = (gives.2.members e).0 (Contains-get_or graph.survivors k d within) in
    All-contains (HasMaker machines) given e makers (distinct_given node_of_sealed given e kept.0)

-- the entries that the log of a file keeps are of machines
kept_have_makers : (machines : List Post) (election : List ℕ) (log : LogRead) (file : Option (List ℕ)) →
    IsSealedLogOf machines election log file → HaveMakers machines (entries_of_records log.kept)
kept_have_makers machines election log None is = absurd is
kept_have_makers machines election log (Some bytes) (fits, says) =
    All-map (HasMaker machines) (λ (kept : Kept). kept.entry) log.kept
    (All-weaker (λ (kept : Kept). IsValid machines election kept.entry.text kept.entry)
    (λ (kept : Kept). HasMaker machines kept.entry) (λ kept valid. valid.maker) log.kept
    (log_is_valid machines election bytes log says))

-- the entries that logs keep are of the machines of the roster under which they were read
pub logs_have_makers : (machines : List Post) (election : List ℕ) (names : List (List ℕ)) (files : Contents)
    (logs : List LogRead) → GivesLogs machines election names files (Ok logs) → HaveMakers machines (entries_of logs)
logs_have_makers machines election [] [] [] gives = All-nil (HasMaker machines)
logs_have_makers machines election (name ∷ names) (file ∷ files) (log ∷ logs) (is, gives) =
    All-append (HasMaker machines) (entries_of_records log.kept) (entries_of logs)
    (kept_have_makers machines election log file is) (logs_have_makers machines election names files logs gives)
logs_have_makers machines election names files logs gives = absurd gives

-- there is one log for each name
pub a_log_each : (machines : List Post) (election : List ℕ) (names : List (List ℕ)) (files : Contents)
    (logs : List LogRead) → GivesLogs machines election names files (Ok logs) → length names ≡ length logs
a_log_each machines election [] [] [] gives = refl
a_log_each machines election (name ∷ names) (file ∷ files) (log ∷ logs) (is, gives) =
    ap suc (a_log_each machines election names files logs gives)
a_log_each machines election names files logs gives = absurd gives
