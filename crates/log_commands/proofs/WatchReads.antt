-- What `watch` reads.
use Rattle.log_commands.proofs.Imports.{[], All, All-append, All-map, All-nil, entries_of, entries_of_records, Evidence}
use Rattle.log_commands.proofs.Imports.{GivesEvidence, GivesLogs, IsOfMachine, IsValid, List, log_is_valid, LogRead}
use Rattle.log_commands.proofs.Imports.{None, Ok, Option, Post, ReadsLogs, RuleSource, SealedEntry, Some, subst, sym, ℕ}
use Rattle.log_commands.proofs.Imports.{◌∷◌}
use Rattle.log_commands.proofs.FilesBegun.{found_then, opened, same_found}
use Rattle.log_files.specs.declared.sealed_log.Kept.{Kept}

module _ (machines : List Post) (election : List ℕ) where
  -- an entry is valid by its own text
  abbrev pub IsValidEntry : SealedEntry → Type 0
  IsValidEntry e = IsValid machines election e.text e

  -- and so are those that logs keep
  pub logs_are_valid : (names : List (List ℕ)) (files : List (Option (List ℕ))) (logs : List LogRead) →
      GivesLogs machines election names files (Ok logs) → All IsValidEntry (entries_of logs)
  logs_are_valid [] [] [] gives = All-nil IsValidEntry
  logs_are_valid (name ∷ names) (None ∷ files) (log ∷ logs) (none, rest) = absurd none
  logs_are_valid (name ∷ names) (Some bytes ∷ files) (log ∷ logs) (says, rest) =
      All-append IsValidEntry (entries_of_records log.kept) (entries_of logs)
      (All-map IsValidEntry (λ (kept : Kept). kept.entry) log.kept (log_is_valid machines election bytes log says.1))
      (logs_are_valid names files logs rest)
  logs_are_valid names files logs gives = absurd gives

-- the entries of the evidence were made by machines of its roster
pub evidence_of_machines : (names : List (List ℕ)) (found : Evidence) (roster : List ℕ) (source : RuleSource)
    (files : List (Option (List ℕ))) → GivesEvidence roster source names files (Ok found) →
    All (IsOfMachine found.machines) (entries_of found.logs)
evidence_of_machines names found roster source files gives =
    let o = opened (λ read rules rest. ReadsLogs read rules names rest) roster source files found gives in
    let (logs, keep, e) = found_then o.next in
    let valid = logs_are_valid o.begun.read.roster.machines o.begun.read.election names o.rest logs keep in
    subst (λ (ev : Evidence). All (IsOfMachine ev.machines) (entries_of ev.logs)) (sym (same_found e))
    (λ k d within. record { maker = (valid k d within).maker; key = (valid k d within).key })
