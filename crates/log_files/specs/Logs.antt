-- What contracts see of a log that was read: lists, whatever room is reserved for them.
use Rattle.std.specs.Prelude.{ℕ, List, Option}
use Rattle.entry_format.specs.declared.plain.Plain.{Plain}
use Rattle.entry_format.specs.declared.plain.EntryFault.{EntryFault}
use Rattle.log_files.specs.declared.plain_log.End.{End}
use Rattle.log_files.specs.declared.sealed_log.Kept.{Kept}

-- the entries, the places of the other records and why, and how the file ends
pub record PlainLog : Type 0 where
  pub kept : List Plain
  pub refused : List (ℕ × EntryFault)
  pub end : End

-- the owner's place, the kept records, the places of the others and why, how the file ends, and the
-- place at which the kept ones break
pub record LogRead : Type 0 where
  pub owner : ℕ
  pub kept : List Kept
  pub refused : List (ℕ × EntryFault)
  pub end : End
  pub broke : Option ℕ
