-- The files that are left of the logs of an honest place.
use Rattle.std.specs.Prelude.{◌≡◌, ℕ, ◌<◌, List, length, map, All, Option, Some, IsSomeAnd}
use Rattle.std.specs.List.{AllZip, Contains}
use Rattle.entry_format.specs.SealedEntry.{SealedEntry}
use Rattle.entry_order.specs.World.{World, history}
use Rattle.log_files.specs.Logs.{LogRead}
use Rattle.log_files.specs.Written.{log_text}
use Rattle.polling_world.specs.Machines.{MachineState}
use Rattle.honest_places.specs.WhatIsLeft.{IsLeftIn, IsLeftOf, IsPrefixRead}

-- each of the files is there and is what is left of the log of a machine of w
abbrev pub AreFilesOf : World SealedEntry → List (Option (List ℕ)) → Type 0
AreFilesOf w files = All (λ file. IsSomeAnd file (IsLeftIn w)) files

-- the whole log of each machine of w is among them
abbrev pub AreAllFilesOf : World SealedEntry → List (Option (List ℕ)) → Type 0
AreAllFilesOf w files = (m : ℕ) → m < length w → Contains files (Some (log_text m (history w m)))

-- the logs of machines, whole, as they are written
abbrev pub written_logs : List MachineState → List (Option (List ℕ))
written_logs machines = map (λ (m : MachineState). Some (log_text m.config.number m.events)) machines

-- the file has what is left of the log of a machine of w, and the log is what that is read as
pub record IsReadOf (w : World SealedEntry) (file : Option (List ℕ)) (log : LogRead) : Type 0 where
  pub machine : ℕ
  pub bytes : List ℕ
  pub there : machine < length w
  pub has : file ≡ Some bytes
  pub left : IsLeftOf machine (history w machine) bytes
  pub read : IsPrefixRead machine (history w machine) bytes log

-- there is a log for each of the files, in their order
abbrev pub AreReadOf : World SealedEntry → List (Option (List ℕ)) → List LogRead → Type 0
AreReadOf w files logs = AllZip (IsReadOf w) files logs
