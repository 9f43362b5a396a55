-- Entries with lower stamps, and the others.
use Rattle.std.specs.Prelude.{ℕ, nat_le, nat_lt, List}
use Rattle.std.specs.List.{filter}
use Rattle.entry_format.specs.SealedEntry.{SealedEntry}

-- those of the entries that have stamps below the bound
abbrev pub lower : ℕ → List SealedEntry → List SealedEntry
lower below = filter (λ e. nat_lt e.entry.stamp below)

-- the others
abbrev pub from_stamp : ℕ → List SealedEntry → List SealedEntry
from_stamp below = filter (λ e. nat_le below e.entry.stamp)
