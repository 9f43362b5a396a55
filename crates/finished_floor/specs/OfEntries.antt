-- The losses of entries.
use Rattle.std.specs.Prelude.{ℕ, List, [], ◌∷◌, Option, Some, None}
use Rattle.entry_format.specs.SealedEntry.{SealedEntry}
use Rattle.finished_floor.specs.declared.loss.Loss.{Loss}
use Rattle.finished_floor.specs.declared.loss.LossWhy.{LossWhy}

-- the loss of an entry on its way to a machine
abbrev pub loss_of : SealedEntry → ℕ → LossWhy → Loss
loss_of e to why = record { from = e.entry.maker; number = e.entry.number; to = to; why = why }

-- the loss of an entry on its way to a machine, if there is a cause
abbrev pub lost_by : SealedEntry → ℕ → Option LossWhy → List Loss
lost_by e to None = []
lost_by e to (Some why) = loss_of e to why ∷ []
