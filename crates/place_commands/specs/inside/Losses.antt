-- Losses whose machines have names.
use Rattle.std.specs.Prelude.{ℕ, ◌<◌}
use Rattle.finished_floor.specs.declared.loss.Loss.{Loss}

-- both machines of the loss are among this many
pub record IsBetween (machines : ℕ) (loss : Loss) : Type 0 where
  pub from : loss.from < machines
  pub to : loss.to < machines
