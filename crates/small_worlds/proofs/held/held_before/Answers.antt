use Rattle.small_worlds.proofs.Fusions.{map_same}
use Rattle.small_worlds.proofs.held.held_before.Goals as goal

pub returns : goal.returns
returns g c = simp map_same at c.held_before.ensures
