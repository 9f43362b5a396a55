use Rattle.entry_format.proofs.laws.completions_exist.Goals as goal
use Rattle.entry_format.proofs.{Fillers.made, Imports.[], Imports.Contains-none, Imports.node_of, Imports.refl}
use Rattle.entry_order.proofs.Filled.{completions_exist}

pub returns : goal.returns
returns c = completions_exist node_of (made []) (λ d. refl) (λ d. refl) (λ d e there. Contains-none e there)
