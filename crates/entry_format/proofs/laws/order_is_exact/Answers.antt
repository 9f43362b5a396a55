use Rattle.entry_format.proofs.laws.order_is_exact.Goals as goal
use Rattle.entry_format.proofs.{Fillers.made, Imports.node_of, Imports.refl}
use Rattle.entry_order.proofs.Filled.{order_is_exact}

pub returns : goal.returns
returns c = order_is_exact node_of made (λ ns d. refl) (λ ns d. refl) (λ ns d. refl)
