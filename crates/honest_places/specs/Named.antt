-- How much a machine names.
use Rattle.std.specs.Prelude.{ℕ, List, length}
use Rattle.std.specs.List.{sum_by}
use Rattle.entry_order.specs.declared.event.Event.{Event}
use Rattle.entry_order.specs.Node.{Node}
use Rattle.entry_order.specs.History.{sent}

-- how many digests the entries that were sent name together
abbrev pub count_named : {T : Type 0} → (T → Node) → List (Event T) → ℕ
count_named node h = sum_by (λ e. length (node e).names) (sent h)
