-- Entries by the machine that sent them and their number.
use Rattle.std.specs.Prelude.{◌≡◌, ℕ, Some, slice_get}
use Rattle.entry_order.specs.History.{sent}
use Rattle.entry_order.specs.World.{World, history}

-- e is the entry of machine m with number n
abbrev pub IsSentAt : {T : Type 0} → World T → ℕ → ℕ → T → Type 0
IsSentAt w m n e = slice_get (sent (history w m)) n ≡ Some e
