-- Whether all that is named is held.
use Rattle.std.specs.Prelude.{ℕ, List}
use Rattle.std.specs.List.{Contains}
use Rattle.entry_order.specs.Node.{Node}
use Rattle.entry_order.specs.Naming.{IsBorneIn}

module _ {T : Type 0} (node : T → Node) where
  -- every digest that one of the entries names is the digest of one of them
  abbrev pub NamesOnlyHeld : List T → Type 0
  NamesOnlyHeld es =
      (e : T) (d : List ℕ) → Contains es e → Contains (node e).names d → IsBorneIn node es d
