-- What the entries may have been of which some survive.
use Rattle.std.specs.Prelude.{ℕ, ◌<◌, List}
use Rattle.std.specs.List.{Contains}
use Rattle.entry_order.specs.Node.{Node}
use Rattle.entry_order.specs.Naming.{IsNamedIn, IsBorneIn, Distinct}

-- G is of this number of machines, has all of S and no two with one digest, and has all that it
-- names
pub record Completion {T : Type 0} (node : T → Node) (machines : ℕ) (S G : List T) : Type 0 where
  pub in_roster : (e : T) → Contains G e → (node e).maker < machines
  pub keeps : (e : T) → Contains S e → Contains G e
  pub distinct : Distinct node G
  pub lacks_nothing : (d : List ℕ) → IsNamedIn node G d → IsBorneIn node G d
