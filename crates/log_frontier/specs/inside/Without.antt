-- Digests that aren't among others.
use Rattle.std.specs.Prelude.{ℕ, ◌↔◌, List}
use Rattle.std.specs.List.{Contains}
use Rattle.entry_order.specs.Ascending.{IsAscending}

-- the list is ascending and has exactly those of the named digests that no entry has
pub record IsWithout (named borne found : List (List ℕ)) : Type 0 where
  pub rises : IsAscending found
  pub members : (d : List ℕ) → Contains found d ↔ (Contains named d × (¬ Contains borne d))
