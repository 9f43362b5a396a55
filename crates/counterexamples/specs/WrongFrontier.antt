-- Why the frontier asks every held entry what it names: else it keeps an entry that is heard late.
use Rattle.std.specs.Prelude.{◌≡◌, ℕ, not, List, [], ◌∷◌}
use Rattle.std.specs.List.{Contains, filter, fold}
use Rattle.entry_order.specs.Naming.{IsNamedIn, names_digest}
use Rattle.entry_order.specs.Ascending.{ascending}
use Rattle.entry_order.specs.Frontier.{frontier, IsFrontier}
use Rattle.counterexamples.specs.Example.{Entry, digest_of, shown, b0, b1}

-- what e names goes out of the digests, and its own comes in
abbrev pub arrived : List (List ℕ) → Entry → List (List ℕ)
arrived ds e = (shown e).digest ∷ filter (λ d. not (names_digest shown e d)) ds

-- the digests that are left when all entries have arrived, in order
abbrev pub frontier_by_arrival : List Entry → List (List ℕ)
frontier_by_arrival es = ascending (fold arrived [] es)

-- b1 is heard first and names b0
abbrev pub heard : List Entry
heard = b1 ∷ b0 ∷ []

-- the frontier by arrival keeps b0, which b1 names, and so is not the frontier
pub record ArrivalFails : Type 0 where
  pub right : frontier shown heard ≡ digest_of 1 1 ∷ []
  pub keeps : Contains (frontier_by_arrival heard) (digest_of 1 0)
  pub named : IsNamedIn shown heard (digest_of 1 0)
  pub fails : ¬ (IsFrontier shown heard (frontier_by_arrival heard))
