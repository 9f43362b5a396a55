-- The appended entry: one that comes after all that were given, and after which nothing needs to be
-- said anew of the others.
use Rattle.std.specs.Prelude.{◌≡◌, ◌<◌, ◌++◌, ◌∷◌, [], ℕ, List, is_none}
use Rattle.std.specs.List.{Contains, filter, filter_map}
use Rattle.entry_order.specs.Ascending.{ascending}
use Rattle.entry_order.specs.Node.{Node}
use Rattle.entry_graph.specs.EntryGraph.{EntryGraph, place_in}
use Rattle.live_auditor.specs.inside.Kept.{link_to}

module _ {T : Type 0} (node : T → Node) where
  -- e has a higher stamp than all that were given; it has no gap's digest, and doesn't name itself;
  -- and no survivor has its maker and its number
  pub record IsAppended (given : List T) (graph : EntryGraph T) (e : T) : Type 0 where
    pub latest : (f : T) → Contains given f → (node f).stamp < (node e).stamp
    pub closes_none : Contains graph.gaps (node e).digest → ⊥
    pub not_itself : Contains (node e).names (node e).digest → ⊥
    pub no_fork : (f : T) → Contains graph.survivors f → (node f).maker ≡ (node e).maker →
        (node f).number ≡ (node e).number → ⊥

  -- the numbers are the places of those that e names, in the order of its names
  abbrev pub AreParents : List T → T → List ℕ → Type 0
  AreParents S e parents = parents ≡ filter_map (place_in node S) (node e).names

  -- the digests are those that e names and no survivor has, in that order
  abbrev pub AreMissing : List T → T → List (List ℕ) → Type 0
  AreMissing S e missing = missing ≡ filter (λ d. is_none (place_in node S d)) (node e).names

-- the graph with one survivor more, which has the last number and these parents, and names these
-- digests, too, which no survivor has
abbrev pub grown : {T : Type 0} → EntryGraph T → T → List ℕ → List (List ℕ) → EntryGraph T
grown graph e parents missing = record {
  survivors = graph.survivors ++ e ∷ [];
  links = graph.links ++ link_to parents missing ∷ [];
  gaps = ascending (graph.gaps ++ missing);
  strays = graph.strays;
  forks = graph.forks;
}
