-- What an auditor works from: the survivors, what they name, and what is reported of them.
use Rattle.std.specs.Prelude.{◌≡◌, ◌≢◌, ◌↔◌, ◌⊎◌, ℕ, ◌<◌, ◌≤◌, Bool, false, List, []}
use Rattle.std.specs.Prelude.{Option, Some, None, is_none, length, map, slice_get}
use Rattle.std.specs.List.{AllPairs, Contains, filter_map, list_any, position_from}
use Rattle.std.specs.Str.{bytes_eq}
use Rattle.std.specs.List.Sorted.{IsStrictlySortedBy}
use Rattle.std.specs.Cmp.Lexicographic.{slice_cmp}
use Rattle.std.specs.Ordering.{nat_cmp, ordering_then}
use Rattle.std.specs.declared.cmp.Ordering.{Ordering}
use Rattle.std.specs.declared.cmp.Ordering.TheVariants.{Less}
use Rattle.entry_order.specs.Node.{Node}
use Rattle.entry_order.specs.Ascending.{IsAscending}
use Rattle.entry_order.specs.Survivors.{IsStray, gaps as gaps_of}
use Rattle.entry_order.specs.Settled.{IsGraphOf}

-- what a survivor names: other survivors, by their numbers, and whether a gap too
pub record Links : Type 0 where
  pub parents : List ℕ
  pub ragged : Bool

-- what these names link to, where each digest has its place or none: the places, in the order of the
-- names, and whether some name has none
abbrev pub links_by : (List ℕ → Option ℕ) → List (List ℕ) → Links
links_by place names = record {
  parents = filter_map place names;
  ragged = list_any (λ d. is_none (place d)) names;
}

-- the survivors by their numbers, the links of each, the gaps, the strays, and the forks by maker
-- and number
pub record EntryGraph (T : Type 0) : Type 0 where
  pub survivors : List T
  pub links : List Links
  pub gaps : List (List ℕ)
  pub strays : List (List ℕ)
  pub forks : List (ℕ × ℕ)

-- the parents of a survivor with these links
abbrev pub parents_in : Option Links → List ℕ
parents_in None = []
parents_in (Some links) = links.parents

-- whether a survivor with these links is ragged
abbrev pub ragged_in : Option Links → Bool
ragged_in None = false
ragged_in (Some links) = links.ragged

-- the parents of the survivor with this number
abbrev pub parents_of : List Links → ℕ → List ℕ
parents_of links i = parents_in (slice_get links i)

-- whether the survivor with this number is ragged
abbrev pub ragged_of : List Links → ℕ → Bool
ragged_of links i = ragged_in (slice_get links i)

-- pairs by their first number and then their second
abbrev pub pair_cmp : ℕ × ℕ → ℕ × ℕ → Ordering
pair_cmp p q = ordering_then (nat_cmp p.0 q.0) (nat_cmp p.1 q.1)

module _ {T : Type 0} (node : T → Node) where
  -- e has the lower stamp, or the same stamp and the lower digest (Lamport 1978)
  abbrev pub IsLower : T → T → Type 0
  IsLower e f =
      ((node e).stamp < (node f).stamp)
      ⊎ (((node e).stamp ≡ (node f).stamp) × (slice_cmp nat_cmp (node e).digest (node f).digest ≡ Less))

  -- the digests, ascending, of the given entries that are strays
  pub record AreStrays (given : List T) (digests : List (List ℕ)) : Type 0 where
    pub rises : IsAscending digests
    pub members : (d : List ℕ) → Contains digests d
        ↔ ((e : T) × Contains given e × IsStray node given e × ((node e).digest ≡ d))

  -- two different entries of S are of this maker and have this number
  abbrev pub IsFork : List T → ℕ → ℕ → Type 0
  IsFork S m n =
      (e f : T) × Contains S e × Contains S f × (e ≢ f) × ((node e).maker ≡ m) × ((node e).number ≡ n)
      × ((node f).maker ≡ m) × ((node f).number ≡ n)

  -- the forks, ascending
  pub record AreForks (S : List T) (forks : List (ℕ × ℕ)) : Type 0 where
    pub rises : IsStrictlySortedBy pair_cmp forks
    pub members : (m n : ℕ) → Contains forks (m, n) ↔ IsFork S m n

  -- the place of the entry of S with this digest
  abbrev pub place_in : List T → List ℕ → Option ℕ
  place_in S d = position_from (λ e. bytes_eq (node e).digest d) 0 S

  -- the links of each entry of S are those of its names, by which its graph is that of the names
  -- (Auditorium, EVT 2007)
  pub record AreLinks (S : List T) (links : List Links) : Type 0 where
    pub in_order : links ≡ map (λ e. links_by (place_in S) (node e).names) S
    pub arrows : IsGraphOf node S (parents_of links) (ragged_of links)

  -- what holds of each graph: the survivors go by stamp and then digest, each is there once, the
  -- links are those of the names, and the gaps and the forks are those of the survivors
  pub record IsEntryGraph (graph : EntryGraph T) : Type 0 where
    pub few : length graph.survivors ≤ 16384
    pub numbered : AllPairs IsLower graph.survivors
    pub single : (i j : ℕ) (e : T) → slice_get graph.survivors i ≡ Some e →
        slice_get graph.survivors j ≡ Some e → i ≡ j
    pub linked : AreLinks graph.survivors graph.links
    pub gaps : graph.gaps ≡ gaps_of node graph.survivors
    pub forks : AreForks graph.survivors graph.forks

  -- the graph of distinct entries: its survivors are those that are no strays
  pub record IsGraphOfGiven (given : List T) (graph : EntryGraph T) : Type 0 where
    pub kept : IsEntryGraph graph
    pub members : (e : T) → Contains graph.survivors e ↔ (Contains given e × (¬ IsStray node given e))
    pub strays : AreStrays given graph.strays
