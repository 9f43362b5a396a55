-- What tables of numbers by digest say of entries.
use Rattle.std.specs.Prelude.{◌≡◌, ℕ, Bool, false, ◌||◌, nat_le, List, [], ◌++◌, map, Option, Some, None, is_none}
use Rattle.std.specs.Prelude.{slice_get}
use Rattle.std.specs.List.{Contains, cons_option}
use Rattle.std.specs.Map.{lookup}
use Rattle.std.specs.Str.{bytes_eq}
use Rattle.entry_order.specs.Node.{Node}
use Rattle.entry_graph.specs.EntryGraph.{Links, links_by}

-- what the table has at a digest
abbrev pub number_at : List (List ℕ × ℕ) → List ℕ → Option ℕ
number_at table d = lookup (bytes_eq d) table

-- whether there is a number and it is at least this one
abbrev pub is_from : ℕ → Option ℕ → Bool
is_from least None = false
is_from least (Some n) = nat_le least n

-- a number is found exactly when one belongs to the digest, and it is such a one
pub record IsTableOf (Belongs : List ℕ → ℕ → Type 0) (table : List (List ℕ × ℕ)) : Type 0 where
  pub found : (d : List ℕ) (n : ℕ) → number_at table d ≡ Some n → Belongs d n
  pub lacks : (d : List ℕ) (n : ℕ) → number_at table d ≡ None → ¬ (Belongs d n)

-- the links with those of one name more, which has this place or none
abbrev pub with_next : Links → Option ℕ → Links
with_next links place = record {
  parents = links.parents ++ cons_option place [];
  ragged = links.ragged || is_none place;
}

module _ {T : Type 0} (node : T → Node) where
  -- the stamps of the entries
  abbrev pub AreStamps : List T → List (List ℕ × ℕ) → Type 0
  AreStamps es = IsTableOf (λ d n. (e : T) × Contains es e × ((node e).digest ≡ d) × ((node e).stamp ≡ n))

  -- the places of the entries
  abbrev pub ArePlaces : List T → List (List ℕ × ℕ) → Type 0
  ArePlaces es = IsTableOf (λ d n. (e : T) × (slice_get es n ≡ Some e) × ((node e).digest ≡ d))

  -- the links of the entries by the table of places
  abbrev pub links_of : List (List ℕ × ℕ) → List T → List Links
  links_of table es = map (λ e. links_by (number_at table) (node e).names) es
