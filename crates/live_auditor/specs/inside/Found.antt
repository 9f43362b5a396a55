-- What shows that an entry is appended, by what is kept of the survivors.
use Rattle.std.specs.Prelude.{◌≡◌, ℕ, ◌<◌, ◌&&◌, ◌==◌, false, is_none, List, length, Option, Some}
use Rattle.std.specs.Prelude.{slice_get}
use Rattle.std.specs.List.{filter, filter_map, list_any, position_from}
use Rattle.std.specs.Str.{bytes_eq}
use Rattle.entry_format.specs.SealedEntry.{SealedEntry}
use Rattle.rule_language.specs.declared.row.Row.{Row}

-- each digest has one place
abbrev pub HasOnePlaceEach : List (List ℕ) → Type 0
HasOnePlaceEach digests =
    (i j : ℕ) (d : List ℕ) → slice_get digests i ≡ Some d → slice_get digests j ≡ Some d → i ≡ j

-- the place of a digest
abbrev pub place_among : List (List ℕ) → List ℕ → Option ℕ
place_among digests d = position_from (λ x. bytes_eq x d) 0 digests

-- the numbers are the places of the names, and what is missing are the names that have none, each in
-- the order of the names
pub record FindsNames (digests names : List (List ℕ)) (parents : List ℕ) (missing : List (List ℕ)) : Type 0 where
  pub places : parents ≡ filter_map (place_among digests) names
  pub others : missing ≡ filter (λ d. is_none (place_among digests d)) names

-- the entry has the digest of no gap and of none of its names, and the maker and number of no row;
-- its names are at the parents' places, or nowhere
pub record IsApartBy (gaps digests : List (List ℕ)) (rows : List Row) (e : SealedEntry) (parents : List ℕ)
    (missing : List (List ℕ)) : Type 0 where
  pub few : length digests < 16384
  pub closes_none : list_any (λ d. bytes_eq d e.digest) gaps ≡ false
  pub not_itself : list_any (λ d. bytes_eq d e.digest) e.entry.names ≡ false
  pub no_fork : list_any
      (λ (row : Row). (row.maker == e.entry.maker) && (row.number == e.entry.number)) rows ≡ false
  pub finds : HasOnePlaceEach digests → FindsNames digests e.entry.names parents missing
