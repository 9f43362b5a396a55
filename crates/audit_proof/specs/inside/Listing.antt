-- What a table of a proof's lines says.
use Rattle.std.specs.Prelude.{◌≡◌, ℕ, ◌<◌, Bool, false, List, Option, length, All}
use Rattle.std.specs.Prelude.{slice_get, slice_index_or}
use Rattle.entry_order.specs.declared.three.Three.{Three}
use Rattle.precedence.specs.Graph.{Graph}
use Rattle.audit_proof.specs.declared.listing.Listing.{Listing}
use Rattle.audit_proof.specs.Lines.{Line}
use Rattle.audit_proof.specs.KnownBy.{own_line, before_on, whole_by}
use Rattle.audit_proof.specs.inside.Falls.{Falls}

-- the line of a survivor, if it has one
abbrev pub listing_line : Listing → ℕ → Option Line
listing_line listing x = slice_get listing.lines.now (slice_index_or listing.numbers.items x 0)

-- whether a survivor is whole by the proof
abbrev pub listing_whole : Listing → ℕ → Bool
listing_whole listing x = slice_index_or listing.wholes.items x false

-- whether another comes before it
abbrev pub listing_before : Listing → ℕ → ℕ → Three
listing_before listing y x = before_on (listing_line listing x) (listing_whole listing x) y

-- what is searched falls
pub record IsSearchable (listing : Listing) : Type 0 where
  pub as_many : length listing.wholes.items ≡ length listing.numbers.items
  pub falls : All (λ (line : Line). Falls line.steps) listing.lines.now

-- the table is of these lines, and says of the survivors what they do
pub record IsListingOf (graph : Graph) (lines : List Line) (listing : Listing) : Type 0 where
  pub count : length listing.numbers.items ≡ graph.count
  pub searchable : IsSearchable listing
  pub found : (x : ℕ) → x < graph.count → listing_line listing x ≡ own_line lines x
  pub whole : (x : ℕ) → x < graph.count → listing_whole listing x ≡ whole_by graph.ragged lines x
