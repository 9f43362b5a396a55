-- The links of a place in rows by senders.
use Rattle.std.specs.Prelude.{◌≡◌, ℕ, ◌<◌, List, [], length, slice_index_or}
use Rattle.entry_format.specs.SealedEntry.{SealedEntry}
use Rattle.broadcast_queues.specs.Ends.{LinkView, OutView, IsOutOf}

-- the link from one machine to another
abbrev pub link_at : List (List LinkView) → ℕ → ℕ → LinkView → LinkView
link_at links from to d = slice_index_or (slice_index_or links from []) to d

-- the ends are those of the links in the machine's row, in order, and these carry its entries
pub record IsRowOf (links : List (List LinkView)) (own : ℕ) (outs : List (OutView SealedEntry)) : Type 0 where
  pub rows : own < length links
  pub row : length (slice_index_or links own []) ≡ length outs
  pub ends : (to : ℕ) (l : LinkView) (d : OutView SealedEntry) → to < length outs →
      IsOutOf (link_at links own to l) (slice_index_or outs to d)
  pub from : (to : ℕ) (d : OutView SealedEntry) → to < length outs → (slice_index_or outs to d).from ≡ own

-- each link in the machine's row holds at most `capacity` entries
abbrev pub HaveCapacity : List (List LinkView) → ℕ → ℕ → ℕ → Type 0
HaveCapacity links own count capacity =
    (to : ℕ) (l : LinkView) → to < count → (link_at links own to l).capacity ≡ capacity
