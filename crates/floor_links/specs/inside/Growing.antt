-- The links of one sender, as they are added to those of others.
use Rattle.std.specs.Prelude.{◌≡◌, ℕ, ◌<◌, ◌≤◌, List, [], ◌∷◌, ◌++◌, length, map, All, slice_index_or}
use Rattle.entry_format.specs.SealedEntry.{SealedEntry}
use Rattle.broadcast_queues.specs.Ends.{LinkView, OutView, InView}
use Rattle.floor_links.specs.Fresh.{out_of, in_of, IsLinkOf}

-- the links from one machine to each of the first receivers, with their ends: each of these has one
-- end more that takes
pub record IsRowBelow (from capacity most : ℕ) (row : List LinkView) (outs : List (OutView SealedEntry))
    (before after : List (List (InView SealedEntry))) : Type 0 where
  pub count : length row ≡ most
  pub carry : All (IsLinkOf from capacity) row
  pub puts : outs ≡ map out_of row
  pub takes_count : length after ≡ length before
  pub takes : (b : ℕ) (d : List (InView SealedEntry)) (l : LinkView) → b < most →
      slice_index_or after b d ≡ slice_index_or before b d ++ in_of (slice_index_or row b l) ∷ []
  pub left : (b : ℕ) (d : List (InView SealedEntry)) → most ≤ b → slice_index_or after b d ≡ slice_index_or before b d
