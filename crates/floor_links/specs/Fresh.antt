-- The links of a place and their ends, before anything was put.
use Rattle.std.specs.Prelude.{◌≡◌, ℕ, ◌<◌, List, [], length, map, All, slice_index_or}
use Rattle.entry_format.specs.SealedEntry.{SealedEntry}
use Rattle.broadcast_queues.specs.Ends.{LinkView, OutView, InView}

-- the end that puts, of a link that nothing was put on
abbrev pub out_of : LinkView → OutView SealedEntry
out_of link = record { queue = link.queue; from = link.from; put = []; seen_taken = 0; fulls = 0 }

-- the end that takes
abbrev pub in_of : LinkView → InView SealedEntry
in_of link = record { queue = link.queue; from = link.from; taken = []; seen_put = 0; bares = 0 }

-- the link carries this machine's entries, and holds at most this many
abbrev pub IsLinkOf : ℕ → ℕ → LinkView → Type 0
IsLinkOf from capacity link = (link.from ≡ from) × (link.capacity ≡ capacity)

-- Links from each of the first senders to each of `count` machines, with all their ends: those that
-- put by senders, and those that take by receivers. The ends of the link from a to b are in row a
-- at b, and in row b at a.
pub record AreNewRows (senders count capacity : ℕ) (links : List (List LinkView))
    (outs : List (List (OutView SealedEntry))) (inns : List (List (InView SealedEntry))) : Type 0 where
  pub rows : length links ≡ senders
  pub square : (a : ℕ) → a < senders → length (slice_index_or links a []) ≡ count
  pub carry : (a : ℕ) → a < senders → All (IsLinkOf a capacity) (slice_index_or links a [])
  pub puts_count : length outs ≡ senders
  pub puts : (a : ℕ) (d : List (OutView SealedEntry)) → a < senders →
      slice_index_or outs a d ≡ map out_of (slice_index_or links a [])
  pub takes_count : length inns ≡ count
  pub takes : (b : ℕ) (d : List (InView SealedEntry)) (l : LinkView) → b < count →
      slice_index_or inns b d ≡ map (λ row. in_of (slice_index_or row b l)) links

-- all links between the machines are new, and the ends are theirs
abbrev pub AreNewLinks : ℕ → ℕ → List (List LinkView) → List (List (OutView SealedEntry))
    → List (List (InView SealedEntry)) → Type 0
AreNewLinks count capacity links outs inns = AreNewRows count count capacity links outs inns
