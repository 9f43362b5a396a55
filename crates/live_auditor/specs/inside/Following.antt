-- Entries that are put after others.
use Rattle.std.specs.Prelude.{◌≡◌, ℕ, ◌+◌, ◌<◌, ◌≤◌, List, ◌++◌, ◌∷◌, []}
use Rattle.std.specs.List.{Contains}
use Rattle.entry_format.specs.Nodes.{node_of_sealed}
use Rattle.entry_format.specs.SealedEntry.{SealedEntry}
use Rattle.entry_graph.specs.EntryGraph.{EntryGraph, Links}
use Rattle.entry_order.specs.Ascending.{ascending}
use Rattle.entry_order.specs.Naming.{Distinct}
use Rattle.roster.specs.declared.post.Post.{Post}
use Rattle.rule_language.specs.declared.row.Row.{Row}
use Rattle.live_auditor.specs.declared.late.Tail.{Tail}
use Rattle.live_auditor.specs.declared.summary.Summed.{Summed}
use Rattle.live_auditor.specs.inside.Found.{IsApartBy}
use Rattle.live_auditor.specs.inside.Grown.{kept_with}
use Rattle.live_auditor.specs.inside.Kept.{IsGraphed, SurvivorsKept, link_to}
use Rattle.live_auditor.specs.inside.KeptOf.{kept_of}

-- the entry, which has a stamp that is no lower than `above`, is put after the others
pub record IsPushed (tail : Tail) (e : SealedEntry) (row : Row) (next : Tail) : Type 0 where
  pub parents : List ℕ
  pub missing : List (List ℕ)
  pub latest : tail.above ≤ e.entry.stamp
  pub apart : IsApartBy tail.gaps.items tail.survivors.digests.items tail.survivors.rows.items e parents missing
  pub above : next.above ≡ e.entry.stamp + 1
  pub gaps : next.gaps.items ≡ ascending (tail.gaps.items ++ missing)
  pub kept : kept_of next.survivors ≡ kept_with (kept_of tail.survivors) e.digest
      (tail.survivors.rows.items ++ row ∷ []) (link_to parents missing)

-- entries that can be put after given ones, which have stamps below the bound: no two of all have
-- one digest
pub record CanFollow (given others : List SealedEntry) (bound : ℕ) : Type 0 where
  pub below : (f : SealedEntry) → Contains given f → f.entry.stamp < bound
  pub apart : Distinct node_of_sealed (given ++ others)

-- the graph of all: those that were given come first
pub record IsFollowed (machines : List Post) (given : List SealedEntry) (first : EntryGraph SealedEntry)
    (before : SurvivorsKept) (others : List SealedEntry) (tail : Tail) : Type 0 where
  pub graph : EntryGraph SealedEntry
  pub graphed : IsGraphed machines (given ++ others) graph tail.gaps.items (kept_of tail.survivors)
  pub strays : graph.strays ≡ first.strays
  pub forks : graph.forks ≡ first.forks
  pub above : (f : SealedEntry) → Contains (given ++ others) f → f.entry.stamp < tail.above
  pub rows : List Row
  pub rows_are : tail.survivors.rows.items ≡ before.rows ++ rows
  pub links : List Links
  pub links_are : tail.survivors.links.items ≡ before.links ++ links

-- the tail has the first survivors and these, of whatever entries the first are
abbrev pub FollowOf : List Post → ℕ → Summed → List SealedEntry → Tail → Type 0
FollowOf machines below first others tail =
    (given : List SealedEntry) (graph : EntryGraph SealedEntry) →
    IsGraphed machines given graph first.summary.gaps (kept_of first.survivors) →
    CanFollow given others below →
    IsFollowed machines given graph (kept_of first.survivors) others tail
