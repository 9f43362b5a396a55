-- What becomes of an entry that is added.
use Rattle.std.specs.Prelude.{◌≡◌, ◌≢◌, ℕ, ◌<◌, List, [], ◌∷◌, ◌++◌, length, map, Result, Ok, Err}
use Rattle.std.specs.List.{Contains}
use Rattle.entry_format.specs.Nodes.{node_of_sealed}
use Rattle.entry_format.specs.SealedEntry.{SealedEntry}
use Rattle.entry_graph.specs.EntryGraph.{EntryGraph}
use Rattle.entry_order.specs.Naming.{IsNew}
use Rattle.evidence.specs.Graphs.{IsSealedGraph}
use Rattle.roster.specs.declared.post.Post.{Post}
use Rattle.rule_language.specs.Forms.{rule_tree}
use Rattle.rule_language.specs.Trees.{RuleTree}
use Rattle.rule_engine.specs.Judged.{IsFirstTooWide}
use Rattle.survivor_rows.specs.Rows.{row_of}
use Rattle.live_auditor.specs.Live.{LiveState, max_added}
use Rattle.live_auditor.specs.declared.fresh.Fresh.{Fresh}
use Rattle.live_auditor.specs.declared.fresh.Fresh.TheVariants.{New, Known}
use Rattle.live_auditor.specs.declared.fresh.LiveFault.{LiveFault}
use Rattle.live_auditor.specs.declared.fresh.LiveFault.TheVariants.{Collision, TooMany, TooWide}
use Rattle.live_auditor.specs.declared.fresh.LiveFault.TheVariants.{Memory}

-- an added entry has e's digest and another text
abbrev pub Collides : List SealedEntry → SealedEntry → Type 0
Collides added e = (f : SealedEntry) × Contains added f × (f.digest ≡ e.digest) × (f.text ≢ e.text)

-- no added entry has e's digest, and one more may be added
abbrev pub HasRoomFor : List SealedEntry → SealedEntry → Type 0
HasRoomFor added e = IsNew node_of_sealed added e × (length added < max_added)

-- the number is the place of the first rule that is too wide over the survivors of these entries
abbrev pub IsTooWideOver : List Post → List RuleTree → List SealedEntry → ℕ → Type 0
IsTooWideOver machines rules entries place =
    (graph : EntryGraph SealedEntry) × IsSealedGraph entries (Ok graph)
    × IsFirstTooWide (map (row_of machines) graph.survivors) rules place

-- the first that applies: an equal entry was added; one with e's digest has another text; as many
-- were added as may be; some rule would be too wide. Otherwise e is new. With each of the three
-- refusals e comes back.
abbrev pub IsAddAnswer : LiveState → SealedEntry → Result Fresh LiveFault → Type 0
IsAddAnswer live e (Ok Known) = Contains live.added e
IsAddAnswer live e (Ok New) = HasRoomFor live.added e
IsAddAnswer live e (Err (Collision back)) = (back ≡ e) × Collides live.added e
IsAddAnswer live e (Err (TooMany back)) =
    (back ≡ e) × IsNew node_of_sealed live.added e × (length live.added ≡ max_added)
IsAddAnswer live e (Err (TooWide back place)) =
    (back ≡ e) × HasRoomFor live.added e
    × IsTooWideOver live.machines (map rule_tree live.rules) (live.added ++ e ∷ []) place
IsAddAnswer live e (Err Memory) = HasRoomFor live.added e

-- what was added afterwards: e too, at the end, where it is new; otherwise the audit is as it was
abbrev pub Becomes : LiveState → SealedEntry → Result Fresh LiveFault → LiveState → Type 0
Becomes live e (Ok New) next = next.added ≡ live.added ++ e ∷ []
Becomes live e (Ok Known) next = next ≡ live
Becomes live e (Err fault) next = next ≡ live

-- the roster and the rules stay
pub record IsOfSameAudit (live next : LiveState) : Type 0 where
  pub machines : next.machines ≡ live.machines
  pub rules : next.rules ≡ live.rules
