-- An audit that goes on while entries come.
use Rattle.std.specs.Prelude.{◌≡◌, ℕ, ◌<◌, ◌≤◌, List, length, map, All}
use Rattle.entry_format.specs.Nodes.{node_of_sealed}
use Rattle.entry_format.specs.SealedEntry.{SealedEntry}
use Rattle.entry_format.specs.Unsealing.{key_at}
use Rattle.entry_graph.specs.Given.{distinct}
use Rattle.roster.specs.declared.post.Post.{Post}
use Rattle.rule_language.specs.declared.formula.Rule.{Rule}
use Rattle.rule_language.specs.Forms.{rule_tree}
use Rattle.live_auditor.specs.Summary.{Summary, After}

-- the machines of the roster, the rules, the entries that were added, each once, in the order in
-- which they came, and what is said of them
pub record LiveState : Type 0 where
  pub machines : List Post
  pub rules : List Rule
  pub added : List SealedEntry
  pub summary : Summary

-- the most entries
abbrev pub max_added : ℕ
max_added = 1024

-- the entry's maker is one of the machines, and its key is that machine's, as of each entry that is
-- unsealed with them
pub record IsOfMachine (machines : List Post) (sealed : SealedEntry) : Type 0 where
  pub maker : sealed.entry.maker < length machines
  pub key : sealed.key ≡ key_at machines sealed.entry.maker

-- what always holds: at most 1,024 entries were added, all of the machines, no two have one digest,
-- and what is said is what there is to say of them
pub record IsLive (live : LiveState) : Type 0 where
  pub few : length live.added ≤ max_added
  pub of_machines : All (IsOfMachine live.machines) live.added
  pub once : distinct node_of_sealed live.added ≡ live.added
  pub after : After live.machines (map rule_tree live.rules) live.added live.summary
