-- What is so of each world of an honest polling place, however its steps came about.
use Rattle.std.specs.Prelude.{◌≡◌, ◌≤◌, List, length, Ok}
use Rattle.std.specs.List.{Contains}
use Rattle.election_script.specs.Lawful.{max_actions}
use Rattle.roster.specs.declared.post.Post.{Post}
use Rattle.roster.specs.Machines.{max_machines}
use Rattle.entry_format.specs.Nodes.{node_of_sealed}
use Rattle.entry_format.specs.SealedEntry.{SealedEntry}
use Rattle.entry_format.specs.Unsealing.{Unseals}
use Rattle.entry_order.specs.Receipt.{IsOrderly}
use Rattle.entry_order.specs.World.{World, sent_in}
use Rattle.polling_world.specs.Making.{election_of}

-- Its machines are those of the roster, at most 16, and sent at most 4,096 entries, as many as a
-- script has actions. Each history is legal, and what was got was sent. The text of each entry that
-- was sent is valid under the roster, in the roster's election, and is that entry's (Auditorium,
-- EVT 2007).
pub record IsHonestWorld (posts : List Post) (w : World SealedEntry) : Type 0 where
  pub one_each : length w ≡ length posts
  pub few_machines : length posts ≤ max_machines
  pub few_sent : length (sent_in w) ≤ max_actions
  pub orderly : IsOrderly node_of_sealed w
  pub valid : (e : SealedEntry) → Contains (sent_in w) e → Unseals posts (election_of posts) e.text (Ok e)
