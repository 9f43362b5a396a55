-- Which ruled queue a link or a lock is built on, in a record that their contracts can name.
use Rattle.std.specs.Prelude.{ℕ, List, Option}
use Rattle.crossbeam_queue.specs.Passes.{Pass}
use Rattle.crossbeam_queue.specs.declared.array_queue.Doing.{Doing}
use Rattle.crossbeam_queue.specs.declared.array_queue.Slotted.{Slotted}

-- the numbers by which a queue is known: no two queues that exist at once have the same
pub record QueueId : Type 0 where
  pub words : ℕ
  pub slots : ℕ
  pub views_name : ℕ
  pub atom : ℕ
  pub block : ℕ
  pub offset : ℕ
  pub slot_names : List ℕ

-- the queue to which the pass belongs
abbrev pub queue_of_pass : {T V : Type 0} → Pass T V → QueueId
queue_of_pass p = record {
  words = p.table_id.words;
  slots = p.table_id.slots;
  views_name = p.table_id.views_name;
  atom = p.table_id.atom;
  block = p.table_id.block;
  offset = p.table_id.offset;
  slot_names = p.table_id.slot_names;
}

-- which queue it is
abbrev pub id_of : {T V Q A : Type 0} → Slotted (Option T) (Doing T V) Q A → QueueId
id_of q = record {
  words = q.table.shared.table_id.words;
  slots = q.table.shared.table_id.slots;
  views_name = q.table.shared.table_id.views_name;
  atom = q.table.shared.table_id.atom;
  block = q.table.shared.table_id.block;
  offset = q.table.shared.table_id.offset;
  slot_names = q.table.shared.table_id.slot_names;
}
