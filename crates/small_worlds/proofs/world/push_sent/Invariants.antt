use Rattle.std.proofs.Common.{◌≡◌, ◌++◌, drop}
use Rattle.entry_order.specs.History.{sent}
use Rattle.small_worlds.proofs.world.push_sent.Given as goal

abbrev pub invariant-loop-event : goal.invariant-loop-event
invariant-loop-event g l = l.entries.items ++ sent (drop l.event-index l.history) ≡ l.fn.entries.items ++ sent l.history
