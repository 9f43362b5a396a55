use Rattle.log_commands.proofs.order.is_lower.Goals as goal
use Rattle.log_commands.proofs.{EntryPlaces.lower_at, Imports.ap, Imports.is_lt, Imports.◌∙◌}

pub returns-in-Some : goal.returns-in-Some
returns-in-Some c = rw c.in-Some.is
    (lower_at c.args.graph.now.survivors c.args.at c.in-Some.other c.node-in-Some.result.now c.node.result.now
    c.digest.result.now c.digest-digest.result.now c.is_lt.result c.node-in-Some.ensures.value c.node.ensures.value
    c.digest.ensures.value c.digest-digest.ensures.value (c.is_lt.ensures ∙ ap is_lt c.cmp.ensures))
