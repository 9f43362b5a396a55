use Rattle.log_commands.proofs.Imports.{entries_of, EntryGraph, GivesGraph, IsOrderAmong, refused_or, SealedEntry}
use Rattle.log_commands.proofs.order.order_over.Goals as goal

pub returns-in-Err-clause-told : goal.returns-in-Err-clause-told
returns-in-Err-clause-told c =
    refused_or (GivesGraph (entries_of c.args.logs.items))
    (λ (graph : EntryGraph SealedEntry).
    IsOrderAmong c.args.roster.now.machines graph.survivors c.args.x.now c.args.y.now)
    c.in-Err.fault c.of_fault.result c.of_fault.ensures.ok c.in-Err.ensures.err
