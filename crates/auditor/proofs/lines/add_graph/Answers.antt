use Rattle.auditor.proofs.Makers.{forks_have_makers}
use Rattle.auditor.proofs.lines.add_graph.Goals as goal

pub add_forks-requires : goal.add_forks-requires
add_forks-requires c =
    rw c.forks.ensures.value
    (forks_have_makers c.args.roster.now.machines c.args.graph.now.survivors c.args.graph.now.forks c.requires
    c.forks.ensures.kept.forks)
