use Rattle.entry_graph.proofs.strays.is_stray.Goals as goal
use Rattle.entry_graph.proofs.{Imports.◌∙◌, StrayFacts.stray_is_told}

pub returns : goal.returns
returns g c = λ given single stamps.
    c.names_from.ensures ∙ stray_is_told g.T.Knot.node given c.args.entry.now c.args.stamps.now single stamps
