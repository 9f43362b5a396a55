use Rattle.entangled_log.proofs.log.Log.missing.Goals as goal
use Rattle.entangled_log.proofs.Imports.{ap, entry_of, Event, gaps, held, IfOk-weaker, List, StandsFor, subst, sym, ◌∙◌}
use Rattle.entangled_log.proofs.Missing.{gaps_held}

-- the frontier describes the events that the call reads
pub missing-requires : goal.missing-requires
missing-requires g c =
    subst (λ (h : List (Event g.row.T.Denot)). StandsFor (λ x. g.T.Knot.node (entry_of x)) h c.self.inside.frontier)
    (sym c.deref.ensures.value) c.self.invariant.stands

pub returns : goal.returns
returns g c =
    let node = g.T.Knot.node in
    IfOk-weaker c.missing.result _ _
    (λ digests is. is ∙ gaps_held node c.deref.result.now
    ∙ ap (λ (h : List (Event g.row.T.Denot)). gaps node (held h))
    (c.deref.ensures.value ∙ ap (λ log. log.events) c.self.view_is))
    c.missing.ensures
