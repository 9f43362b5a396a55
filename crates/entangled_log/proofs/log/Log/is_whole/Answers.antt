use Rattle.entangled_log.proofs.log.Log.is_whole.Goals as goal
use Rattle.entangled_log.proofs.Imports.{ap, entry_of, Event, held, IsTrue, List, NamesOnlyHeld, not, StandsFor, subst}
use Rattle.entangled_log.proofs.{Imports.sym, Imports.◌↔◌, Imports.◌∙◌, Whole.whole_entries}

-- the frontier describes the events that the call reads
pub wants-requires : goal.wants-requires
wants-requires g c =
    subst (λ (h : List (Event g.row.T.Denot)). StandsFor (λ x. g.T.Knot.node (entry_of x)) h c.self.inside.frontier)
    (sym c.deref.ensures.value) c.self.invariant.stands

pub returns : goal.returns
returns g c =
    let node = g.T.Knot.node in
    subst (λ (h : List (Event g.row.T.Denot)). IsTrue (not c.wants.result) ↔ NamesOnlyHeld node (held h))
    (c.deref.ensures.value ∙ ap (λ log. log.events) c.self.view_is)
    (whole_entries node c.deref.result.now c.wants.result c.wants.ensures)
