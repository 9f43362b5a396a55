use Rattle.entangled_log.proofs.log.Log.holds.Goals as goal
use Rattle.entangled_log.proofs.Imports.{ap, entry_of, Event, held, IsBorneIn, IsTrue, List, StandsFor, subst, sym, ◌↔◌}
use Rattle.entangled_log.proofs.{Imports.◌∙◌, Whole.holds_entries}

-- the frontier describes the events that the call reads
pub bears-requires : goal.bears-requires
bears-requires g c =
    subst (λ (h : List (Event g.row.T.Denot)). StandsFor (λ x. g.T.Knot.node (entry_of x)) h c.self.inside.frontier)
    (sym c.deref.ensures.value) c.self.invariant.stands

pub returns : goal.returns
returns g c =
    let node = g.T.Knot.node in
    let digest = c.args.digest.now in
    subst (λ (h : List (Event g.row.T.Denot)). IsTrue c.bears.result ↔ IsBorneIn node (held h) digest)
    (c.deref.ensures.value ∙ ap (λ log. log.events) c.self.view_is)
    (holds_entries node c.deref.result.now digest c.bears.result c.bears.ensures)
