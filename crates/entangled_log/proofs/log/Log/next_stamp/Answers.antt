use Rattle.entangled_log.proofs.Imports.{List, ◌<◌, ap, subst, rules, ◌↔◌, IsNone, Event, held, HasGreatestStamp}
use Rattle.entangled_log.proofs.Greatest.{none_exactly}
use Rattle.entangled_log.proofs.log.Log.next_stamp.Goals as goal

pub returns-clause-none : goal.returns-clause-none
returns-clause-none g c =
    let node = g.T.Knot.node in
    let fits : c.self.inside.top < 4294967296 = search rules in
    subst (λ (h : List (Event g.row.T.Denot)). IsNone c.checked_add.result ↔ HasGreatestStamp node (held h))
    (ap (λ log. log.events) c.self.view_is)
    (none_exactly node c.checked_add.result (held c.self.inside.events.items) c.self.inside.top
    c.self.invariant.greatest fits c.checked_add.ensures)
