use Rattle.entangled_log.proofs.Imports.{List, ℕ, ◌≡◌, ◌<◌, ◌+◌, ◌∙◌, ap, sym, subst, length, arith, rules, Event}
use Rattle.entangled_log.proofs.Imports.{entry_of, held, greatest_stamp, few_sent, IsFrontierAt, History}
use Rattle.entangled_log.proofs.Own.{own_count}
use Rattle.entangled_log.proofs.log.Log.next.Goals as goal

-- at most as many were sent as the greatest stamp says, and that fits
pub overflow_cast-result : goal.overflow_cast-result
overflow_cast-result g c =
    let node = g.T.Knot.node in
    let events = c.self.inside.events.items in
    let few = few_sent node c.self.inside.owner events c.self.invariant.legal in
    let count = own_count events c.self.inside.own.items c.self.invariant.own_places in
    let stamp =
    c.in-Some.ensures.stamp
    ∙ ap (λ (log : History g.row.T.Denot). 1 + greatest_stamp node (held log.events)) (sym c.self.view_is) in
    let fits : c.in-Some.stamp < 4294967296 = search rules in
    let is : c.len.result ≡ length c.self.inside.own.items = search rules in
    omega (arith, few, count, stamp, fits, is)

-- the places are the frontier of the events that the call reads
pub frontier_at-requires : goal.frontier_at-requires
frontier_at-requires g c =
    let node = g.T.Knot.node in
    subst (λ (h : List (Event g.row.T.Denot)). IsFrontierAt (λ x. node (entry_of x)) h c.list.result.now)
    (sym c.deref.ensures.value)
    (subst (λ (ps : List ℕ). IsFrontierAt (λ x. node (entry_of x)) c.self.inside.events.items ps) (sym c.list.ensures)
    c.self.invariant.stands.front)
