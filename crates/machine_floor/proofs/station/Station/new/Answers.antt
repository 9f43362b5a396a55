use Rattle.machine_floor.proofs.station.Station.new.Goals as goal
use Rattle.machine_floor.proofs.{Beginnings.IsStation-begun, Imports.ap, Imports.arith, Imports.History, Imports.◌∙◌}

pub invariant_of-result : goal.invariant_of-result
invariant_of-result c =
    let own = c.owner-own.ensures ∙ ap (λ (h : History _). h.owner) c.log.ensures.log in
    let e = c.in_ok-loses.ensures in (
      rw (e.loses, own, e.losses.0, e.ticks.0) (IsStation-begun c.args.script.now c.args.machine c.args.outs.items
          c.args.inns.items c.requires c.log.ensures.machine),
      e.losses.1,
      (let k = e.ticks.1 in let l = c.requires.log in omega arith),
    )

pub returns : goal.returns
returns c =
    let own = c.owner-own.ensures ∙ ap (λ (h : History _). h.owner) c.log.ensures.log in
    let e = c.in_ok-loses.ensures in rw (e.loses, own, e.losses.0, e.ticks.0)
