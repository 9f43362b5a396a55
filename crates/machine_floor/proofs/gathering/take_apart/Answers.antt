use Rattle.machine_floor.proofs.gathering.take_apart.Goals as goal
use Rattle.machine_floor.proofs.Imports.{[], ap, append_assoc, into_iter_items, lists_of, lists_push, sym, ◌++◌, ◌∙◌}
use Rattle.machine_floor.proofs.{Imports.◌∷◌, Parted.parts_push}

pub loop-station-preserved : goal.loop-station-preserved
loop-station-preserved c =
    let (taken, in_all, parted) = c.loop-station.invariant in
    let parts = c.into_parts-parts.result in
    let is = c.into_parts-parts.ensures in
    let l = c.loop-station in
    let s = c.in-Some.station in (
      taken ++ s ∷ [],
      append_assoc taken (s ∷ []) (into_iter_items c.next.new.self)
          ∙ ap (λ l. taken ++ l) (sym c.in-Some.ensures.steps.0) ∙ in_all,
      rw (
        c.in_ok-push.ensures.items,
        is.machine,
        lists_push l.outs.items c.push-in-loop-station.new.self.items parts.outs c.in_ok-push-2.ensures.items,
        is.outs,
        lists_push l.inns.items c.push-in-loop-station-2.new.self.items parts.inns c.in_ok-push-3.ensures.items,
        is.inns,
        c.in_ok-add_all.ensures,
        is.losses,
        lists_push l.by.items c.push-in-loop-station-3.new.self.items c.in_ok-passes_of.field-0
            c.in_ok-push-4.ensures.items,
        c.in_ok-passes_of.ensures,
        is.ticks,
      ) (parts_push taken l.machines.items (lists_of l.outs.items) (lists_of l.inns.items) l.losses.items
          (lists_of l.by.items) s parted is.is),
    )
