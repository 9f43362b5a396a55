use Rattle.machine_floor.proofs.Imports.{◌∙◌, made_of, length-map}
use Rattle.machine_floor.proofs.Collected.{ends_are, collected}
use Rattle.machine_floor.proofs.gathering.gather.Goals as goal

pub finish_links-requires : goal.finish_links-requires
finish_links-requires g c =
    let p = c.in_ok-machines.ensures in
    rw (p.outs_are, p.inns_are) (ends_are c.requires.0 c.args.links c.args.stations.items p.all c.requires.1)

pub returns : goal.returns
returns g c = λ script roster new.
    let p = c.in_ok-machines.ensures in
    let count = new.rows ∙ length-map c.args.stations.items made_of in
    rw (p.machines_are, p.losses_are, p.by_are) (collected script c.args.links c.args.stations.items p.all new
    c.in_ok-waits.waits.items (rw (count, p.outs_are, p.inns_are) at c.in_ok-waits.ensures) c.args.roster.machines
    roster)
