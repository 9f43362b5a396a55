use Rattle.machine_floor.proofs.running.run_floor.Goals as goal
use Rattle.machine_floor.proofs.{Imports.AreNewStations, Imports.arith, Imports.made_of, Imports.map, Worked.still_made}
use Rattle.machine_floor.proofs.running.run_floor.{Given.Over, Goals.In_ok-stations}

pub work_all-requires-clause-links : goal.work_all-requires-clause-links
work_all-requires-clause-links g c = λ u lives. c.in_ok-roster.ensures.links

pub work_all-requires-clause-first : goal.work_all-requires-clause-first
work_all-requires-clause-first g c = λ u lives. c.in_ok-roster.ensures.first

-- the stations that come back are made as the script's new ones
made : (g : Over) (c : In_ok-stations g) →
    AreNewStations c.args.script.now c.in_ok-roster.field-0.links (map made_of c.in_ok-stations.stations.items)
made g c =
    let given_fits = c.in_ok-roster.field-0.stations.ok.0 in
    still_made c.args.script.now c.in_ok-roster.field-0.links c.in_ok-roster.field-0.stations.items
    c.in_ok-stations.stations.items c.in_ok-roster.ensures.new
    (let back_fits = c.in_ok-stations.stations.ok.0 in let n = c.in_ok-stations.ensures.count in omega arith)
    (λ i d lt. c.in_ok-stations.ensures.made i d (omega arith))

pub gather-requires : goal.gather-requires
gather-requires g c = (c.args.script.now, made g (goal.at.gather-requires g c).In_ok-stations)

pub finish_floor-requires-clause-gathered : goal.finish_floor-requires-clause-gathered
finish_floor-requires-clause-gathered g c =
    c.in_ok-gathered.ensures c.args.script.now c.in_ok-roster.ensures.roster
    (made g (goal.at.finish_floor-requires-clause-gathered g c).In_ok-stations)
