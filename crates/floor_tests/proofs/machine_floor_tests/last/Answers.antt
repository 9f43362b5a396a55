use Rattle.std.proofs.lemmas.List.Elements.{All-pop}
use Rattle.machine_floor.specs.Stations.{StationState, IsOfLinks, made_of}
use Rattle.floor_tests.proofs.machine_floor_tests.last.Goals as goal

pub returns-clause-of : goal.returns-clause-of
returns-clause-of c =
    (All-pop (λ (s : StationState). IsOfLinks c.args.links.now (made_of s)) c.args.all.now.items c.pop.new.self.items
    c.pop.result c.pop.ensures.items c.requires).1

pub returns-clause-rest : goal.returns-clause-rest
returns-clause-rest c =
    (All-pop (λ (s : StationState). IsOfLinks c.args.links.now (made_of s)) c.args.all.now.items c.pop.new.self.items
    c.pop.result c.pop.ensures.items c.requires).0
