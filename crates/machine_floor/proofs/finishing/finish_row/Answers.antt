use Rattle.machine_floor.proofs.finishing.finish_row.Goals as goal
use Rattle.machine_floor.proofs.{Drops.lists_many, Imports.AreMadeBy, Imports.arith, Imports.IsInOf, Imports.IsOutOf}
use Rattle.machine_floor.proofs.{Imports.◌≢◌, Rests.fits, Rests.rowing_all, Rests.rowing_more}
use Rattle.machine_floor.proofs.finishing.finish_row.{Given.Over, Goals.After-pop_at-inn}

-- the ends that were read are the link's
read : (g : Over) (c : After-pop_at-inn g) → IsOutOf c.in-Some.link c.in-Some-next.out ×
    IsInOf c.in-Some.link c.pop_at-inn.result ×
    (c.args.from ≢ c.loop-to.to → AreMadeBy c.args.from c.in-Some-next.out.put)
read g c =
    fits c.loop-to.invariant c.requires.ends
    (let k = c.args.inns.now.ok.0 in omega (arith, lists_many c.args.inns.now.items)) c.in-Some.link _
    c.in-Some-next.out _ c.pop_at-inn.result _ c.in-Some.ensures.items c.in-Some-next.ensures.items c.pop_at-inn.ensures

pub finish_one-requires-clause-out : goal.finish_one-requires-clause-out
finish_one-requires-clause-out g c = (read g (goal.at.finish_one-requires-clause-out g c).After-pop_at-inn).0

pub finish_one-requires-clause-inn : goal.finish_one-requires-clause-inn
finish_one-requires-clause-inn g c = (read g (goal.at.finish_one-requires-clause-inn g c).After-pop_at-inn).1

pub finish_one-requires-clause-makers : goal.finish_one-requires-clause-makers
finish_one-requires-clause-makers g c = (read g (goal.at.finish_one-requires-clause-makers g c).After-pop_at-inn).2

pub loop-to-preserved : goal.loop-to-preserved
loop-to-preserved g c =
    rowing_more c.loop-to.invariant c.requires.ends
    (let k = c.args.inns.now.ok.0 in omega (arith, lists_many c.args.inns.now.items)) c.in-Some.link _
    c.in-Some-next.out _ c.pop_at-inn.result _ c.in-Some.ensures.items c.in-Some-next.ensures.items c.pop_at-inn.ensures
    c.finish_one.new.waits.items c.in_ok-finish_one.ensures

pub returns : goal.returns
returns g c =
    rowing_all c.loop-to.invariant c.requires.ends
    (let k = c.args.inns.now.ok.0 in omega (arith, lists_many c.args.inns.now.items))
