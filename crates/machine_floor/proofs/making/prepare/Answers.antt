use Rattle.machine_floor.proofs.Imports.{length, ap, ◌∙◌, arith, lists_of, AreNewLinks, into_iter_items}
use Rattle.machine_floor.proofs.Drops.{none_in}
use Rattle.machine_floor.proofs.FirstStations.{first_none, next_key, next_within, outs_there, inns_there}
use Rattle.machine_floor.proofs.FirstStations.{may_begin, one_more, all_new, all_workable}
use Rattle.machine_floor.proofs.making.prepare.Goals as goal
use Rattle.machine_floor.proofs.making.prepare.Goals.{After-into_iter-inns}

pub loop-key-init : goal.loop-key-init
loop-key-init c = λ links are. rw c.new-all.ensures.items (first_none c.args.script.now links _ _ _
    (c.into_iter-key-iterator.ensures.into_iter_gives.0 ∙ c.requires.keys))

-- the links that were made are those of the ends that are left to be given
are : (c : After-into_iter-inns) → AreNewLinks (length c.args.script.now.machines) c.args.script.now.link
    c.in_ok-links.field-0.links (lists_of (into_iter_items c.into_iter-outs.result))
    (lists_of (into_iter_items c.into_iter-inns.result))
are c = rw (← c.as_slice-count.ensures, c.into_iter-outs.ensures.rest, c.into_iter-inns.ensures.rest)
    c.in_ok-links.ensures

pub overflow_cast-at : goal.overflow_cast-at
overflow_cast-at c =
    let within = next_within (c.loop-key.invariant _ (are (goal.at.overflow_cast-at c).After-into_iter-inns))
    c.in-Some.ensures.steps.0 (c.len-at.ensures ∙ c.loop-key.all.ok.0) in
    let few = c.requires.lawful.machines.few.1 in
    omega arith

pub station_of-requires-clause-at : goal.station_of-requires-clause-at
station_of-requires-clause-at c =
    next_within (c.loop-key.invariant _ (are (goal.at.station_of-requires-clause-at c).After-into_iter-inns))
    c.in-Some.ensures.steps.0 (c.len-at.ensures ∙ c.loop-key.all.ok.0)

pub station_of-requires-clause-key : goal.station_of-requires-clause-key
station_of-requires-clause-key c =
    next_key (c.loop-key.invariant _ (are (goal.at.station_of-requires-clause-key c).After-into_iter-inns))
    c.in-Some.ensures.steps.0 (c.len-at.ensures ∙ c.loop-key.all.ok.0)

pub unreachable-requires : goal.unreachable-requires
unreachable-requires c =
    let new = are (goal.at.unreachable-requires c).After-into_iter-inns in
    outs_there (c.loop-key.invariant _ new) c.in-Some.ensures.steps.0 (c.len-at.ensures ∙ c.loop-key.all.ok.0)
    c.requires.lawful new
    (ap lists_of (none_in (into_iter_items c.loop-key.outs) (omega (arith, c.in_default.ensures.cases))))

pub unreachable-requires-in_default-next : goal.unreachable-requires-in_default-next
unreachable-requires-in_default-next c =
    let new = are (goal.at.unreachable-requires-in_default-next c).After-into_iter-inns in
    inns_there (c.loop-key.invariant _ new) c.in-Some.ensures.steps.0 (c.len-at.ensures ∙ c.loop-key.all.ok.0)
    c.requires.lawful new
    (ap lists_of (none_in (into_iter_items c.loop-key.inns) (omega (arith, c.in_default-next.ensures.cases))))

pub station_of-requires-clause-ends : goal.station_of-requires-clause-ends
station_of-requires-clause-ends c = λ stop m stops fresh.
    let new = are (goal.at.station_of-requires-clause-ends c).After-into_iter-inns in
    may_begin (c.loop-key.invariant _ new) c.in-Some.ensures.steps.0 (c.len-at.ensures ∙ c.loop-key.all.ok.0)
    c.requires.lawful new c.in-Some-next.ends_out.items _ c.in-Some-next-2.ends_in.items _
    (ap lists_of c.in-Some-next.ensures.items) (ap lists_of c.in-Some-next-2.ensures.items) stop m stops fresh

pub loop-key-preserved : goal.loop-key-preserved
loop-key-preserved c = λ links new.
    let has = c.in_ok-station_of.ensures in
    one_more (c.loop-key.invariant links new) c.in-Some.ensures.steps.0 (c.len-at.ensures ∙ c.loop-key.all.ok.0)
    c.requires.lawful new c.in-Some-next.ends_out.items _ c.in-Some-next-2.ends_in.items _
    (ap lists_of c.in-Some-next.ensures.items) (ap lists_of c.in-Some-next-2.ensures.items) has.stop has.machine
    has.stops has.fresh c.in_ok-station_of.field-0 c.push.new.self.items has.is c.in_ok-push.ensures.items

pub returns-clause-new : goal.returns-clause-new
returns-clause-new c =
    let new = are (goal.at.returns-clause-new c).After-into_iter-inns in
    all_new (c.loop-key.invariant _ new) (omega (arith, c.in-None.ensures.steps.0)) new.rows

pub returns-clause-links : goal.returns-clause-links
returns-clause-links c =
    let new = are (goal.at.returns-clause-links c).After-into_iter-inns in
    (all_workable (all_new (c.loop-key.invariant _ new) (omega (arith, c.in-None.ensures.steps.0)) new.rows)).0

pub returns-clause-first : goal.returns-clause-first
returns-clause-first c =
    let new = are (goal.at.returns-clause-first c).After-into_iter-inns in
    (all_workable (all_new (c.loop-key.invariant _ new) (omega (arith, c.in-None.ensures.steps.0)) new.rows)).1
