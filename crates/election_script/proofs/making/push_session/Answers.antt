use Rattle.election_script.proofs.making.push_session.Goals as goal
use Rattle.election_script.proofs.{Day.deeds_few, Day.first_few, Day.session_joined, Imports.arith}

-- entries are few
pub overflow_add-end : goal.overflow_add-end
overflow_add-end c =
    let few = first_few c.args.session (omega arith) in
    omega (arith, c.count_deeds-count.ensures, deeds_few c.args.session, c.requires.first)

-- the steps of the session in their order
pub returns-clause-steps : goal.returns-clause-steps
returns-clause-steps c =
    session_joined c.args.session _ _ _ _ _ _ _ _ c.booth_of-booth.ensures c.requires.first c.count_deeds-count.ensures
    c.in_ok-push_supervisor.ensures c.in_ok-push_acts.ensures c.in_ok-push_back_hears.ensures
    c.in_ok-push_others.ensures
