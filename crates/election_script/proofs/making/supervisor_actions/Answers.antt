use Rattle.election_script.proofs.making.supervisor_actions.Goals as goal
use Rattle.election_script.proofs.{Day.each_more, Imports.authorise_of}

-- one session more
pub loop-session-preserved : goal.loop-session-preserved
loop-session-preserved c =
    let more = each_more authorise_of 1 c.loop-session.session c.loop-session.auto.session in
    rw (c.in_ok-push-2.ensures.items, c.loop-session.invariant, c.booth_of-booth.ensures, more)
