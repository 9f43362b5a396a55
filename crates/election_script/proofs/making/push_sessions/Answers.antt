use Rattle.election_script.proofs.Imports.{append-nil, length-set, refl, session_steps, sym, ◌%◌, ◌-◌, ◌∙◌}
use Rattle.election_script.proofs.Day.{joined_more, made_more, none_made, pieces_more}
use Rattle.election_script.proofs.making.push_sessions.Goals as goal

-- nothing is made before the first
pub loop-session-init : goal.loop-session-init
loop-session-init c = record { steps = sym (append-nil c.args.steps.now.items); three = refl; made = none_made }

-- one session more
pub loop-session-preserved : goal.loop-session-preserved
loop-session-preserved c =
    let session = c.loop-session.session in
    record {
      steps = joined_more _ _ _ _ _ _ c.loop-session.invariant.steps c.in_ok-made.ensures.steps
          (pieces_more session_steps 1 session c.loop-session.auto.session);
      three = length-set c.loop-session.made ((session - 1) % 3) c.in_ok-made.field-0 ∙ c.loop-session.invariant.three;
      made = made_more c.loop-session.made session c.in_ok-made.field-0 c.loop-session.auto.session
          c.loop-session.invariant.three c.loop-session.invariant.made c.in_ok-made.ensures.end;
    }
