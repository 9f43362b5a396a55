use Rattle.election_script.proofs.Imports.{actions_of, append-nil, eq-eqb, ne_eqb, session_booth, sym, ◌-◌, ◌∙◌}
use Rattle.election_script.proofs.Day.{actions_more}
use Rattle.election_script.proofs.making.actions_of.Goals.{else-booth_of-booth, then-booth_of-booth+in_ok-push_deeds}
use Rattle.election_script.proofs.making.actions_of.Goals as goal

pub loop-session-init : goal.loop-session-init
unfolding actions_of
loop-session-init c = c.new-deeds.ensures.items

-- one session more, of the booth or of another
pub loop-session-preserved : goal.loop-session-preserved
loop-session-preserved c =
    let session = c.loop-session.session in
    let booth = c.args.booth in
    let more = actions_more booth session c.loop-session.auto.session in
    elim c.if-booth_of-booth.branch [
      | then-booth_of-booth+in_ok-push_deeds w ↦
          let own = eq-eqb (session_booth session) booth (sym c.booth_of.ensures ∙ w.if-booth_of-booth.true) in
          rw (w.deeds-is, w.in_ok-push_deeds.ensures, c.loop-session.invariant, more, own)
      | else-booth_of-booth w ↦
          let other = ne_eqb (session_booth session) booth (λ e. w.if-booth_of-booth.false (c.booth_of.ensures ∙ e)) in
          rw (w.deeds-is, c.loop-session.invariant, more, other, append-nil (actions_of booth (session - 1)))
    ]
