use Rattle.demonstration.proofs.Imports.{take, ◌∙◌, ◌+◌, sym, subst}
use Rattle.demonstration.proofs.Ends.{IsLastOf, kept_last, new_last}
use Rattle.demonstration.proofs.kept.last_end.Goals.{then-ends_session, else-ends_session}
use Rattle.demonstration.proofs.kept.last_end.Goals as goal

pub loop-place-preserved : goal.loop-place-preserved
loop-place-preserved c =
    let session = c.args.session in
    let events = c.args.events.now in
    let place = c.loop-place.place in
    let more = c.index-events-place.result in
    let within = c.loop-place-test.true in
    let at = c.index-events-place.is in
    elim c.if-ends_session.branch [
      | then-ends_session w ↦ subst (IsLastOf session (take (place + 1) events)) (sym w.last-is)
          (new_last session events place more c.loop-place.last within at
          (sym c.ends_session.ensures ∙ w.if-ends_session.true))
      | else-ends_session w ↦ subst (IsLastOf session (take (place + 1) events)) (sym w.last-is)
          (kept_last session events place more c.loop-place.last within at c.loop-place.invariant
          (sym c.ends_session.ensures ∙ w.if-ends_session.false))
    ]
