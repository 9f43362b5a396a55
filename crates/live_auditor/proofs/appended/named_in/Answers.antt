use Rattle.live_auditor.proofs.Imports.{append-nil, None, Some}
use Rattle.live_auditor.proofs.Finds.{finds_more, place_nowhere, place_stands}
use Rattle.live_auditor.proofs.appended.named_in.Goals.{in-Some+in_ok-push-in-Some, in-None+in_ok-push-in-None}
use Rattle.live_auditor.proofs.appended.named_in.Goals as goal

pub loop-name-preserved : goal.loop-name-preserved
loop-name-preserved c once =
    let digests = c.args.digests.now in
    let more = finds_more digests c.args.names.now c.loop-name.name-index in
    let within = c.loop-name-test.true in
    let finds = c.loop-name.invariant once in
    elim c.match-place_of.branch [
      | in-Some+in_ok-push-in-Some w ↦
          rw (w.parents-is, w.in_ok-push-in-Some.ensures.items, w.missing-is)
          (rw append-nil at (more _ (Some w.in-Some.place) c.loop-name.parents.items c.loop-name.missing.items within
          (place_stands digests w.in-Some.place _ once w.in-Some.ensures.some) finds))
      | in-None+in_ok-push-in-None w ↦
          rw (w.parents-is, w.missing-is, w.in_ok-push-in-None.ensures.items)
          (rw append-nil at (more _ None c.loop-name.parents.items c.loop-name.missing.items within
          (place_nowhere digests _ w.in-None.ensures.none) finds))
    ]
