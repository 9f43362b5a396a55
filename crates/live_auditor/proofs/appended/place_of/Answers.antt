use Rattle.live_auditor.proofs.appended.place_of.Goals as goal
use Rattle.live_auditor.proofs.{Finds.looked_at, Imports.ap, Imports.arith, Imports.bytes_eq-Decides, Imports.length}
use Rattle.live_auditor.proofs.Imports.{List, place_of, slice_get-get_or, slice_get_within, Some, sym, ℕ, ◌-◌, ◌<◌, ◌∙◌}

pub returns-then-same_digest-clause-some : goal.returns-then-same_digest-clause-some
returns-then-same_digest-clause-some c =
    let low : c.loop-place.place - 1 < length c.args.digests.now =
    omega (arith, c.loop-place-test.true, c.loop-place.auto.place) in
    slice_get-get_or c.args.digests.now (c.loop-place.place - 1) _ low
    ∙ ap (λ (d : List ℕ). Some d) ((bytes_eq-Decides _ _).0 (sym c.same_digest.ensures ∙ c.if-same_digest.true))

pub loop-place-preserved : goal.loop-place-preserved
loop-place-preserved c =
    let low : c.loop-place.place - 1 < length c.args.digests.now =
    omega (arith, c.loop-place-test.true, c.loop-place.auto.place) in
    looked_at c.args.digests.now c.args.digest.now c.loop-place.place _
    (slice_get-get_or c.args.digests.now (c.loop-place.place - 1) _ low)
    (sym c.same_digest.ensures ∙ c.if-same_digest.false)
    c.loop-place.invariant

pub returns-clause-none : goal.returns-clause-none
returns-clause-none c has =
    let (k, there) = place_of c.args.digests.now c.args.digest.now has in
    c.loop-place.invariant k (omega (arith, c.loop-place-test.false))
    (slice_get_within c.args.digests.now k c.args.digest.now there) there
