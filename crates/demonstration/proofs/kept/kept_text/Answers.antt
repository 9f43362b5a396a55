use Rattle.demonstration.proofs.Imports.{◌∙◌, ◌+◌, length, ap, inl, inr, arith}
use Rattle.demonstration.proofs.Records.{after_within, cut_is}
use Rattle.demonstration.proofs.kept.kept_text.Goals as goal

pub begin_of-end-requires : goal.begin_of-end-requires
begin_of-end-requires c =
    let log = c.args.log.now in
    omega (
      arith,
      after_within log.owner c.events-events.result.now log.events (c.in-Some.place + 1) c.as_slice.result.now
          c.events-events.ensures.events (c.as_slice.ensures.value ∙ c.in_ok-text.ensures.text),
    )

pub returns-in-Some : goal.returns-in-Some
returns-in-Some c =
    let log = c.args.log.now in
    let place = c.in-Some.place in
    inl (
      place,
      rw c.events-events.ensures.events at c.in-Some.ensures,
      c.truncate.ensures.items
          ∙ cut_is log.owner c.events-events.result.now log.events (place + 1) c.in_ok-text.text.items
          c.events-events.ensures.events c.in_ok-text.ensures.text c.begin_of-end.result
          (omega (arith, c.begin_of-end.ensures, ap length c.as_slice.ensures.value)),
    )

pub returns-in-None : goal.returns-in-None
returns-in-None c =
    inr (rw c.events-events.ensures.events at c.in-None.ensures, c.in_ok-text.ensures.text)
