use Rattle.live_auditor.proofs.{Additions.given_lower, AfterBase.lower_lower}
use Rattle.live_auditor.proofs.base.Base.raised.Goals as goal

pub summed_from-requires-clause-given : goal.summed_from-requires-clause-given
summed_from-requires-clause-given c =
    rw c.in_ok-entries.ensures (given_lower c.args.added.now c.args.below c.requires.given)

pub summed_from-requires-clause-first : goal.summed_from-requires-clause-first
summed_from-requires-clause-first c =
    rw (c.in_ok-entries.ensures, lower_lower c.args.self.now.below c.args.below c.args.added.now c.requires.higher)
    c.requires.base
