use Rattle.live_auditor.proofs.survivors.Grown.link.Goals as goal

pub returns-clause-falls : goal.returns-clause-falls
returns-clause-falls c = rw c.self.view_is at c.self.invariant.0
