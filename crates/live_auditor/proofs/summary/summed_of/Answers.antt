use Rattle.live_auditor.proofs.Imports.{IfOk-weaker, survivors_have_makers}
use Rattle.live_auditor.proofs.summary.summed_of.Goals as goal

pub summed_by-requires-clause-makers : goal.summed_by-requires-clause-makers
summed_by-requires-clause-makers c =
    survivors_have_makers c.args.roster.now.machines c.args.entries.items c.in-Ok.graph c.requires c.in-Ok.ensures

pub returns-in-Ok-clause-ok : goal.returns-in-Ok-clause-ok
returns-in-Ok-clause-ok c =
    IfOk-weaker c.summed_by.result _ _ (λ summed by. record {
      after = record {
        graph = c.in-Ok.graph;
        graphed = c.in-Ok.ensures;
        survivors = rw by.said;
        gaps = rw by.said;
        strays = rw by.said;
        forks = rw by.said;
        judged = by.judged;
      };
      survivors = by.survivors;
    }) c.summed_by.ensures.ok
