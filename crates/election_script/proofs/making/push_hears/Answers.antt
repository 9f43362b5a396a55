use Rattle.election_script.proofs.making.push_hears.Goals as goal
use Rattle.election_script.proofs.{Day.each_more, Day.joined_more, Imports.arith, Imports.Hear}

-- one number more
pub loop-number-preserved : goal.loop-number-preserved
loop-number-preserved c =
    joined_more _ _ _ _ _ _ c.loop-number.invariant c.in_ok-push.ensures.items
    (each_more (λ n. Hear c.args.at c.args.from n) c.args.first c.loop-number.number (omega arith))
