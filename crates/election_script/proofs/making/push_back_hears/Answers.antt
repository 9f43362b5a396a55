use Rattle.election_script.proofs.Imports.{arith, Hear, supervisor, ◌≡◌}
use Rattle.election_script.proofs.Day.{each_back, joined_more}
use Rattle.election_script.proofs.making.push_back_hears.Goals as goal

-- one number more, from the last on
pub loop-number-preserved : goal.loop-number-preserved
loop-number-preserved c =
    record {
      within = omega arith;
      heard = joined_more _ _ _ _ _ _ c.loop-number.invariant.heard c.in_ok-push.ensures.items
          (each_back (λ n. Hear supervisor c.args.from n) c.loop-number.number c.args.end (omega arith) (omega arith));
    }

-- all of them
pub returns : goal.returns
returns c =
    let last : c.loop-number.number ≡ c.args.first = omega arith in
    rw last at c.loop-number.invariant.heard
