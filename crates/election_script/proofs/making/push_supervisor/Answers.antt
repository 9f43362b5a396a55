use Rattle.election_script.proofs.Imports.{Act, ap, arith, Hear, List, Step, supervisor, ℕ, ◌∷◌, ◌≡◌}
use Rattle.election_script.proofs.Day.{each_more, joined_more}
use Rattle.election_script.proofs.making.push_supervisor.Goals as goal

-- one booth more
pub loop-at-preserved : goal.loop-at-preserved
loop-at-preserved c =
    let at = c.loop-at.at in
    let hear : ℕ → Step = λ booth. Hear booth supervisor c.args.number in
    joined_more _ _ _ _ _ _ c.loop-at.invariant c.in_ok-push-2.ensures.items
    (ap (λ (l : List Step). Act supervisor ∷ l) (each_more hear 1 at (omega arith)))

-- all three
pub returns : goal.returns
returns c =
    let last : c.loop-at.at ≡ 4 = omega arith in
    rw last at c.loop-at.invariant
