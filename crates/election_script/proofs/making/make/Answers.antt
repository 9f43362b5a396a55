use Rattle.election_script.proofs.Imports.{count_actions, max_actions, subst, sym, ◌∙◌, ◌≤◌}
use Rattle.election_script.proofs.Day.{count_few, generated_is_lawful}
use Rattle.election_script.proofs.making.make.Goals as goal

-- the machines do little enough
pub count_actions-requires : goal.count_actions-requires
count_actions-requires c =
    subst (λ machines. count_actions machines ≤ max_actions) (sym (c.as_slice.ensures ∙ c.in_ok-machines.ensures))
    (count_few c.args.n c.requires.1)

-- each part is the day's
pub returns-clause-lawful : goal.returns-clause-lawful
returns-clause-lawful c =
    simp (c.from_vec.ensures, c.in_ok-seed.ensures.items, c.count_actions.ensures, c.as_slice.ensures)
    (simp (c.in_ok-machines.ensures, c.new.ensures, c.new-2.ensures, c.from_vec-2.ensures, c.in_ok-steps.ensures)
    (generated_is_lawful c.args.n c.requires.0 c.requires.1))
