use Rattle.hall_outside.proofs.Imports.{arith, None, number_of, sym, ◌∙◌, ◌≡◌}
use Rattle.hall_outside.proofs.Begins.{taken_shown}
use Rattle.hall_outside.proofs.placing_store.read_shown.Goals as goal

pub returns-clause-taken : goal.returns-clause-taken
returns-clause-taken g c =
    let none : number_of c.args.begun.now c.args.name.now ≡ None =
    grind (arith, c.number_of.ensures, c.is_some.ensures) in
    rw c.taken.ensures (taken_shown c.args.begun.now _ c.args.name.now _ _ _ _ none
    (sym c.is_other.ensures ∙ c.if-is_other.false) c.in_ok-given.ensures.given)
