-- The command `make`.
use Rattle.place_commands.proofs.Imports.{Option, Contains, IsOfCommands, HasStatuses, IsCompleted, HasOneAnswer, ◌∙◌}
use Rattle.place_commands.proofs.Imports.{ℕ, List, [], ◌∷◌, refl, sym, arith, All-from_recursion, Answer, make_parts}

-- a number of sessions has one answer
pub make_one : (sessions : ℕ) → HasOneAnswer (make_parts sessions)
make_one sessions [] a b x y = x ∙ sym y
make_one sessions (file ∷ files) a b x y = absurd x

-- `make` is carried out for every number of sessions
pub make_completed : (sessions : ℕ) → IsCompleted (make_parts sessions)
make_completed sessions [] answer right given = rw right tt
make_completed sessions (file ∷ files) answer right given = absurd right

-- and has its status
of_files : (sessions : ℕ) (files : List (Option (List ℕ))) (answer : Answer) →
    (make_parts sessions).IsAnswer files answer → Contains (make_parts sessions).statuses answer.status
of_files sessions [] answer is = rw is (0, omega arith, refl)
of_files sessions (file ∷ files) answer is = absurd is

pub make_has_statuses : (sessions : ℕ) → HasStatuses (make_parts sessions)
make_has_statuses sessions = record {
  own = of_files sessions;
  some = All-from_recursion IsOfCommands (make_parts sessions).statuses (tt, tt);
}
